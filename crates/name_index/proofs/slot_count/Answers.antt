-- `name_index::slot_count` meets its contract: a shift by the bits of the doubled count less one.
use Rattle.std.proofs.Common.{◌≡◌, ℕ, zero, suc, ◌+◌, ◌-◌, ◌*◌, ◌%◌, ◌^◌, ◌<◌, ◌≤◌, Bool, true, false, leb, sym, refl, ap, ◌∙◌, mod-eq_of_lt, one-mul, arith, leb-false, leb-true}
use native.Mathlib.Nat.{pow-le-pow_right}
use lib.Pow.{pow-lt}
use lib.Count.{count_leading_zeros, leading_of_zero, leading_le, leading_top}
use Rattle.format.specs.NameIndex.{slot_count}
use Rattle.name_index.proofs.SlotCount.{slots-shift}
use Rattle.name_index.proofs.slot_count.Goals as goal

pub returns-then-m-eq0 : goal.returns-then-m-eq0
unfolding slot_count
returns-then-m-eq0 c = rw c.if-m-eq0.true refl

pub overflow_sub-result-2 : goal.overflow_sub-result-2
overflow_sub-result-2 c = leading_le 32 _

-- fewer than 32 bits
few : (v : ℕ) → v < 2 ^ 31 → 32 - count_leading_zeros 32 v < 32
few zero h = omega (arith, leading_of_zero 32)
few (suc w) h = go (leb 31 top.0) refl
  where
    top : (j : ℕ) × (count_leading_zeros 32 (suc w) + suc j ≡ 32) × (2 ^ j ≤ suc w) × (suc w < 2 ^ suc j)
    top = leading_top 32 (suc w) (omega arith) (omega (arith, h))

    go : (t : Bool) → leb 31 top.0 ≡ t → 32 - count_leading_zeros 32 (suc w) < 32
    go true q = absurd (omega (arith, h, top.2, pow-le-pow_right {n = 2} (omega arith) {i = 31} {j = top.0} (leb-true 31 top.0 q)))
    go false q = omega (arith, top.1, leb-false 31 top.0 q)

pub overflow_shl-result : goal.overflow_shl-result
overflow_shl-result c = few _ (omega (arith, c.requires))

pub returns : goal.returns
returns c =
    let m : ℕ = c.args.m in
    let e : slot_count m ≡ 2 ^ (32 - count_leading_zeros 32 (2 * m - 1)) = slots-shift m (omega arith) (omega (arith, c.requires)) in
    let l : 2 ^ (32 - count_leading_zeros 32 (2 * m - 1)) < 2 ^ 32 = pow-lt (few (2 * m - 1) (omega (arith, c.requires))) in
    ap (λ v. v % 2 ^ 32) (one-mul (2 ^ (32 - count_leading_zeros 32 (2 * m - 1)))) ∙ mod-eq_of_lt l ∙ sym e
