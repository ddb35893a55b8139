-- `name_index::first_slot` meets its contract: `n` is the power of two that its leading zeros give.
use Rattle.std.proofs.Common.{◌≡◌, ◌-◌, ◌*◌, ◌%◌, ◌^◌, ◌<◌, ◌≤◌, sym, ap, ◌∙◌, mod-lt, mod-eq_of_lt, one-mul, arith}
use lib.Count.{count_leading_zeros}
use Rattle.name_index.proofs.SlotCount.{power-some, power-shift}
use Rattle.name_index.proofs.first_slot.Goals as goal
use Rattle.name_index.proofs.first_slot.Goals.{Start}

-- the shift makes `n` again
shift : (s : Start) → (count_leading_zeros 32 s.args.n ≤ 31) × (s.args.n ≡ 2 ^ (31 - count_leading_zeros 32 s.args.n))
shift s = power-shift s.args.n s.requires.by_index.0 s.requires.by_index.1 (omega (arith, s.requires.n_bound))

sized : (s : Start) → (1 * 2 ^ (31 - count_leading_zeros 32 s.args.n)) % 2 ^ 32 ≡ s.args.n
sized s =
    let p : 2 ^ (31 - count_leading_zeros 32 s.args.n) < 2 ^ 32 = omega (arith, (shift s).1, s.requires.n_bound) in
    ap (λ v. v % 2 ^ 32) (one-mul (2 ^ (31 - count_leading_zeros 32 s.args.n))) ∙ mod-eq_of_lt p ∙ sym (shift s).1

some : (s : Start) → 0 < s.args.n
some s = power-some s.args.n s.requires.by_index.0 s.requires.by_index.1

pub overflow_sub-size : goal.overflow_sub-size
overflow_sub-size c = (shift c).0

pub nonzero_rem-result : goal.nonzero_rem-result
nonzero_rem-result c = omega (arith, sized c, some c)

pub overflow_cast-result : goal.overflow_cast-result
overflow_cast-result c = omega (arith, ap (λ m. c.args.number % m) (sized c), mod-lt c.args.number {m = c.args.n} (some c), c.requires.n_bound)

pub returns : goal.returns
returns c = ap (λ m. c.args.number % m) (sized c)
