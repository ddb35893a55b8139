-- `byte_slices::first_line` meets its contract: each return is a case of where the first LF is, and of the byte before it.
use Prim.Native.Nat.{ℕ, suc, ◌+◌, ◌-◌, ◌<◌}
use mathlib.Core.Path.{◌≡◌, refl, sym, ap, ◌∙◌}
use mathlib.Core.List.{List}
use native.Mathlib.Omega.{arith}
use native.Mathlib.Numerals.{add-one}
use borrow.Author.Tests.{eq-eqb, ne_eqb}
use lib.ListN.{length, get_or, take}
use lib.Seq.{length-take-le}
use Rattle.format.specs.Lines.{chomp}
use Rattle.byte_slices.specs.Upto.{upto}
use Rattle.byte_slices.specs.First.{first_line}
use Rattle.byte_slices.proofs.Lines.{upto_le}
use Rattle.byte_slices.proofs.Before.{upto-at}
use Rattle.byte_slices.proofs.First.{chomp-one, chomp-at, first-whole, first_more}
use Rattle.byte_slices.proofs.first_line.Goals as goal

-- where the callee answered `n`
module _ (s : List ℕ) (n : ℕ) (e : n ≡ upto 10 s) where
  whole : n ≡ length s → record { len = n; next = n } ≡ first_line s
  whole h = sym (first-whole s (omega arith) ∙ ap (λ k. record { len = k; next = k }) (sym h))

  inside : (n ≡ length s → ⊥) → n < length s
  inside h = omega (arith, h, upto_le 10 s)

  lf : n < length s → get_or s n 0 ≡ 10
  lf h = rw e (upto-at 10 s (omega arith))

  line : n < length s → first_line s ≡ record { len = length (chomp (take (suc n) s)); next = n + 1 }
  line h = rw (add-one n, e) (first_more s (omega arith))

  empty : (n ≡ length s → ⊥) → n ≡ 0 → record { len = 0; next = 1 } ≡ first_line s
  empty h z = sym (line (inside h) ∙ rw (z, chomp-one s (omega (arith, inside h)) (ap (λ k. get_or s k 0) (sym z) ∙ lf (inside h))) refl)

  with-cr : (n ≡ length s → ⊥) → (n ≡ 0 → ⊥) → get_or s (n - 1) 0 ≡ 13 → record { len = n - 1; next = n + 1 } ≡ first_line s
  with-cr h z b =
      let k : n < length s = inside h in
      sym (line k ∙ rw (chomp-at s n k (lf k) z, eq-eqb (get_or s (n - 1) 0) 13 b, length-take-le (n - 1) s (omega arith)) refl)

  without-cr : (n ≡ length s → ⊥) → (n ≡ 0 → ⊥) → (get_or s (n - 1) 0 ≡ 13 → ⊥) → record { len = n; next = n + 1 } ≡ first_line s
  without-cr h z b =
      let k : n < length s = inside h in
      sym (line k ∙ rw (chomp-at s n k (lf k) z, ne_eqb (get_or s (n - 1) 0) 13 b, length-take-le n s (omega arith)) refl)

pub returns-then-n-s : goal.returns-then-n-s
returns-then-n-s c = whole _ _ c.upto-n.ensures c.if-n-s.true

pub returns-then-n-eq0 : goal.returns-then-n-eq0
returns-then-n-eq0 c = empty _ _ c.upto-n.ensures c.if-n-s.false c.if-n-eq0.true

pub bounds-s-n : goal.bounds-s-n
bounds-s-n c =
    omega (arith, inside c.args.s.now c.upto-n.result c.upto-n.ensures c.if-n-s.false)

pub overflow_add-result : goal.overflow_add-result
overflow_add-result c =
    omega (arith, inside c.args.s.now c.upto-n.result c.upto-n.ensures c.if-n-s.false)

pub returns-then-s-n-eq13 : goal.returns-then-s-n-eq13
returns-then-s-n-eq13 c =
    with-cr _ _ c.upto-n.ensures c.if-n-s.false c.if-n-eq0.false c.if-s-n-eq13.true

pub overflow_add-result-2 : goal.overflow_add-result-2
overflow_add-result-2 c =
    omega (arith, inside c.args.s.now c.upto-n.result c.upto-n.ensures c.if-n-s.false)

pub returns : goal.returns
returns c =
    without-cr _ _ c.upto-n.ensures c.if-n-s.false c.if-n-eq0.false c.if-s-n-eq13.false
