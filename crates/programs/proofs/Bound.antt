-- The hops that leaves answers are at most n(n-1)/2, where n is how many programs the text has.
use Prim.Native.Nat.{ℕ, ◌*◌, ◌-◌, ◌≤◌}
use mathlib.Core.Path.{◌≡◌, refl, sym, ap, subst, ◌∙◌}
use mathlib.Core.List.{List}
use native.Mathlib.Omega.{arith}
use native.Mathlib.Nat.{mul-le-mul_right}
use lib.ListN.{length}
use lib.Dec.{eqb, ltb}
use borrow.Author.Tests.{ltb-true, ltb-false, eqb-true, eqb-false}
use Rattle.format.specs.Programs.{Program, Link, programs, links, hops, leaves, tangled}
use Rattle.format.specs.Calls.{Answer, refused, yes, then, fitting, leafing}
use Rattle.lists.proofs.Bools.{split}
use Rattle.accepted.specs.Read.{records_of}
use Rattle.program_chains.proofs.Bound.{hops-bound}
use Rattle.program_chains.proofs.Leaf.{leaves-length}
use Rattle.program_parents.proofs.Numbers.{links-count, links-named}
use Rattle.program_parents.proofs.Road.{none-dangles, none-loops}
use Rattle.read.proofs.Fresh.{Current, refused-is-no-answer, passed}
use Rattle.read.proofs.AnswerCases.{too_short, fits}
use Rattle.program_parents.proofs.Opened.{opened}
use Rattle.programs.proofs.Chained.{leaves-tangled, leaves-own}

unfoldable told_of : List ℕ × ℕ → Answer (List ℕ × ℕ) → List ℕ × ℕ
told_of z (refused n l) = z
told_of z (yes a) = a

module _ (t c : List ℕ) (own : Current t c) where
  abbrev ps : List Program
  ps = programs (records_of t)

  abbrev ls : List Link
  ls = links (programs (records_of t))

  -- what is answered is what the links give, where nothing is tangled
  pub answered : (P : List ℕ × ℕ → Type 0) (room : ℕ) (a : List ℕ × ℕ) → leafing t c room ≡ yes a → (tangled ls ≡ 0 → P (leaves ls, hops ls)) → P a
  answered P room a is given =
      split (eqb (tangled ls) 0)
      (λ q. untangled (eqb-true (tangled ls) 0 q))
      (λ q. absurd (refused-is-no-answer (tangled ls) 0 a (sym (leaves-tangled t c own room (tangled ls) refl (eqb-false (tangled ls) 0 q)) ∙ is)))
    where
      fitted : Answer (List ℕ) → Answer (List ℕ × ℕ)
      fitted b = then b (λ xs. yes (xs, hops ls))

      short : fitted (refused 20 0) ≡ yes a → ⊥
      short e = unfold then in refused-is-no-answer 20 0 a e

      told : fitted (yes (leaves ls)) ≡ yes a → (leaves ls, hops ls) ≡ a
      told e = unfold then told_of in ap (told_of a) e

      untangled : tangled ls ≡ 0 → P a
      untangled z =
          let own-told : fitted (fitting room (leaves ls)) ≡ yes a = sym (leaves-own t c own room z) ∙ is in
          split (ltb room (length (leaves ls)))
          (λ f. absurd (short (sym (ap fitted (too_short room (leaves ls) (ltb-true _ _ f))) ∙ own-told)))
          (λ f. subst P (told (sym (ap fitted (fits room (leaves ls) (ltb-false _ _ f))) ∙ own-told)) (given z))

  summed : tangled ls ≡ 0 → 2 * hops ls ≤ length ps * (length ps - 1)
  summed z =
      let d = none-dangles ls z in
      subst (λ n. 2 * hops ls ≤ n * (n - 1)) (links-count ps)
      (hops-bound ls (none-loops ls z) (λ k m. omega (arith, links-count ps, links-named ps (opened t c own.reads own.own).few d k m)))

-- leaves that are answered are of the text's own catalogue
pub current : (t c : List ℕ) (room : ℕ) (a : List ℕ × ℕ) → leafing t c room ≡ yes a → Current t c
unfolding leafing
current t c room a is = passed t c _ a is

-- whatever the text and the catalogue are
pub leaves-bound : (t c : List ℕ) (room : ℕ) (xs : List ℕ) (h : ℕ) → leafing t c room ≡ yes (xs, h)
    → 2 * h ≤ length (programs (records_of t)) * (length (programs (records_of t)) - 1)
leaves-bound t c room xs h is =
    let own = current t c room (xs, h) is in
    answered t c own (λ a. 2 * a.1 ≤ length (ps t c own) * (length (ps t c own) - 1)) room (xs, h) is (summed t c own)

-- and there are at most 1,024 leaves
pub leaves-few : (t c : List ℕ) (room : ℕ) (xs : List ℕ) (h : ℕ) → leafing t c room ≡ yes (xs, h) → length xs ≤ 1024
leaves-few t c room xs h is =
    let own = current t c room (xs, h) is in
    let few = (opened t c own.reads own.own).few in
    answered t c own (λ a. length a.0 ≤ 1024) room (xs, h) is (λ z. omega (arith, few, links-count (ps t c own), leaves-length (ls t c own)))

-- so that the hops are at most 523,776
pub hops-few : (t c : List ℕ) (room : ℕ) (xs : List ℕ) (h : ℕ) → leafing t c room ≡ yes (xs, h) → h ≤ 523776
hops-few t c room xs h is =
    let n = length (programs (records_of t)) in
    let own = current t c room (xs, h) is in
    let few : n ≤ 1024 = (opened t c own.reads own.own).few in
    omega (arith, few, leaves-bound t c room xs h is, mul-le-mul_right (n - 1) few)
