-- `tidy_name::name_len` meets its contract: the first byte passes, and then the bytes before `i` and the run from there on make the name.
use Prim.Native.Nat.{ℕ, suc, ◌+◌, ◌≤◌, ◌<◌}
use mathlib.Core.Path.{◌≡◌, refl, sym, ap, ◌∙◌}
use mathlib.Core.Bool.{true, false, not, cond}
use mathlib.Core.List.{List, [], ◌∷◌}
use native.Mathlib.Omega.{arith}
use native.Mathlib.Numerals.{add-one}
use borrow.Author.Tests.{eq-eqb, ne_eqb, eqb-true}
use Rattle.std.proofs.lemmas.Bool.{eqb-false}
use Rattle.std.proofs.Common.{◌≢◌}
use lib.ListN.{length, get_or, drop, drop_of_length-le}
use lib.Dec.{eqb}
use lib.Seq.{drop-cons}
use Rattle.format.specs.Tidy.{name_first, name_later}
use Rattle.tidy_name.specs.Runs.{later_run, name_run}
use Rattle.tidy_name.proofs.Class.{class-at}
use Rattle.tidy_name.proofs.Table.{classes, class-first, class-later}
use Rattle.tidy_name.proofs.name_len.Goals as goal

empty : (s : List ℕ) → length s ≡ 0 → name_run s ≡ 0
unfolding name_run
empty [] h = refl
empty (b ∷ s) h = absurd (omega arith)

first : (s : List ℕ) → 0 < length s → name_run s ≡ cond (name_first (get_or s 0 0)) (suc (later_run (drop 1 s))) 0
unfolding name_run
first [] h = absurd (omega arith)
first (b ∷ s) h = refl

module _ (s : List ℕ) (i : ℕ) where
  next : i < length s → later_run (drop i s) ≡ cond (name_later (get_or s i 0)) (suc (later_run (drop (i + 1) s))) 0
  unfolding later_run
  next h = rw (drop-cons s i 0 h, add-one i) refl

  spent : length s ≤ i → later_run (drop i s) ≡ 0
  unfolding later_run
  spent h = rw (drop_of_length-le s h) refl

-- what an entry of the table says of its byte
module _ (b : ℕ) (h : b < 256) where
  first-is : name_first b ≡ eqb (get_or classes b 0) 2
  first-is = sym (class-first b) ∙ ap (λ (k : ℕ). eqb k 2) (sym (class-at b h))

  later-is : name_later b ≡ not (eqb (get_or classes b 0) 0)
  later-is = sym (class-later b) ∙ ap (λ (k : ℕ). not (eqb k 0)) (sym (class-at b h))

pub returns-then-is_empty : goal.returns-then-is_empty
returns-then-is_empty c = sym (empty _ (eqb-true _ _ (sym c.is_empty.ensures ∙ c.if-is_empty.true)))

pub returns-then-classes-s-ne-ANYWHERE : goal.returns-then-classes-s-ne-ANYWHERE
unfolding classes
returns-then-classes-s-ne-ANYWHERE c =
    let s = c.args.s.now in
    let l : length s ≢ 0 = eqb-false (length s) 0 (sym c.is_empty.ensures ∙ c.if-is_empty.false) in
    let b : get_or s 0 0 < 256 = omega (arith, c.type_inv.s 0) in
    let n : name_first (get_or s 0 0) ≡ false = first-is (get_or s 0 0) b ∙ ne_eqb _ _ c.if-classes-s-ne-ANYWHERE.true in
    sym (first s (omega (arith, l)) ∙ rw n refl)

pub loop-i-init : goal.loop-i-init
unfolding classes
loop-i-init c =
    let s = c.args.s.now in
    let l : length s ≢ 0 = eqb-false (length s) 0 (sym c.is_empty.ensures ∙ c.if-is_empty.false) in
    let b : get_or s 0 0 < 256 = omega (arith, c.type_inv.s 0) in
    let y : name_first (get_or s 0 0) ≡ true = first-is (get_or s 0 0) b ∙ eq-eqb _ _ c.if-classes-s-ne-ANYWHERE.false in
    let z : name_run s ≡ suc (later_run (drop 1 s)) = first s (omega (arith, l)) ∙ rw y refl in
    omega arith

pub returns-then-classes-s-eq-NEVER : goal.returns-then-classes-s-eq-NEVER
unfolding classes
returns-then-classes-s-eq-NEVER c =
    let s = c.args.s.now in
    let b : get_or s c.loop-i.i 0 < 256 = omega (arith, c.type_inv.s c.loop-i.i) in
    let n : name_later (get_or s c.loop-i.i 0) ≡ false = later-is (get_or s c.loop-i.i 0) b ∙ ap not (eq-eqb _ _ c.if-classes-s-eq-NEVER.true) in
    let z : later_run (drop c.loop-i.i s) ≡ 0 = next s c.loop-i.i (omega arith) ∙ rw n refl in
    omega (arith, c.loop-i.invariant)

pub loop-i-preserved : goal.loop-i-preserved
unfolding classes
loop-i-preserved c =
    let s = c.args.s.now in
    let b : get_or s c.loop-i.i 0 < 256 = omega (arith, c.type_inv.s c.loop-i.i) in
    let y : name_later (get_or s c.loop-i.i 0) ≡ true = later-is (get_or s c.loop-i.i 0) b ∙ ap not (ne_eqb _ _ c.if-classes-s-eq-NEVER.false) in
    let z : later_run (drop c.loop-i.i s) ≡ suc (later_run (drop (c.loop-i.i + 1) s)) = next s c.loop-i.i (omega arith) ∙ rw y refl in
    omega (arith, c.loop-i.invariant)

pub returns : goal.returns
returns c =
    let s = c.args.s.now in
    let l : length s ≢ 0 = eqb-false (length s) 0 (sym c.is_empty.ensures ∙ c.if-is_empty.false) in
    let e : c.loop-i.i ≡ length s = omega arith in
    let z = spent s c.loop-i.i (omega arith) in
    omega (arith, c.loop-i.invariant)
