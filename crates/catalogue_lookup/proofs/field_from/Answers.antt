-- `catalogue_lookup::field_from` meets its contract: what is found from `at` on is the answer.
use Prim.Native.Nat.{ℕ, ◌+◌, ◌-◌, ◌≤◌}
use mathlib.Core.Path.{◌≡◌, refl, sym, ap, subst, ◌∙◌}
use mathlib.Core.Bool.{◌&&◌, cond}
use mathlib.Core.List.{List, [], ◌∷◌}
use native.Mathlib.Omega.{arith}
use borrow.Author.Tests.{eq-eqb, ne_eqb}
use lib.ListN.{length, drop}
use lib.Dec.{eqb}
use Rattle.catalogue_entries.proofs.Walk.{turn_on, turn-within}
use Rattle.catalogue_entries.specs.declared.Place.{Place}
use Rattle.catalogue_entries.specs.declared.Entry.{Entry}
use Rattle.catalogue_entries.specs.declared.Entry.TheVariants.{End, Header, ReferenceSequence, ReadGroup, Program, Comment, Field}
use Rattle.catalogue_entries.specs.Entries.{kind_byte, kind_size, entry_size, entry_of, entries_in}
use Rattle.std.specs.Prelude.{None, Some}
use Rattle.catalogue_lookup.specs.Lookup.{first_entry, value_in}
use Rattle.catalogue_lookup.proofs.Walks.{front-entry}
use Rattle.catalogue_lookup.proofs.field_from.Goals as goal
use Rattle.catalogue_lookup.proofs.field_from.Goals.{In-Field, else-x-a-via-then-x-a+else-y-b, else-x-a-via-else-x-a}

-- no field is first
no_value_lem : (a b : ℕ) (es : List Entry) → ((x y : ℕ) (p : Place) → first_entry es ≡ Field x y p → ⊥) → None ≡ value_in a b es
unfolding value_in first_entry
no_value_lem a b [] h = refl
no_value_lem a b (End ∷ es) h = refl
no_value_lem a b (Header v l ∷ es) h = refl
no_value_lem a b (ReferenceSequence p n l ∷ es) h = refl
no_value_lem a b (ReadGroup p l ∷ es) h = refl
no_value_lem a b (Program p l ∷ es) h = refl
no_value_lem a b (Comment p l ∷ es) h = refl
no_value_lem a b (Field x y p ∷ es) h = absurd (h x y p refl)

-- a field is first
module _ (c : List ℕ) (at x y : ℕ) (p : Place) (e : Entry) (found : e ≡ entry_of (drop at c)) (is : e ≡ Field x y p) where
  long : 11 ≡ entry_size e
  unfolding entry_size kind_byte kind_size
  long = ap entry_size (sym is)

  within : at + 11 ≤ length c
  within = turn-within c at 11 e found long (λ z. omega arith)

  turn : entries_in (drop at c) ≡ Field x y p ∷ entries_in (drop (at + 11) c)
  turn = turn_on c at 11 e found long (λ z. omega arith) ∙ ap (λ f. f ∷ entries_in (drop (at + 11) c)) is

pub loop-x-init : goal.loop-x-init
loop-x-init c = refl

-- the entry at `at` is a field
first : (c : In-Field) (a b : ℕ)
    → value_in a b (entries_in (drop c.loop-x.at c.args.catalogue.now))
    ≡ cond (eqb c.in-Field.x a && eqb c.in-Field.y b) (Some c.in-Field.p) (
    value_in a b (entries_in (drop (c.loop-x.at + 11) c.args.catalogue.now)))
unfolding value_in
first c a b = ap (value_in a b) (turn c.args.catalogue.now c.loop-x.at _ _ _ _ c.entry_at.ensures c.in-Field.is)

passed : (c : In-Field) → c.loop-x.at + 11 ≤ length c.args.catalogue.now
passed c = within _ _ _ _ _ _ c.entry_at.ensures c.in-Field.is

pub returns-then-y-b : goal.returns-then-y-b
returns-then-y-b c =
    let l = c.loop-x in
    let a = c.args in
    sym (l.invariant ∙ first (goal.at.returns-then-y-b c).In-Field a.a a.b ∙ simp (eq-eqb _ _ c.if-x-a.true, c.if-y-b.true-raw))

pub overflow_add-at : goal.overflow_add-at
overflow_add-at c = omega (arith, passed (goal.at.overflow_add-at c).In-Field)

pub loop-x-smaller : goal.loop-x-smaller
loop-x-smaller c = omega (arith, passed (goal.at.loop-x-smaller c).In-Field)

pub loop-x-preserved : goal.loop-x-preserved
loop-x-preserved c =
    let l = c.loop-x in
    let a = c.args in
    l.invariant ∙ first (goal.at.loop-x-preserved c).In-Field a.a a.b ∙ elim c.else-x-a.branch [
      | else-x-a-via-then-x-a+else-y-b w ↦ simp (eq-eqb _ _ w.if-x-a.true, ne_eqb _ _ w.if-y-b.false)
      | else-x-a-via-else-x-a w ↦ simp (ne_eqb _ _ w.if-x-a.false)
    ]

pub returns-in_default : goal.returns-in_default
returns-in_default c =
    let l = c.loop-x in
    let a = c.args in
    let s = drop l.at a.catalogue.now in
    no_value_lem a.a a.b (entries_in s) (λ x y p e. c.in_default.not-Field x y p (c.entry_at.ensures ∙ sym (front-entry s) ∙ e)) ∙ sym l.invariant
