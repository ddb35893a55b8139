-- The given PP, and whether an ID is there: from the code's answers to the definitions.
use Prim.Native.Nat.{ℕ, ◌+◌, ◌-◌, ◌≤◌}
use mathlib.Core.Path.{◌≡◌, refl, sym, ap, ◌∙◌}
use mathlib.Core.Bool.{Bool, true, false, not, false≢true}
use mathlib.Core.List.{List}
use mathlib.Core.Option as maybe
use mathlib.Core.Option.{none, some}
use Rattle.std.specs.Prelude.{Option, Some, None, is_some}
use Rattle.record.specs.declared.Stretch.{Stretch}
use native.Mathlib.Omega.{arith}
use lib.ListN.{length, take, drop}
use Rattle.format.specs.Lines.{Piece}
use Rattle.format.specs.Fields.{last_of}
use Rattle.format.specs.Adding.{given, is_known}
use Rattle.format.specs.declared.ProgramNo.{ProgramNo}
use Rattle.program_ids.specs.Search.{id_ordinal_from, named_of}
use Rattle.add_ids.specs.Taken.{is_among}
use Rattle.add_input.specs.Given.{given_of}
use Rattle.add_input.proofs.Text.{previous-stands}
use Rattle.add.specs.Added.{is_none, is_nothing, stray}

-- ---- an ID

named-known : (o : maybe.Option ℕ) → is_some (named_of o) ≡ is_known o
unfolding named_of is_known
named-known none = refl
named-known (some k) = refl

-- an ID that no program has
pub free_is : (id : List ℕ) (ids : List (List ℕ)) (r : Option ProgramNo) (b : Bool) → r ≡ named_of (id_ordinal_from id 0 ids) → is_some r ≡ not b → b ≡ not (is_among id ids)
unfolding is_among
free_is id ids r b e f = sym (not-not b) ∙ ap not (sym f ∙ ap is_some e ∙ named-known (id_ordinal_from id 0 ids))
  where
    not-not : (b : Bool) → not (not b) ≡ b
    not-not true = refl
    not-not false = refl

-- ---- the given PP

pub nothing_is : (v : Option Stretch) (b : Bool) → is_some v ≡ not b → b ≡ is_nothing v
unfolding is_nothing
nothing_is None true e = refl
nothing_is None false e = absurd (false≢true e)
nothing_is (Some v) true e = absurd (false≢true (sym e))
nothing_is (Some v) false e = refl

pub nothing-none : (o : maybe.Option Piece) → is_nothing (given_of o) ≡ is_none o
unfolding is_nothing given_of is_none
nothing-none none = refl
nothing-none (some p) = refl

at : Option Stretch → ℕ
at None = 0
at (Some v) = v.at

len : Option Stretch → ℕ
len None = 0
len (Some v) = v.len

some_at : (p : Piece) (v : Stretch) → given_of (some p) ≡ Some v → (p.at ≡ v.at) × (length p.bytes ≡ v.len)
unfolding given_of at len
some_at p v e = (ap at e, ap len e)

some-stray : (ids : List (List ℕ)) (p : Piece) → not (is_among p.bytes ids) ≡ stray ids (some p)
unfolding stray
some-stray ids p = refl

module _ (ids : List (List ℕ)) (fields : List ℕ) where
  abbrev prior : maybe.Option Piece
  prior = last_of 80 80 (given fields).fields

  pub stray-nothing : given_of prior ≡ None → false ≡ stray ids prior
  stray-nothing e = go prior e
    where
      go : (o : maybe.Option Piece) → given_of o ≡ None → false ≡ stray ids o
      go none q = unfold stray in refl
      go (some p) q = absurd (false≢true (unfold given_of is_nothing in ap is_nothing q))

  -- where it is, its bytes are those of the fields
  pub stray-at : (v : Stretch) → given_of prior ≡ Some v
      → (v.at + v.len ≤ length fields) × (not (is_among (take (v.at + v.len - v.at) (drop v.at fields)) ids) ≡ stray ids prior)
  stray-at v e = go prior refl e
    where
      go : (o : maybe.Option Piece) → prior ≡ o → given_of o ≡ Some v → (v.at + v.len ≤ length fields) × (not (is_among (take (v.at + v.len - v.at) (drop v.at fields)) ids) ≡ stray ids o)
      go none q f = absurd (false≢true (unfold given_of is_nothing in sym (ap is_nothing f)))
      go (some p) q f =
          let h = previous-stands fields p q in
          let x = some_at p v f in
          let z : v.at + v.len - v.at ≡ length p.bytes = omega (arith, x.1) in (
            omega (arith, h.0, x),
            ap (λ b. not (is_among b ids)) (ap (λ m. take m (drop v.at fields)) z ∙ ap (λ m. take (length p.bytes) (drop m fields)) (sym x.0) ∙ sym h.1) ∙ some-stray ids p,
          )
