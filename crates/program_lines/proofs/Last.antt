-- The last value of a tag is in the line, or there is none.
use Prim.Native.Nat.{ℕ, ◌+◌, ◌≤◌, ◌<◌}
use mathlib.Core.Path.{◌≡◌, refl, subst}
use mathlib.Core.Bool.{Bool}
use mathlib.Core.List.{List}
use mathlib.Core.Option.{Option, none, some}
use native.Mathlib.Omega.{arith}
use lib.ListN.{length, drop, length-drop}
use Rattle.format.specs.Lines.{Piece}
use Rattle.format.specs.Fields.{last_of}
use Rattle.byte_slices.specs.Stands.{Stands}
use Rattle.accepted.proofs.Fields.{Of, last_of-of}
use Rattle.accepted_line.specs.Run.{AtField, fields_from}
use Rattle.accepted_line.specs.Next.{last_in, or_value}
use Rattle.accepted_line.proofs.fields.Runs.{runs-stand}

module _ (strict : Bool) (at : ℕ) (line : List ℕ) (h : AtField strict at line 3) (a b : ℕ) where
  last-stands : (p : Piece) → last_of a b (fields_from at line 3) ≡ some p → Stands (drop 3 line) (at + 3) p
  last-stands p e =
      let o : Of (λ f. Stands (drop 3 line) (at + 3) f.value) a b p = last_of-of (λ f. Stands (drop 3 line) (at + 3) f.value) a b (fields_from at line 3) p (runs-stand (at + 3) (drop 3 line) (fields_from at line 3) h.rest) e in
      subst (Stands (drop 3 line) (at + 3)) o.value o.holds

  pub last-after : (p : Piece) → last_of a b (fields_from at line 3) ≡ some p → 0 < p.at
  last-after p e = omega (arith, (last-stands p e).from)

  pub last-inside : ((last_in at line a b).at + (last_in at line a b).len ≤ at + length line)
  unfolding last_in or_value
  last-inside = go (last_of a b (fields_from at line 3)) refl
    where
      go : (o : Option Piece) → last_of a b (fields_from at line 3) ≡ o → (or_value (record { at = 0; len = 0 }) o).at + (or_value (record { at = 0; len = 0 }) o).len ≤ at + length line
      go none e = omega arith
      go (some p) e = let s = last-stands p e in omega (arith, s.from, s.within, length-drop 3 line, h.within)
