-- An accepted line of fields can be walked, by its tables where a tag may be repeated.
use Prim.Native.Nat.{ℕ, ◌+◌, ◌≤◌}
use mathlib.Core.Path.{◌≡◌, ap, ◌∙◌}
use mathlib.Core.Bool.{false}
use mathlib.Core.List.{List}
use native.Mathlib.Omega.{arith}
use lib.ListN.{length, replicate, length-replicate}
use Rattle.format.specs.declared.Kind.{Kind}
use Rattle.byte_slices.specs.Stands.{Each}
use Rattle.accepted_line.specs.Run.{AtField, fields_from}
use Rattle.accepted_line.specs.Tables.{HasTag, noted, Walkable}
use Rattle.accepted_line.proofs.fields.Start.{blank-tables, noted-walkable}
use Rattle.accepted_line.specs.Found.{is_comment}
use Rattle.accepted_line.specs.Form.{LineOf}
use Rattle.accepted_line.proofs.Finds.{fielded}

module _ (k : Kind) (at : ℕ) (s : List ℕ) (h : LineOf k at s) (n : is_comment k ≡ false) where
  pub of_fields : AtField false at s 3 × Each HasTag (fields_from at s 3)
  of_fields = fielded false at s h.accepted (ap is_comment h.kind ∙ n)

  -- its tags can be noted
  pub noting : AtField false at s 3 × (Each HasTag (fields_from at s 3) × ((at + length s ≤ 4294967295) × (length {A = ℕ} (replicate 6448 0) ≡ 6448)))
  noting = (of_fields.0, (of_fields.1, (omega (arith, h.short), length-replicate {A = ℕ} 6448 0)))

  -- and then it can be walked
  pub noted-line : (t : List ℕ) → t ≡ noted (replicate 6448 0) (at + 3) (fields_from at s 3) → Walkable at s t
  noted-line t e = noted-walkable false at s (replicate 6448 0) t of_fields.0 of_fields.1 blank-tables e
