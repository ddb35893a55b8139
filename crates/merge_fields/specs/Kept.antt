-- The fields of a PG line other than ID and PP, from a place of the line on, and what the next of them gives.
use Rattle.std.specs.Prelude.{ℕ, ◌+◌, ◌≤◌, ◌<◌, Bool, ◌&&◌, ◌||◌, List, [], ◌∷◌, length, take, drop, eqb, Option, None, Some, IfSome}
use Rattle.format.specs.Fields.{Field, without}
use Rattle.format.specs.declared.Kind.TheVariants.{Program}
use Rattle.record_tags.specs.Others.{firsts}
use Rattle.accepted_line.specs.Run.{fields_to, fields_from, AtField}
use Rattle.merge_fields.specs.declared.NextField.{NextField}

-- ID or PP
unfoldable pub is_passed : ℕ → ℕ → Bool
is_passed a b = (eqb a 73 && eqb b 68) || (eqb a 80 && eqb b 80)

-- the fields that are still to come: neither ID nor PP, each tag at its first place, with its last value
unfoldable pub kept_from : ℕ → List ℕ → ℕ → List Field
unfolding without firsts
kept_from at line i = without 80 80 (firsts Program (fields_to at line i) (fields_from at line i))

-- the field in an answer
unfoldable pub told_field : ℕ → List ℕ → NextField → Field
told_field at line r = record { tag₀ = r.first; tag₁ = r.second; value = record { at = at + r.from; bytes = take r.len (drop r.from line) } }

-- the fields in an answer: its own and those after it, or none
unfoldable pub told_fields : ℕ → List ℕ → Option NextField → List Field
unfolding told_field kept_from
told_fields at line None = []
told_fields at line (Some r) = told_field at line r ∷ kept_from at line r.next

-- where the value of a field and the next field are in the line
pub record FieldInLine (once : Bool) (at : ℕ) (line : List ℕ) (start : ℕ) (r : NextField) : Type 0 where
  pub value : r.from + r.len ≤ length line
  pub here : AtField once at line r.next
  pub onward : start < r.next

-- the same, if a field is answered
abbrev pub NextInLine : Bool → ℕ → List ℕ → ℕ → Option NextField → Type 0
NextInLine once at line start r = IfSome r (λ f. FieldInLine once at line start f)
