-- An accepted line of fields, at an offset of its text.
use Rattle.std.specs.Prelude.{ℕ, ◌+◌, ◌≤◌, Bool, List, length}
use Rattle.byte_slices.specs.Stands.{Each}
use Rattle.accepted_line.specs.Run.{fields_from, AtField}
use Rattle.accepted_line.specs.Tables.{HasTag}

pub record FieldsOf (strict : Bool) (at : ℕ) (line : List ℕ) : Type 0 where
  pub start : AtField strict at line 3
  pub tags : Each HasTag (fields_from at line 3)
  pub short : at + length line ≤ 16777216
