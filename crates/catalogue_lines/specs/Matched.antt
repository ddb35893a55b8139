-- The answers of comparing a catalogue with expected bytes.
use Rattle.std.specs.Prelude.{ℕ, ◌+◌, ◌≡◌, Bool, true, false, cond, List, Option, Some, None, length}
use Rattle.format.specs.Bytes.{starts}
use Rattle.format.specs.Records.{Record}
use Rattle.format.specs.Catalogue.{catalogue}
use Rattle.format.specs.declared.Kind.{Kind}
use Rattle.accepted_line.specs.Run.{fields_of, fields_from}
use Rattle.accepted_line.specs.Keys.{keys_in}
use Rattle.catalogue_lines.specs.Parts.{field_bytes}
use Rattle.catalogue_lines.specs.declared.Met.{Met}

-- `c` is the catalogue from the place `o` on: if it starts with `xs`, the place after them
unfoldable pub matched : ℕ → List ℕ → List ℕ → Option ℕ
unfolding starts
matched o c xs = cond (starts xs c) (Some (o + length xs)) None

-- what a walk over the other fields of a line finds, if their entries start at the place `o`
unfoldable pub met_in : Kind → ℕ → List ℕ → ℕ → Met
unfolding field_bytes keys_in fields_of
met_in k at line o = record { next = o + length (field_bytes k at line 3); keys = keys_in k (fields_from at line 3) }

unfoldable pub compared_of : Bool → Met → Option Met
compared_of true m = Some m
compared_of false m = None

-- the catalogue `c` starts with the entries of the records `rs`, which end at the place `o`
pub record Reached (c : List ℕ) (rs : List Record) (o : ℕ) : Type 0 where
  pub place : o ≡ length (catalogue rs)
  pub front : starts (catalogue rs) c ≡ true
