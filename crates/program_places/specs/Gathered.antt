-- The programs of a catalogue: where the ID and the PP of each are, as numbers in arrays.
use Rattle.std.specs.Prelude.{ℕ, List, [], ◌∷◌, map, length, Option, None, Some}
use Rattle.program_chains.specs.Parents.{in_array}
use Rattle.catalogue_entries.specs.declared.Place.{Place}
use Rattle.catalogue_entries.specs.declared.Entry.{Entry}
use Rattle.catalogue_entries.specs.declared.Entry.TheVariants.{End, Header, ReferenceSequence, ReadGroup, Program, Comment, Field}
use Rattle.catalogue_lookup.specs.Lookup.{value_in}
use Rattle.program_ids.specs.Places.{nowhere}
use Rattle.program_places.specs.declared.Places.{Places}
use Rattle.program_places.specs.declared.Programs.{Programs}

-- where the ID and the PP of a program are
pub record ProgramPlaces : Type 0 where
  pub id : Place
  pub previous : Place

-- no PP: a place that is in no text
unfoldable pub or_nowhere : Option Place → Place
unfolding nowhere
or_nowhere None = nowhere
or_nowhere (Some p) = p

-- each PG entry, in order, with the PP among the field entries after it
unfoldable pub noted_in : List Entry → List ProgramPlaces
unfolding or_nowhere value_in
noted_in [] = []
noted_in (End ∷ es) = noted_in es
noted_in (Header v l ∷ es) = noted_in es
noted_in (ReferenceSequence p n l ∷ es) = noted_in es
noted_in (ReadGroup p l ∷ es) = noted_in es
noted_in (Program p l ∷ es) = record { id = p; previous = or_nowhere (value_in 80 80 es) } ∷ noted_in es
noted_in (Comment p l ∷ es) = noted_in es
noted_in (Field a b p ∷ es) = noted_in es

-- one of the two places of each program: the offsets and the lengths, in arrays
unfoldable pub arrays_of : (ProgramPlaces → Place) → List ProgramPlaces → Places
unfolding in_array
arrays_of f ns = record { at = in_array (map (λ n. (f n).at) ns); len = in_array (map (λ n. (f n).len) ns) }

-- the places in four arrays, and how many there are
abbrev pub programs_in : List ℕ → List ℕ → List ℕ → List ℕ → ℕ → Programs
programs_in ats lens from widths n = record { id = record { at = ats; len = lens }; previous = record { at = from; len = widths }; count = n }

unfoldable pub gathered_of : List ProgramPlaces → Programs
unfolding arrays_of
gathered_of ns = record { id = arrays_of (λ n. n.id) ns; previous = arrays_of (λ n. n.previous) ns; count = length ns }
