-- What answering needs of a text, its catalogue, a list of names, a work area and a result list, and what it leaves.
use Rattle.std.specs.Prelude.{ℕ, ◌≤◌, ◌≡◌, List, map, length}
use Rattle.byte_slices.specs.Stands.{Each}
use Rattle.catalogue_entries.specs.Entries.{entries_in}
use Rattle.format.specs.Asked.{asked}
use Rattle.format.specs.NameIndex.{name_ordinal, slot_count, index, looks}
use Rattle.name_entries.specs.Names.{names_in}
use Rattle.names.specs.NameEnds.{Told}
use Rattle.format.specs.Summed.{summed}

-- the names in the catalogue's SQ entries
abbrev pub names_of_sq : List ℕ → List ℕ → List (List ℕ)
names_of_sq text kept = names_in text (entries_in kept)

-- none is too long, there are as many slots as the index has, as many results as the list has names, and `m` SQ entries, whose names are given by
-- their places
pub record Answerable (text kept : List ℕ) (m : ℕ) (list slots out : List ℕ) : Type 0 where
  pub short : length kept ≤ 4294967294
  pub short-list : length list ≤ 16777216
  pub few : length (names_of_sq text kept) ≤ 16777216
  pub size : length slots ≡ slot_count (length (names_of_sq text kept))
  pub room : length out ≡ length (asked list)
  pub count : m ≡ length (names_of_sq text kept)
  pub told : Each (Told text) (entries_in kept)

-- the index of these names
abbrev pub name_index_in : List ℕ → List ℕ → List ℕ
name_index_in text kept = index (names_of_sq text kept)

-- the ordinal of each asked name among them
abbrev pub ordinals_in : List ℕ → List ℕ → List ℕ → List ℕ
ordinals_in text kept list = map (name_ordinal (names_of_sq text kept)) (asked list)

-- how many slots are looked at for the asked names
abbrev pub looks_in : List ℕ → List ℕ → List ℕ → ℕ
looks_in text kept list = summed (looks (names_of_sq text kept)) (asked list)
