-- Where the next SQ entry of a catalogue is.
use Rattle.std.specs.Prelude.{ℕ, ◌+◌, List, drop}
use Rattle.catalogue_entries.specs.Entries.{entries_in, entries_before, sizes}

-- from `at` on: the place after the last entry if there is none
abbrev pub next_sq : List ℕ → ℕ → ℕ
next_sq c at = at + sizes (entries_before 2 0 (entries_in (drop at c)))
