-- Document 01's example with document 02's line, computed: the catalogue of `@PG` tab `ID:a` tab `PP:b` LF.
use Prim.Native.Nat.{ℕ}
use mathlib.Core.Path.{◌≡◌, refl}
use mathlib.Core.List.{List, [], ◌∷◌}
use Rattle.catalogue_entries.specs.declared.Entry.{Entry}
use Rattle.catalogue_entries.specs.declared.Entry.TheVariants.{Program, Field}
use Rattle.catalogue_entries.specs.Entries.{entries_bytes, entries_in}

bytes : List ℕ
bytes = 4 ∷ 7 ∷ 0 ∷ 0 ∷ 0 ∷ 1 ∷ 0 ∷ 0 ∷ 0 ∷ 0 ∷ 0 ∷ 0 ∷ 0 ∷ 6 ∷ 80 ∷ 80 ∷ 12 ∷ 0 ∷ 0 ∷ 0 ∷ 1 ∷ 0 ∷ 0 ∷ 0 ∷ []

entries : List Entry
entries = Program (record { at = 7; len = 1 }) 0 ∷ Field 80 80 (record { at = 12; len = 1 }) ∷ []

written : entries_bytes entries ≡ bytes
unfolding entries_bytes bytes entries
written = refl

walked : entries_in bytes ≡ entries
unfolding entries_in bytes entries
walked = refl
