-- Names that are given by their places.
use Rattle.std.specs.Prelude.{ℕ, ◌<◌, ◌≡◌, List, drop}
use Rattle.catalogue_entries.specs.declared.Entry.{Entry}
use Rattle.catalogue_entries.specs.declared.Entry.TheVariants.{End, Header, ReferenceSequence, ReadGroup, Program, Comment, Field}
use Rattle.key_at.specs.Word.{word}
use Rattle.name_entries.specs.Names.{name_at}

-- a name is given by its place: the offset is below 2 ^ 24, and the name ends before the first byte below 32
unfoldable pub Told : List ℕ → Entry → Type 0
unfolding word
Told t End = Unit
Told t (Header v l) = Unit
Told t (ReferenceSequence p n l) = (p.at < 16777216) × (word (drop p.at t) ≡ name_at t p)
Told t (ReadGroup p l) = Unit
Told t (Program p l) = Unit
Told t (Comment p l) = Unit
Told t (Field a b p) = Unit
