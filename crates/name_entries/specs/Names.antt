-- The names in the entries of a catalogue.
use Rattle.std.specs.Prelude.{ℕ, cond, List, [], ◌∷◌, take, drop, eqb}
use Rattle.catalogue_entries.specs.declared.Entry.{Entry}
use Rattle.catalogue_entries.specs.declared.Entry.TheVariants.{End, Header, ReferenceSequence, ReadGroup, Program, Comment, Field}
use Rattle.catalogue_entries.specs.declared.Place.{Place}
use Rattle.catalogue_entries.specs.Entries.{kind_byte}

-- the bytes of a text at a place, as far as the text has them
abbrev pub name_at : List ℕ → Place → List ℕ
name_at t p = take p.len (drop p.at t)

-- the name in an entry of an SQ
unfoldable pub name_in : List ℕ → Entry → List ℕ
name_in t End = []
name_in t (Header v l) = []
name_in t (ReferenceSequence p n l) = name_at t p
name_in t (ReadGroup p l) = []
name_in t (Program p l) = []
name_in t (Comment p l) = []
name_in t (Field a b p) = []

-- the names in the SQ entries, in order
unfoldable pub names_in : List ℕ → List Entry → List (List ℕ)
unfolding kind_byte name_in
names_in t [] = []
names_in t (e ∷ es) = cond (eqb (kind_byte e) 2) (name_in t e ∷ names_in t es) (names_in t es)
