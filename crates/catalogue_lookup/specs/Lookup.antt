-- What is found in the entries of a catalogue: the key of a record, the LN of an SQ, the line of a record, the value of a field.
use Rattle.std.specs.Prelude.{ℕ, zero, suc, ◌&&◌, cond, List, [], ◌∷◌, drop, eqb, ltb, Option, None, Some}
use Rattle.std.proofs.Math.Option as math
use Rattle.std.proofs.Math.Option.{none, some}
use Rattle.format.specs.Lines.{Piece}
use Rattle.format.specs.declared.LineNo.{LineNo}
use Rattle.catalogue_entries.specs.declared.Place.{Place}
use Rattle.catalogue_entries.specs.declared.Entry.{Entry}
use Rattle.catalogue_entries.specs.declared.Entry.TheVariants.{End, Header, ReferenceSequence, ReadGroup, Program, Comment, Field}
use Rattle.catalogue_entries.specs.Entries.{kind_byte, piece_at}

-- ---- answers

-- where a piece is, if there is one
unfoldable pub found_of : math.Option Piece → Option Place
unfolding piece_at
found_of none = None
found_of (some p) = Some (piece_at p)

-- a length, if there is one
unfoldable pub sized_of : math.Option ℕ → Option ℕ
sized_of none = None
sized_of (some n) = Some n

-- a line, if there is one
unfoldable pub located_of : math.Option ℕ → Option LineNo
located_of none = None
located_of (some l) = Some (record { 0 = l })

-- ---- entries

-- the entries from the one of kind `k` on that has `i` of that kind before it; none if there is no such entry
unfoldable pub entries_from : ℕ → ℕ → List Entry → List Entry
unfolding kind_byte
entries_from k i [] = []
entries_from k zero (e ∷ es) = cond (eqb (kind_byte e) k) (e ∷ es) (entries_from k zero es)
entries_from k (suc i) (e ∷ es) = cond (eqb (kind_byte e) k) (entries_from k i es) (entries_from k (suc i) es)

-- the first of them
unfoldable pub first_entry : List Entry → Entry
first_entry [] = End
first_entry (e ∷ es) = e

-- the key in an entry: SN of SQ, ID of RG and PG
unfoldable pub entry_key : Entry → Option Place
entry_key End = None
entry_key (Header v l) = None
entry_key (ReferenceSequence p n l) = Some p
entry_key (ReadGroup p l) = Some p
entry_key (Program p l) = Some p
entry_key (Comment p l) = None
entry_key (Field a b p) = None

-- the LN in an entry
unfoldable pub entry_length : Entry → Option ℕ
entry_length End = None
entry_length (Header v l) = None
entry_length (ReferenceSequence p n l) = Some n
entry_length (ReadGroup p l) = None
entry_length (Program p l) = None
entry_length (Comment p l) = None
entry_length (Field a b p) = None

-- the line in an entry of a record; a field has none
unfoldable pub entry_line : Entry → Option LineNo
entry_line End = None
entry_line (Header v l) = Some (record { 0 = l })
entry_line (ReferenceSequence p n l) = Some (record { 0 = l })
entry_line (ReadGroup p l) = Some (record { 0 = l })
entry_line (Program p l) = Some (record { 0 = l })
entry_line (Comment p l) = Some (record { 0 = l })
entry_line (Field a b p) = None

-- the value in the field entry with the tag `a`, `b`, before the next record's entry
unfoldable pub value_in : ℕ → ℕ → List Entry → Option Place
value_in a b [] = None
value_in a b (End ∷ es) = None
value_in a b (Header v l ∷ es) = None
value_in a b (ReferenceSequence p n l ∷ es) = None
value_in a b (ReadGroup p l ∷ es) = None
value_in a b (Program p l ∷ es) = None
value_in a b (Comment p l ∷ es) = None
value_in a b (Field x y p ∷ es) = cond (eqb x a && eqb y b) (Some p) (value_in a b es)

-- ---- the record of kind `k` with `i` of that kind before it

unfoldable pub key_in : ℕ → ℕ → List Entry → Option Place
unfolding entry_key first_entry entries_from
key_in k i es = entry_key (first_entry (entries_from k i es))

unfoldable pub length_in : ℕ → List Entry → Option ℕ
unfolding entry_length first_entry entries_from
length_in i es = entry_length (first_entry (entries_from 2 i es))

unfoldable pub line_in : ℕ → ℕ → List Entry → Option LineNo
unfolding entry_line first_entry entries_from
line_in k i es = entry_line (first_entry (entries_from k i es))

-- a field entry belongs to the record before it, and is not itself a record
unfoldable pub field_in : ℕ → ℕ → ℕ → ℕ → List Entry → Option Place
unfolding value_in entries_from
field_in k i a b es = cond (ltb 5 k) None (value_in a b (drop 1 (entries_from k i es)))
