-- The entries of a catalogue: the entry at its front, the bytes of an entry, and the entries of records.
use Rattle.std.specs.Prelude.{ℕ, zero, suc, ◌+◌, ◌^◌, ◌<◌, cond, List, [], ◌∷◌, ◌++◌, map, length, take, drop, get_or, eqb, leb}
use Rattle.format.specs.Lines.{Piece}
use Rattle.format.specs.Fields as fields
use Rattle.format.specs.Records.{Record, header, reference, group, program, comment, others}
use Rattle.format.specs.Catalogue.{little}
use Rattle.format.specs.Little.{of_little}
use Rattle.format.specs.declared.Version.{Version}
use Rattle.catalogue_entries.specs.declared.Place.{Place}
use Rattle.catalogue_entries.specs.declared.Entry.{Entry}
use Rattle.catalogue_entries.specs.declared.Entry.TheVariants.{End, Header, ReferenceSequence, ReadGroup, Program, Comment, Field}

-- ---- kinds and sizes

-- the kind byte; 0 for `End`
unfoldable pub kind_byte : Entry → ℕ
kind_byte End = 0
kind_byte (Header v l) = 1
kind_byte (ReferenceSequence p n l) = 2
kind_byte (ReadGroup p l) = 3
kind_byte (Program p l) = 4
kind_byte (Comment p l) = 5
kind_byte (Field a b p) = 6

-- how long an entry of a kind is, with its kind byte and its body; 0 if there is no such kind
unfoldable pub kind_size : ℕ → ℕ
kind_size k =
    cond (eqb k 1) 13
    (cond (eqb k 2) 21
    (cond (eqb k 3) 13
    (cond (eqb k 4) 13
    (cond (eqb k 5) 13
    (cond (eqb k 6) 11 0)))))

unfoldable pub entry_size : Entry → ℕ
unfolding kind_byte kind_size
entry_size e = kind_size (kind_byte e)

-- ---- from bytes

-- major and minor, in four bytes each
unfoldable pub version_from : List ℕ → Version
unfolding of_little
version_from s = record { major = of_little (take 4 s); minor = of_little (take 4 (drop 4 s)) }

-- offset and length, in four bytes each
unfoldable pub place_from : List ℕ → Place
unfolding of_little
place_from s = record { at = of_little (take 4 s); len = of_little (take 4 (drop 4 s)) }

-- a line, in four bytes
unfoldable pub line_from : List ℕ → ℕ
unfolding of_little
line_from s = of_little (take 4 s)

-- the entry of kind `k` with the body at the front of `s`
unfoldable pub entry_with : ℕ → List ℕ → Entry
unfolding version_from place_from line_from of_little
entry_with k s =
    cond (eqb k 1) (Header (version_from s) (line_from (drop 8 s)))
    (cond (eqb k 2) (ReferenceSequence (place_from s) (of_little (take 8 (drop 8 s))) (line_from (drop 16 s)))
    (cond (eqb k 3) (ReadGroup (place_from s) (line_from (drop 8 s)))
    (cond (eqb k 4) (Program (place_from s) (line_from (drop 8 s)))
    (cond (eqb k 5) (Comment (place_from s) (line_from (drop 8 s)))
    (cond (eqb k 6) (Field (get_or s 0 0) (get_or s 1 0) (place_from (drop 2 s))) End)))))

-- the entry at the front of `s`: `End` if nothing is left, the kind is unknown, or the body is too short
unfoldable pub entry_of : List ℕ → Entry
unfolding kind_size entry_with
entry_of [] = End
entry_of (k ∷ s) = cond (leb (kind_size k) (length (k ∷ s))) (entry_with k s) End

-- ---- to bytes

unfoldable pub place_bytes : Place → List ℕ
unfolding little
place_bytes p = little 4 p.at ++ little 4 p.len

unfoldable pub entry_bytes : Entry → List ℕ
unfolding little place_bytes
entry_bytes End = []
entry_bytes (Header v l) = 1 ∷ little 4 v.major ++ little 4 v.minor ++ little 4 l
entry_bytes (ReferenceSequence p n l) = 2 ∷ place_bytes p ++ little 8 n ++ little 4 l
entry_bytes (ReadGroup p l) = 3 ∷ place_bytes p ++ little 4 l
entry_bytes (Program p l) = 4 ∷ place_bytes p ++ little 4 l
entry_bytes (Comment p l) = 5 ∷ place_bytes p ++ little 4 l
entry_bytes (Field a b p) = 6 ∷ a ∷ b ∷ place_bytes p

-- one after another
unfoldable pub entries_bytes : List Entry → List ℕ
unfolding entry_bytes
entries_bytes [] = []
entries_bytes (e ∷ es) = entry_bytes e ++ entries_bytes es

-- ---- which numbers fit into the bytes

abbrev pub FitsPlace : Place → Type 0
FitsPlace p = (p.at < 2 ^ 32) × (p.len < 2 ^ 32)

-- each number is small enough for its bytes
unfoldable pub FitsEntry : Entry → Type 0
FitsEntry End = ⊥
FitsEntry (Header v l) = (v.major < 2 ^ 32) × (v.minor < 2 ^ 32) × (l < 2 ^ 32)
FitsEntry (ReferenceSequence p n l) = FitsPlace p × (n < 2 ^ 64) × (l < 2 ^ 32)
FitsEntry (ReadGroup p l) = FitsPlace p × (l < 2 ^ 32)
FitsEntry (Program p l) = FitsPlace p × (l < 2 ^ 32)
FitsEntry (Comment p l) = FitsPlace p × (l < 2 ^ 32)
FitsEntry (Field a b p) = (a < 256) × (b < 256) × FitsPlace p

-- ---- from records

-- where a piece is
unfoldable pub piece_at : Piece → Place
piece_at p = record { at = p.at; len = length p.bytes }

-- the own entry of a record on the line `l`
unfoldable pub head_entry : ℕ → Record → Entry
unfolding piece_at
head_entry l (header v fs) = Header v l
head_entry l (reference p n fs) = ReferenceSequence (piece_at p) n l
head_entry l (group p fs) = ReadGroup (piece_at p) l
head_entry l (program p fs) = Program (piece_at p) l
head_entry l (comment p) = Comment (piece_at p) l

-- the entry of a field that is not a key
unfoldable pub field_entry : fields.Field → Entry
unfolding piece_at
field_entry f = Field f.tag₀ f.tag₁ (piece_at f.value)

-- the entries of records from the line `l` on; a field entry belongs to the record before it
unfoldable pub entries_on : ℕ → List Record → List Entry
unfolding head_entry field_entry others
entries_on l [] = []
entries_on l (r ∷ rs) = head_entry l r ∷ map field_entry (others r) ++ entries_on (l + 1) rs

unfoldable pub entries_of : List Record → List Entry
unfolding entries_on
entries_of rs = entries_on 0 rs

-- ---- a walk

-- the entries from the front of `s` on, at most `f`, up to what is not an entry
unfoldable pub entries_within : ℕ → List ℕ → List Entry
unfolding entry_of entry_size
entries_within zero s = []
entries_within (suc f) s =
    let e : Entry = entry_of s in
    cond (eqb (entry_size e) 0) [] (e ∷ entries_within f (drop (entry_size e) s))

-- the entries of a catalogue; there are no more than bytes
unfoldable pub entries_in : List ℕ → List Entry
unfolding entries_within
entries_in c = entries_within (length c) c

-- how many are of kind `k`
unfoldable pub counted : ℕ → List Entry → ℕ
unfolding kind_byte
counted k [] = 0
counted k (e ∷ es) = cond (eqb (kind_byte e) k) (suc (counted k es)) (counted k es)

-- the entries before the one of kind `k` that has `i` of that kind before it; all if there is none
unfoldable pub entries_before : ℕ → ℕ → List Entry → List Entry
unfolding kind_byte
entries_before k i [] = []
entries_before k zero (e ∷ es) = cond (eqb (kind_byte e) k) [] (e ∷ entries_before k zero es)
entries_before k (suc i) (e ∷ es) = e ∷ cond (eqb (kind_byte e) k) (entries_before k i es) (entries_before k (suc i) es)

-- the bytes that entries take
unfoldable pub sizes : List Entry → ℕ
unfolding entry_size
sizes [] = 0
sizes (e ∷ es) = entry_size e + sizes es
