-- Slots that are filled from the entries of a catalogue. A slot holds one more than the ordinal of an SQ entry, or one more than the offset of its
-- name in the text with seven bits of the name's hash below it.
use Rattle.std.specs.Prelude.{ℕ, suc, ◌+◌, ◌*◌, ◌/◌, ◌%◌, Bool, cond, List, [], ◌∷◌, length, set, replicate, eqb}
use Rattle.std.proofs.lemmas.List.Edits.{sets}
use Rattle.format.specs.Slots.{seat}
use Rattle.catalogue_entries.specs.declared.Entry.{Entry}
use Rattle.catalogue_entries.specs.declared.Entry.TheVariants.{End, Header, ReferenceSequence, ReadGroup, Program, Comment, Field}
use Rattle.catalogue_entries.specs.declared.Place.{Place}
use Rattle.catalogue_entries.specs.Entries.{kind_byte, entries_in}
use Rattle.format.specs.NameIndex.{hash_from, first, enter}
use Rattle.name_entries.specs.Names.{name_at, name_in}

-- ---- the value of a slot

-- where the name of an SQ entry starts: after the text if there is none
unfoldable pub start_in : List ℕ → Entry → ℕ
start_in t End = length t
start_in t (Header v l) = length t
start_in t (ReferenceSequence p n l) = p.at % 16777216
start_in t (ReadGroup p l) = length t
start_in t (Program p l) = length t
start_in t (Comment p l) = length t
start_in t (Field a b p) = length t

-- what a slot keeps of a name besides its place: seven bits of its hash, which tell most other names apart without a look at the text. The hashes of
-- names that enter near each other differ in their low bits or in their high bits
unfoldable pub mark_of : ℕ → ℕ
mark_of h = (h % 65536 + h / 65536) % 128

-- the ordinal plus one, or the offset with the seven bits below it, plus one
unfoldable pub value_of : Bool → ℕ → ℕ → ℕ → ℕ
unfolding mark_of
value_of ordinals k h at = suc (cond ordinals k (at * 128 + mark_of h))

-- ---- filling

-- the names of the SQ entries enter in order; the first SQ has the ordinal `k`
unfoldable pub entering : Bool → List ℕ → ℕ → List Entry → List ℕ → List ℕ
unfolding kind_byte name_in start_in value_of hash_from enter
entering ordinals t k [] slots = slots
entering ordinals t k (e ∷ es) slots =
    cond (eqb (kind_byte e) 2)
    (entering ordinals t (k + 1) es (enter (value_of ordinals k (hash_from 0 (name_in t e)) (start_in t e)) (name_in t e) slots))
    (entering ordinals t k es slots)

-- the slots that they enter, in order
unfoldable pub seats : Bool → List ℕ → ℕ → List Entry → List ℕ → List ℕ
unfolding kind_byte name_in start_in value_of hash_from first seat enter
seats ordinals t k [] slots = []
seats ordinals t k (e ∷ es) slots =
    cond (eqb (kind_byte e) 2)
    (seat (first (length slots) (name_in t e)) slots ∷ seats ordinals t (k + 1) es (enter (value_of ordinals k (hash_from 0 (name_in t e)) (start_in t e)) (name_in t e) slots))
    (seats ordinals t k es slots)

-- ordinals plus one at the slots `ss`; the first of them has the ordinal `k`
unfoldable pub with_ordinals : ℕ → List ℕ → List ℕ → List ℕ
with_ordinals k [] slots = slots
with_ordinals k (s ∷ ss) slots = with_ordinals (k + 1) ss (set slots s (suc k))

-- ---- what calls leave

-- the slots after the name at a place entered, for the SQ with the ordinal `k`
abbrev pub name_entered : Bool → List ℕ → Place → ℕ → List ℕ → List ℕ
name_entered ordinals t p k slots = enter (value_of ordinals k (hash_from 0 (name_at t p)) (p.at % 16777216)) (name_at t p) slots

-- the slots after the names of a catalogue entered
abbrev pub names_entered : Bool → List ℕ → List ℕ → List ℕ → List ℕ
names_entered ordinals t c slots = entering ordinals t 0 (entries_in c) slots

-- the notes after that: the slots that they enter, as long as there is room for notes
abbrev pub seats_noted : Bool → List ℕ → List ℕ → List ℕ → List ℕ → List ℕ
seats_noted ordinals t c slots notes = sets notes 0 (seats ordinals t 0 (entries_in c) slots)

-- ---- the same, if all slots were emptied before

abbrev pub filled_anew : Bool → List ℕ → List ℕ → List ℕ → List ℕ
filled_anew ordinals t c slots = entering ordinals t 0 (entries_in c) (replicate (length slots) 0)

abbrev pub seats_anew : Bool → List ℕ → List ℕ → List ℕ → List ℕ
seats_anew ordinals t c slots = seats ordinals t 0 (entries_in c) (replicate (length slots) 0)

abbrev pub noted_anew : Bool → List ℕ → List ℕ → List ℕ → List ℕ → List ℕ
noted_anew ordinals t c slots notes = sets notes 0 (seats_anew ordinals t c slots)
