-- A search in slots that hold offsets of names in the text and bits of their hashes, and reading slots that hold ordinals.
use Rattle.std.specs.Prelude.{ℕ, zero, suc, ◌+◌, ◌-◌, ◌/◌, ◌%◌, Bool, cond, ◌&&◌, List, [], ◌∷◌, length, get_or, drop, eqb}
use Rattle.format.specs.Bytes.{same}
use Rattle.key_at.specs.Word.{word}
use Rattle.format.specs.NameIndex.{absent, hash_from, first, path, ordinal_of, looked}
use Rattle.name_slots.specs.Filled.{mark_of}

-- ---- the search

-- does a slot with the value `v` hold the name `x`?
unfoldable pub says : List ℕ → List ℕ → ℕ → Bool
unfolding mark_of hash_from same word
says t x v = eqb (mark_of (hash_from 0 x)) ((v - 1) % 128) && same x (word (drop ((v - 1) / 128) t))

-- the slot, of `n`, with the first value that is accepted; an empty slot ends the search. The search is at the slot `i` and goes round the end
unfoldable pub landing : (ℕ → Bool) → ℕ → ℕ → List ℕ → ℕ
unfolding absent
landing hit n i [] = absent
landing hit n i (zero ∷ ss) = absent
landing hit n i (suc v ∷ ss) = cond (hit (suc v)) (i % n) (landing hit n (i + 1) ss)

-- along the path of a name
unfoldable pub landed : (ℕ → Bool) → List ℕ → List ℕ → ℕ
unfolding landing first path
landed hit slots x = landing hit (length slots) (first (length slots) x) (path x slots)

-- the slot that holds a name
unfoldable pub slot_of : List ℕ → List ℕ → List ℕ → ℕ
unfolding landed says
slot_of t slots x = landed (says t x) slots x

-- how many slots are looked at for it
unfoldable pub looks_of : List ℕ → List ℕ → List ℕ → ℕ
unfolding looked says path
looks_of t slots x = looked (says t x) (path x slots)

-- ---- reading

-- the ordinal in a slot: none if there is no such slot
unfoldable pub ordinal_at : List ℕ → ℕ → ℕ
unfolding ordinal_of
ordinal_at slots p = ordinal_of (get_or slots p 0)
