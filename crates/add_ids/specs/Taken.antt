-- The IDs that adding makes of a prefix and the IDs of programs, and whether a program has one of them already.
use Rattle.std.specs.Prelude.{ℕ, ◌+◌, ◌*◌, Bool, false, ◌||◌, List, [], ◌∷◌, ◌++◌, get_or}
use Rattle.format.specs.Adding.{is_known}
use Rattle.program_ids.specs.Search.{id_ordinal_from}

-- prefix, `-`, ID
unfoldable pub joined : List ℕ → List ℕ → List ℕ
joined prefix id = prefix ++ (45 ∷ id)

-- is it one of these IDs?
unfoldable pub is_among : List ℕ → List (List ℕ) → Bool
unfolding is_known id_ordinal_from
is_among id ids = is_known (id_ordinal_from id 0 ids)

-- the ID of the program with an ordinal; empty if there is none
unfoldable pub id_in : List (List ℕ) → ℕ → List ℕ
id_in ids k = get_or ids k []

-- where it is in the text, by the list of IDs: no bytes are at its front
unfoldable pub id_standing : List ℕ → ℕ → ℕ × ℕ → ℕ × ℕ
id_standing ids k text = (text.0, get_or ids (k * 3) 0 + text.1)

-- does a program have an ID that is made of the prefix and one of these IDs?
unfoldable pub taken : List (List ℕ) → List ℕ → List ℕ → Bool
unfolding joined is_among id_in
taken ids prefix [] = false
taken ids prefix (k ∷ ks) = is_among (joined prefix (id_in ids k)) ids || taken ids prefix ks
