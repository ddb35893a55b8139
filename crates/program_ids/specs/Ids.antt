-- The IDs of programs in one list of numbers: for each its offset in the text, its length, and its number.
use Rattle.std.specs.Prelude.{ℕ, ◌≤◌, ◌%◌, ◌≡◌, List, [], ◌∷◌, map, length}
use Rattle.byte_slices.specs.Stands.{Each}
use Rattle.catalogue_entries.specs.declared.Place.{Place}
use Rattle.key_look.specs.Hash.{key_hash}
use Rattle.program_ids.specs.Places.{InsideText, bytes_at}

-- the number of an ID; any function of its bytes would do
unfoldable pub id_number : List ℕ → ℕ
unfolding key_hash
id_number id = key_hash 4 id % 4294967296

-- the list of the IDs at some places of a text
unfoldable pub id_list : List ℕ → List Place → List ℕ
unfolding bytes_at id_number
id_list t [] = []
id_list t (p ∷ ps) = p.at ∷ p.len ∷ id_number (bytes_at t p) ∷ id_list t ps

-- the places that a list says
unfoldable pub places_in : List ℕ → List Place
places_in [] = []
places_in (a ∷ []) = []
places_in (a ∷ l ∷ []) = []
places_in (a ∷ l ∷ n ∷ ids) = record { at = a; len = l } ∷ places_in ids

-- the bytes there
unfoldable pub ids_at : List ℕ → List ℕ → List (List ℕ)
unfolding bytes_at places_in
ids_at t ids = map (bytes_at t) (places_in ids)

-- it is a list of IDs in the text, of 1,024 at most
pub record IdsInText (t ids : List ℕ) : Type 0 where
  pub places : List Place
  pub is : ids ≡ id_list t places
  pub few : length places ≤ 1024
  pub inside : Each (InsideText (length t)) places
