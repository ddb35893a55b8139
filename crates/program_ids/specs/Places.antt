-- Places of a text, as numbers in arrays: where the IDs of programs stand.
use Rattle.std.specs.Prelude.{ℕ, ◌+◌, ◌≤◌, ◌≡◌, List, [], ◌∷◌, length, take, drop}
use Rattle.byte_slices.specs.Stands.{Each}
use Rattle.catalogue_entries.specs.declared.Place.{Place}

-- a place is within `n` bytes
abbrev pub InsideText : ℕ → Place → Type 0
InsideText n p = p.at + p.len ≤ n

-- a place that is in no text
unfoldable pub nowhere : Place
nowhere = record { at = 4294967295; len = 0 }

-- the bytes of a text at a place
unfoldable pub bytes_at : List ℕ → Place → List ℕ
bytes_at t p = take p.len (drop p.at t)

-- the places that have these offsets and these lengths
unfoldable pub places_of : List ℕ → List ℕ → List Place
places_of [] lens = []
places_of (a ∷ ats) [] = []
places_of (a ∷ ats) (l ∷ lens) = record { at = a; len = l } ∷ places_of ats lens

-- there are as many offsets as lengths, 1,024 at most, and each place is within the text
pub record PlacesInText (t ats lens : List ℕ) : Type 0 where
  pub even : length ats ≡ length lens
  pub few : length ats ≤ 1024
  pub inside : Each (InsideText (length t)) (places_of ats lens)
