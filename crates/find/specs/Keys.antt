-- The keys in the entries of a catalogue.
use Rattle.std.specs.Prelude.{ℕ, ◌≤◌, cond, List, [], ◌∷◌, length, eqb, Option, None, Some}
use Rattle.std.proofs.Math.Option as math
use Rattle.std.proofs.Math.Option.{none, some}
use Rattle.byte_slices.specs.Stands.{Each}
use Rattle.catalogue_entries.specs.declared.Place.{Place}
use Rattle.catalogue_entries.specs.declared.Entry.{Entry}
use Rattle.catalogue_entries.specs.declared.Entry.TheVariants.{End, Header, ReferenceSequence, ReadGroup, Program, Comment, Field}
use Rattle.catalogue_entries.specs.Entries.{kind_byte, counted}
use Rattle.program_ids.specs.Places.{InsideText, bytes_at}

-- where the key in an entry is
unfoldable pub key_place : Entry → Place
key_place End = record { at = 0; len = 0 }
key_place (Header v l) = record { at = 0; len = 0 }
key_place (ReferenceSequence p n l) = p
key_place (ReadGroup p l) = p
key_place (Program p l) = p
key_place (Comment p l) = record { at = 0; len = 0 }
key_place (Field a b p) = record { at = 0; len = 0 }

-- the keys in the entries of kind `k`, in order
unfoldable pub keys_in : List ℕ → ℕ → List Entry → List (List ℕ)
unfolding kind_byte key_place bytes_at
keys_in t k [] = []
keys_in t k (e ∷ es) = cond (eqb (kind_byte e) k) (bytes_at t (key_place e) ∷ keys_in t k es) (keys_in t k es)

-- each key is within the text, and there are no more entries of kind `k` than a text can have
pub record KeysInText (t : List ℕ) (k : ℕ) (es : List Entry) : Type 0 where
  pub inside : Each (λ e. InsideText (length t) (key_place e)) es
  pub few : counted k es ≤ 16777216

-- an ordinal, if there is one
unfoldable pub found_of : math.Option ℕ → Option ℕ
found_of none = None
found_of (some i) = Some i
