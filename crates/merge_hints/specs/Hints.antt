-- Slots that hold references of a text, and which of them are marked.
use Rattle.std.specs.Prelude.{ℕ, ◌-◌, ◌%◌, ◌≤◌, ◌≡◌, Bool, true, List, ◌∷◌, length, get_or, Some}
use Rattle.format.specs.References.{Reference, same_reference}
use Rattle.binary_references.specs.Next.{sq_from}
use Rattle.merge_references.specs.Joining.{met_in}

-- the offset from which the reference of a slot is the next one: 0 for an empty slot
unfoldable pub slot_offset : ℕ → ℕ
slot_offset v = v % 33554432 - 1

-- the offset of each slot is within the text
pub record Placed (t slots : List ℕ) : Type 0 where
  pub within : (p : ℕ) → slot_offset (get_or slots p 0) ≤ length t

-- a reference with the name and the length of `r` is found among `rs`
abbrev pub Agreed : Reference → List Reference → Type 0
Agreed r rs = (q : Reference) → same_reference q r ≡ true → met_in q rs ≡ Some true

-- the next reference from the offset `at` on is found among `rs`, with its length
abbrev pub Known : Bool → List ℕ → List Reference → ℕ → Type 0
Known strict t rs at = (q : Reference) (rest : List Reference) → sq_from strict t at ≡ q ∷ rest → met_in q rs ≡ Some true

-- the reference of each marked slot is found among `rs`
pub record Marked (strict : Bool) (t : List ℕ) (rs : List Reference) (slots : List ℕ) : Type 0 where
  pub known : (p : ℕ) → 2147483648 ≤ get_or slots p 0 → Known strict t rs (slot_offset (get_or slots p 0))
