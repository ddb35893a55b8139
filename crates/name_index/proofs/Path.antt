-- The path of a name: which slot a step of the search is at.
use Rattle.std.proofs.Common.{◌≡◌, ℕ, ◌+◌, ◌%◌, ◌<◌, List, length, get_or, sym, ap, ◌∙◌, mod-lt, arith}
use Rattle.format.specs.Slots.{around, full, seat}
use Rattle.format.proofs.Slots.{around-length, around-at}
use Rattle.format.specs.NameIndex.{first, path}

pub seat-lt : (at : ℕ) (slots : List ℕ) → 0 < length slots → seat at slots < length slots
unfolding seat
seat-lt at slots some = mod-lt _ some

-- the slots from the slot `f` on
module _ (slots : List ℕ) (f : ℕ) (below : f < length slots) where
  pub around-long : length (around f slots) ≡ length slots
  around-long = around-length f slots (omega (arith, below))

  -- the slot `at` of a step that is `i` slots on
  module _ (i at : ℕ) (on : at ≡ (f + i) % length slots) where
    pub within : at < length slots
    within = rw on (mod-lt _ (omega (arith, below)))

    pub around-slot : i < length slots → get_or (around f slots) i 0 ≡ get_or slots at 0
    around-slot l = around-at slots f i below l ∙ ap (λ k. get_or slots k 0) (sym on)

    -- it is the one that is entered if those before it are full
    pub seated : full (around f slots) ≡ i → at ≡ seat f slots
    unfolding seat
    seated e = on ∙ ap (λ k. (f + k) % length slots) (sym e)

-- the slots from a name's first slot on
module _ (slots x : List ℕ) (some : 0 < length slots) where
  pub first-lt : first (length slots) x < length slots
  unfolding first
  first-lt = mod-lt _ some

  pub path-length : length (path x slots) ≡ length slots
  unfolding path
  path-length = around-long slots (first (length slots) x) first-lt

  pub path-at : (i : ℕ) → i < length slots → get_or (path x slots) i 0 ≡ get_or slots ((first (length slots) x + i) % length slots) 0
  unfolding path
  path-at i l = around-at slots (first (length slots) x) i first-lt l
