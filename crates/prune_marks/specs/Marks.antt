-- Marks of the programs that are needed.
use Rattle.std.specs.Prelude.{ℕ, ◌≡◌, Bool, true, false, ◌||◌, List, map, length, get_or}
use Rattle.format.specs.Programs.{Link, root, child, reaches, numbers_from}
use Rattle.format.specs.Prune.{is_needed}

-- the marks of 1,024 places: which are needed?
unfoldable pub needed_marks : List Link → List ℕ → List Bool
unfolding is_needed numbers_from
needed_marks ls us = map (is_needed ls us) (numbers_from 0 1024)

-- the parent of a marked program is marked
unfoldable pub Closed : List Link → List Bool → Type 0
Closed ls marks = (k j : ℕ) → get_or marks k false ≡ true → get_or ls k root ≡ child j → get_or marks j false ≡ true

-- `u` and its ancestors are marked, and those that were marked before
pub record Up (ls : List Link) (u : ℕ) (before after : List Bool) : Type 0 where
  pub closed : Closed ls after
  pub each : (k : ℕ) → get_or after k false ≡ (get_or before k false || reaches ls k (length ls) (child u))
