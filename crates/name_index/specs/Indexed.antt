-- What an index must satisfy (Req 06 and 07): how many slots it has, and that a search along a name's path finds, in few steps, what the plain search
-- finds.
use Rattle.std.specs.Prelude.{◌≡◌, ℕ, suc, ◌+◌, ◌*◌, ◌^◌, ◌≤◌, List, length}
use Rattle.format.specs.Slots.{seek}
use Rattle.format.specs.NameIndex.{name_ordinal, path, index, ordinal_of, tells_name, looks}

-- for every list of names
pub record Indexed (xs : List (List ℕ)) : Type 0 where
  -- the number of slots is a power of two and at least 2, at least twice the number of names, and the smallest such number
  pub power : (e : ℕ) × (length (index xs) ≡ 2 ^ suc e)
  pub enough : 2 * length xs ≤ length (index xs)
  pub smallest : (e : ℕ) → 2 * length xs ≤ 2 ^ suc e → length (index xs) ≤ 2 ^ suc e
  -- the first slot of the path that holds the name, if none before it is empty, has the ordinal that the plain search finds
  pub finds : (x : List ℕ) → ordinal_of (seek (tells_name xs x) (path x (index xs))) ≡ name_ordinal xs x
  -- at most one more slot is looked at than there are names
  pub soon : (x : List ℕ) → looks xs x ≤ length xs + 1
