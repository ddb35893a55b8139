-- The programs that are a parent, for the laws of leaves.
use Rattle.std.specs.Prelude.{ℕ, Bool, false, ◌||◌, List, [], ◌∷◌, eqb}
use Rattle.format.specs.Programs.{Link, root, dangling, child}

-- is `x` the parent of some program?
unfoldable pub named : ℕ → List Link → Bool
named x [] = false
named x (root ∷ ls) = named x ls
named x (dangling ∷ ls) = named x ls
named x (child k ∷ ls) = eqb x k || named x ls
