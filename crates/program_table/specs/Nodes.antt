-- Records of a table, and a table with records at its front.
use Rattle.std.specs.Prelude.{ℕ, List, [], ◌∷◌, ◌++◌, length, drop}
use Rattle.format.specs.declared.Node.{Node}

-- the records that a list of parents and a list of depths make
unfoldable pub nodes_of : List ℕ → List ℕ → List Node
nodes_of [] ds = []
nodes_of (p ∷ ps) [] = []
nodes_of (p ∷ ps) (d ∷ ds) = record { parent = p; depth = d } ∷ nodes_of ps ds

-- records at the front of a table: those after them stay as they were
unfoldable pub in_front : List Node → List Node → List Node
in_front ns table = ns ++ drop (length ns) table
