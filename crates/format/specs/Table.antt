-- A second way to find the leaves (Req 10): the leaves and hops of the first, and a table with the parent and the depth of each program.
use Rattle.std.specs.Prelude.{ℕ, cond, List, map, length, ltb}
use Rattle.format.specs.Programs.{Link, root, dangling, child, programs, links, depth}
use Rattle.format.specs.declared.Node.{Node}
use Rattle.format.specs.Calls.{Answer, refused, yes, then, fresh, leafing}

-- a root has the parent nobody; if no PP dangles, no other link has
unfoldable pub parent_number : Link → ℕ
parent_number root = 4294967295
parent_number dangling = 4294967295
parent_number (child k) = k

unfoldable pub nodes : List Link → List Node
unfolding parent_number depth
nodes ls = map (λ l. record { parent = parent_number l; depth = depth ls (length ls) l }) ls

-- the leaves, the hops and the table: as the first engine answers, and 20 also for a table with room for fewer than all programs
unfoldable pub leafing_table : List ℕ → List ℕ → ℕ → ℕ → Answer (List ℕ × ℕ × List Node)
unfolding then fresh leafing nodes links programs
leafing_table text c room seats =
    then (fresh text c) (λ rs.
    then (leafing text c room) (λ a.
    let table : List Node = nodes (links (programs rs)) in
    cond (ltb seats (length table)) (refused 20 0) (yes (a.0, a.1, table))))
