-- What is found from the parents, and what goes into the output and the table.
use Rattle.std.specs.Prelude.{ℕ, ◌≡◌, List, map, length, replicate, Result, Ok, Err}
use Rattle.format.specs.Programs.{Link, tangled, leaves, hops}
use Rattle.format.specs.declared.Refusal.{Refusal}
use Rattle.program_chains.specs.Parents.{in_array}
use Rattle.format.specs.Calls.{Answer}
use Rattle.format.specs.declared.Node.{Node}
use Rattle.programs_by_table.specs.declared.DeepGraph.{DeepGraph}
use Rattle.programs_by_table.specs.declared.TablePlan.{TablePlan}
use Rattle.programs.specs.Answers.{leaves_answer_of}
use Rattle.format.specs.Table.{nodes}
use Rattle.programs_by_table.specs.Answers.{without_table, nodes_in}

-- the parents and the depths in some records, each in an array
unfoldable pub parents_in : List Node → List ℕ
unfolding in_array
parents_in ns = in_array (map (λ n. n.parent) ns)

unfoldable pub depths_in : List Node → List ℕ
unfolding in_array
depths_in ns = in_array (map (λ n. n.depth) ns)

-- the plan for an answer: the answer, and what goes into the table
unfoldable pub plan_for : Answer (List ℕ × ℕ × List Node) → TablePlan
unfolding leaves_answer_of without_table parents_in depths_in nodes_in
plan_for a = record { answer = leaves_answer_of (without_table a); parents = parents_in (nodes_in a); depths = depths_in (nodes_in a); count = length (nodes_in a) }

-- nothing found, because of a refusal
unfoldable pub no_graph_of : ℕ → DeepGraph
no_graph_of n =
    let none : List ℕ = replicate 1024 0 in
    record { refusal = n; parents = none; depths = none; count = 0; hops = 0; leaves = record { list = none; count = 0 } }

-- what links say: 0, 22 or 23, and for 0 the programs, the leaves and the hops
pub record DeepGraphOf (ls : List Link) (f : DeepGraph) : Type 0 where
  pub refusal : f.refusal ≡ tangled ls
  pub count : f.refusal ≡ 0 → f.count ≡ length ls
  pub parents : f.refusal ≡ 0 → f.parents ≡ parents_in (nodes ls)
  pub depths : f.refusal ≡ 0 → f.depths ≡ depths_in (nodes ls)
  pub hops : f.refusal ≡ 0 → f.hops ≡ hops ls
  pub listed : f.refusal ≡ 0 → f.leaves.list ≡ in_array (leaves ls)
  pub counted : f.refusal ≡ 0 → f.leaves.count ≡ length (leaves ls)

-- a plan that changes nothing, because of a refusal
unfoldable pub stopped_plan_of : Refusal → TablePlan
stopped_plan_of r = record { answer = Err r; parents = replicate 1024 0; depths = replicate 1024 0; count = 0 }

-- the plan that follows from what was written to the output
unfoldable pub table_plan_of : Result ℕ Refusal → DeepGraph → TablePlan
unfolding stopped_plan_of
table_plan_of (Err r) f = stopped_plan_of r
table_plan_of (Ok n) f = record { answer = Ok (record { leaves = n; hops = f.hops }); parents = f.parents; depths = f.depths; count = f.count }
