-- The answer of the second engine in the code's numbers, and what it leaves in a table.
use Rattle.std.specs.Prelude.{ℕ, List, [], length, Result}
use Rattle.format.specs.Calls.{Answer, refused, yes}
use Rattle.format.specs.declared.Node.{Node}
use Rattle.format.specs.declared.Refusal.{Refusal}
use Rattle.format.specs.Table.{leafing_table}
use Rattle.program_table.specs.Nodes.{in_front}
use Rattle.read.specs.Answers.{output_of}
use Rattle.programs.specs.declared.Counted.{Counted}
use Rattle.programs.specs.Answers.{leaves_answer_of, list_of}

-- the answer without the table, as the first engine gives it
unfoldable pub without_table : Answer (List ℕ × ℕ × List Node) → Answer (List ℕ × ℕ)
without_table (refused n l) = refused n l
without_table (yes a) = yes (a.0, a.1)

-- the records that go to the front of the table: none for a refusal
unfoldable pub nodes_in : Answer (List ℕ × ℕ × List Node) → List Node
nodes_in (refused n l) = []
nodes_in (yes a) = a.2

-- ---- a call with a text, a catalogue, a table and an output

-- its answer, for a table of `seats` records
abbrev pub seated_answer : List ℕ → List ℕ → ℕ → List ℕ → Result Counted Refusal
seated_answer text c seats out = leaves_answer_of (without_table (leafing_table text c (length out) seats))

-- what it leaves in the output: the leaves at the front; a refusal changes nothing
abbrev pub seated_leaves : List ℕ → List ℕ → ℕ → List ℕ → List ℕ
seated_leaves text c seats out = output_of (list_of (without_table (leafing_table text c (length out) seats))) out

-- what it leaves in the table: the records at the front; a refusal changes nothing
abbrev pub nodes_left : List ℕ → List ℕ → List Node → List ℕ → List Node
nodes_left text c table out = in_front (nodes_in (leafing_table text c (length out) (length table))) table
