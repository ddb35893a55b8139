-- `program_table::put_nodes` meets its contract: after `i` steps the first `i` records are at the front of the table. Assumes nothing.
use Rattle.std.proofs.Common.{◌≡◌}
use Rattle.program_table.proofs.Fronts.{front}
use Rattle.program_table.proofs.put_nodes.Given as goal

abbrev pub invariant-loop-i : goal.invariant-loop-i
invariant-loop-i l = l.table ≡ front l.parents l.depths l.initial.table l.i
