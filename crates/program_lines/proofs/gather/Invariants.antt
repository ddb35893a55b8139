use Prim.Native.Nat.{◌-◌}
use lib.ListN.{length}
use Rattle.program_lines.proofs.Listed.{Listed}
use Rattle.program_lines.proofs.gather.Given as goal

abbrev pub invariant-loop-p : goal.invariant-loop-p
invariant-loop-p l = Listed l.text l.strict l.starts l.sizes l.ats l.lens l.from l.widths l.count l.at

abbrev pub decreases-loop-p : goal.decreases-loop-p
decreases-loop-p l = length l.text - l.at
