use Rattle.sha256.specs.Parts.{value_of}
use Rattle.sha256.proofs.Blocks.{Begun}
use Rattle.sha256.proofs.whole.Given as goal

abbrev pub invariant-loop-i : goal.invariant-loop-i
invariant-loop-i l = Begun l.text l.blocks (value_of l.s) l.i
