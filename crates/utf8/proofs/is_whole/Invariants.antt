use mathlib.Core.Path.{◌≡◌}
use mathlib.Core.List.{[]}
use lib.ListN.{drop}
use Rattle.format.specs.Utf8.{characters}
use Rattle.utf8.specs.Pending.{due_of}
use Rattle.utf8.proofs.is_whole.Given as goal

abbrev pub invariant-loop-b : goal.invariant-loop-b
invariant-loop-b l = characters [] l.s ≡ characters (due_of l.pending) (drop l.b-index l.s)
