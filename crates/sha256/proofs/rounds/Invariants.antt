use Prim.Native.Nat.{◌*◌}
use Rattle.sha256.specs.Parts.{value_of}
use Rattle.sha256.proofs.RoundByRound.{Left}
use Rattle.sha256.proofs.rounds.Given as goal

abbrev pub invariant-loop-step : goal.invariant-loop-step
invariant-loop-step l = Left l.w (value_of l.initial.s) (value_of l.s) (4 * l.step)
