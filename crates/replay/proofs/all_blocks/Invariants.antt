-- `replay::all_blocks` ends: each block has a byte at least.
use Rattle.std.proofs.Common.{◌-◌, ◌+◌, ◌<◌, ◌≡◌, length}
use Rattle.replay.proofs.all_blocks.Given as goal

abbrev pub invariant-loop-at : goal.invariant-loop-at
invariant-loop-at l = length l.tally ≡ length l.initial.tally

abbrev pub decreases-loop-at : goal.decreases-loop-at
decreases-loop-at l = 16777216 - l.at
