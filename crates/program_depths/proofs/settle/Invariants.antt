use Prim.Native.Nat.{◌<◌}
use mathlib.Core.Path.{◌≡◌}
use lib.ListN.{length}
use Rattle.program_depths.specs.Depths.{deep, KnownRight, KnownStay}
use Rattle.program_depths.proofs.settle.Given as goal

abbrev pub invariant-loop-depth : goal.invariant-loop-depth
invariant-loop-depth l =
    (l.at < length l.parents) × (l.depth ≡ deep l.parents l.at) × (l.depth < length l.parents) × KnownRight l.parents l.depths × KnownStay l.initial.depths l.depths × (length l.depths ≡ length l.initial.depths)
