use Prim.Native.Nat.{◌-◌, ◌≤◌}
use mathlib.Core.Path.{◌≡◌}
use lib.ListN.{length}
use Rattle.format.specs.Merge.{shapes, images}
use Rattle.accepted.specs.Read.{records_of}
use Rattle.merge_programs.proofs.All.{images_from}
use Rattle.merge_programs.proofs.has_images.Given as goal

abbrev pub invariant-loop-i : goal.invariant-loop-i
invariant-loop-i l =
    (l.i ≤ length l.list) × (images l.list (shapes (records_of l.a)) (shapes (records_of l.m)) ≡ images_from l.list (shapes (records_of l.a)) (shapes (records_of l.m)) l.i)
