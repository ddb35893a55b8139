use Prim.Native.Nat.{◌-◌, ◌<◌}
use mathlib.Core.Path.{◌≡◌}
use lib.ListN.{length, get_or}
use Rattle.format.specs.Programs.{reaches}
use Rattle.fault_lines.specs.Links.{link_in, links_in}
use Rattle.fault_lines.proofs.link_fault.Given as goal

abbrev pub invariant-loop : goal.invariant-loop
invariant-loop l = (l.at < 4294967294 → l.at < length l.parents) × (reaches (links_in l.parents) l.i (length l.parents) (link_in (get_or l.parents l.i 0)) ≡ reaches (links_in l.parents) l.i (length l.parents - l.counter) (link_in l.at))
