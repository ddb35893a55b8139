use Rattle.std.proofs.Common.{◌≤◌}
use Rattle.sip_hash.proofs.Last.{Worth}
use Rattle.sip_hash.proofs.tail.Given as goal

abbrev pub invariant-loop-i : goal.invariant-loop-i
invariant-loop-i l = (l.start ≤ l.i) × Worth l.bytes l.i l.w
