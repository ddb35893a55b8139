use Prim.Native.Nat.{◌<◌}
use mathlib.Core.Path.{◌≡◌}
use lib.ListN.{drop}
use Rattle.key_look.specs.Hash.{bytes_from, key_hash}
use Rattle.key_look.proofs.hash.hash.Given as goal

abbrev pub invariant-loop-b : goal.invariant-loop-b
invariant-loop-b l = (l.h < 4294967296) × (key_hash l.kind l.id ≡ bytes_from l.h (drop l.b-index l.rest))
