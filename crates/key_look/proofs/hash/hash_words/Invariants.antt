use Prim.Native.Nat.{◌-◌, ◌≤◌, ◌<◌}
use mathlib.Core.Path.{◌≡◌}
use lib.ListN.{length, drop}
use Rattle.key_look.specs.Hash.{words_from}
use Rattle.key_look.proofs.hash.hash_words.Given as goal

abbrev pub invariant-loop-i : goal.invariant-loop-i
invariant-loop-i l = (l.i ≤ length l.id) × (l.h < 4294967296) × (words_from l.kind l.id ≡ words_from l.h (drop l.i l.id))

abbrev pub decreases-loop-i : goal.decreases-loop-i
decreases-loop-i l = length l.id - l.i
