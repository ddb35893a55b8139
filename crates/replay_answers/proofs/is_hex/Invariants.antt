use Prim.Native.Nat.{◌*◌}
use mathlib.Core.Path.{◌≡◌}
use lib.ListN.{length, drop}
use Rattle.format.specs.Bytes.{same}
use Rattle.replay_answers.specs.Answers.{hex_of, hex_word}
use Rattle.replay_answers.proofs.is_hex.Given as goal

abbrev pub invariant-loop-i : goal.invariant-loop-i
invariant-loop-i l =
    (length l.s ≡ 2 * length l.bytes) × (same l.s (hex_word l.bytes) ≡ same (drop (2 * l.i) l.s) (hex_of (drop l.i l.bytes)))
