use Prim.Native.Nat.{◌+◌}
use mathlib.Core.Path.{◌≡◌}
use mathlib.Core.Bool.{◌&&◌}
use lib.ListN.{drop}
use Rattle.format.specs.Bytes.{same}
use Rattle.key_at.specs.Word.{word}
use Rattle.key_at.proofs.is_same_block.Given as goal

abbrev pub invariant-loop-j : goal.invariant-loop-j
invariant-loop-j l = same (drop l.i l.key) (word (drop l.at l.text)) ≡ (l.all && same (drop (l.i + l.j) l.key) (word (drop (l.at + l.j) l.text)))
