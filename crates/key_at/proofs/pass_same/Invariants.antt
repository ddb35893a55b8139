use Prim.Native.Nat.{◌+◌, ◌*◌}
use mathlib.Core.Path.{◌≡◌}
use lib.ListN.{drop}
use Rattle.format.specs.Bytes.{same}
use Rattle.key_at.specs.Word.{word}
use Rattle.key_at.proofs.pass_same.Given as goal

abbrev pub invariant-loop-block : goal.invariant-loop-block
invariant-loop-block l = same l.key (word (drop l.at l.text)) ≡ same (drop (l.block * 8) l.key) (word (drop (l.at + l.block * 8) l.text))
