-- The index starts anew after every block of lines. By then it is known which lines ahead have a key of an earlier block.
use Rattle.std.specs.Prelude.{ℕ, ◌+◌, ◌*◌, ◌/◌, Bool, drop, replicate, eqb, ltb}
use Rattle.std.proofs.Math.Bool.{cond}
use mathlib.Core.List.{List, [], ◌∷◌}
use Rattle.std.proofs.Math.ListN.{length}
use Rattle.format.specs.Lines.{Piece, lines_from}
use Rattle.format.specs.Records.{line}
use Rattle.record.specs.Head.{head_of}
use Rattle.key_index.specs.KeySlots.{is_found}
use Rattle.read_judge.specs.declared.Block.{Block}
use Rattle.key_look.specs.declared.Seed.{Seed}

-- the slots, which are emptied for the next block
unfoldable pub emptied : List ℕ → ℕ → Block → List ℕ
emptied slots n b = cond (ltb n b.until) slots (replicate (length slots) 0)

module _ (seed : Seed) where
  -- the first of some lines, counted from `n`, that is the line `clash` or has a key that the slots tell; `clash` where none is
  unfoldable pub clash_of : Bool → List ℕ → List ℕ → ℕ → ℕ → List Piece → ℕ
  unfolding is_found head_of line
  clash_of strict t slots clash n [] = clash
  clash_of strict t slots clash n (p ∷ ps) = cond (eqb n clash) clash (cond (is_found seed t slots (head_of (line strict p))) n (clash_of strict t slots clash (n + 1) ps))

  -- at the line `n`, which starts at `at`: the same block, or the next one
  unfoldable pub turned : Bool → List ℕ → List ℕ → ℕ → ℕ → Block → Block
  unfolding clash_of lines_from
  turned strict t slots at n b = cond (ltb n b.until) b (record { until = n + length slots / 4 * 3; clash = clash_of strict t slots b.clash n (lines_from at (drop at t)) })
