-- `replay_answers::is_number` meets its contract: the digits are written, and compared.
use Prim.Native.Nat.{ℕ}
use mathlib.Core.Path.{sym, ap, ap₂, ◌∙◌}
use native.Mathlib.Omega.{arith}
use lib.ListN.{take, replicate}
use lib.Seq.{length-take-le}
use Rattle.format.specs.Bytes.{same}
use Rattle.format.specs.Decimal.{written}
use Rattle.byte_slices.proofs.Over.{over-take}
use Rattle.decimal.proofs.Written.{written-short}
use Rattle.replay_answers.proofs.is_number.Goals as goal

pub write_u64-len-requires : goal.write_u64-len-requires
write_u64-len-requires c = omega (arith, written-short c.args.n)

pub slice_bounds-digits-end : goal.slice_bounds-digits-end
slice_bounds-digits-end c = omega (arith, c.write_u64-len.ensures.next, written-short c.args.n)

pub slice_bounds-same-end : goal.slice_bounds-same-end
slice_bounds-same-end c = sym (length-take-le _ _ (omega (arith, c.write_u64-len.ensures.next, written-short c.args.n)))

pub returns : goal.returns
returns c =
    let a = c.args in
    c.same.ensures
    ∙ ap (same a.s.now) (ap₂ take c.write_u64-len.ensures.next c.write_u64-len.ensures.wrote ∙ over-take (replicate {A = ℕ} 20 0) 0 (written a.n) (omega arith))
