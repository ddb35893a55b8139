-- `binary_parts::unpadded_len` meets its contract: there are only zero bytes after `n`.
use Prim.Native.Nat.{◌+◌, ◌-◌}
use mathlib.Core.Path.{◌≡◌, sym, ap, ◌∙◌}
use native.Mathlib.Omega.{arith}
use lib.ListN.{length, take}
use lib.Seq.{take-length, length-take-le}
use Rattle.format.specs.Binary.{unpadded}
use Rattle.binary_parts.proofs.Unpadded.{unpadded-on, unpadded-at}
use Rattle.binary_parts.proofs.unpadded_len.Goals as goal

pub loop-n-init : goal.loop-n-init
loop-n-init c = (omega arith, ap unpadded (sym (take-length c.args.run.now)))

pub returns-then-run-n-ne0 : goal.returns-then-run-n-ne0
returns-then-run-n-ne0 c =
    let s = c.args.run.now in
    let n = c.loop-n.n in
    let z : n - 1 + 1 ≡ n = omega arith in
    z ∙ sym (ap length (c.loop-n.invariant.1 ∙ unpadded-at s n (omega arith) c.loop-n.invariant.0 c.if-run-n-ne0.true) ∙ length-take-le n s c.loop-n.invariant.0)

pub loop-n-preserved : goal.loop-n-preserved
loop-n-preserved c =
    (omega arith, c.loop-n.invariant.1 ∙ unpadded-on c.args.run.now c.loop-n.n (omega arith) c.loop-n.invariant.0 c.if-run-n-ne0.false)

pub returns : goal.returns
unfolding unpadded
returns c =
    let s = c.args.run.now in
    let z : c.loop-n.n ≡ 0 = omega arith in
    sym (ap length (c.loop-n.invariant.1 ∙ ap (λ n. unpadded (take n s)) z))
