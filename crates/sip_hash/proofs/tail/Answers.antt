-- `sip_hash::tail` meets its contract: from the last byte on.
use Rattle.std.proofs.Common.{◌≡◌, ℕ, suc, ◌-◌, ◌<◌, get_or, subst, arith}
use Rattle.sip_hash.proofs.Last.{Worth, worth-none, worth-more, worth-lt}
use Rattle.sip_hash.proofs.tail.Goals as goal

pub loop-i-init : goal.loop-i-init
loop-i-init c = (omega arith, worth-none c.args.bytes.now)

pub overflow_mul-w : goal.overflow_mul-w
overflow_mul-w c =
    omega (arith, worth-lt c.args.bytes.now c.loop-i.i c.loop-i.w 6 (omega arith) c.loop-i.invariant.1)

pub overflow_add-w : goal.overflow_add-w
overflow_add-w c =
    omega (arith, c.type_inv.bytes (c.loop-i.i - 1), worth-lt c.args.bytes.now c.loop-i.i c.loop-i.w 6 (omega arith) c.loop-i.invariant.1)

pub loop-i-preserved : goal.loop-i-preserved
loop-i-preserved c =
    let s = c.args.bytes.now in
    let l = c.loop-i in
    let i : ℕ = l.i - 1 in
    let e : l.i ≡ suc i = omega arith in
    let b : get_or s i 0 < 256 = omega (arith, c.type_inv.bytes i) in
    (omega arith, worth-more s i l.w (omega arith) b (subst (λ j. Worth s j l.w) e l.invariant.1))

pub returns : goal.returns
unfolding Worth
returns c =
    let s = c.args.bytes.now in
    let start : ℕ = c.args.start in
    let e : c.loop-i.i ≡ start = omega arith in
    let w : Worth s start c.loop-i.w = subst (λ j. Worth s j c.loop-i.w) e c.loop-i.invariant.1 in
    (w.0, worth-lt s start c.loop-i.w 7 (omega arith) w)
