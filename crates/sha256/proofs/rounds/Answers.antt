-- `sha256::rounds` meets its contract: the rounds that are left.
use Prim.Native.Nat.{ℕ, ◌+◌, ◌*◌}
use mathlib.Core.Path.{◌≡◌, subst}
use lib.ListN.{length}
use native.Mathlib.Omega.{arith}
use Rattle.format.specs.Sha256.{K}
use Rattle.sha256.specs.Parts.{value_of}
use Rattle.sha256.proofs.RoundByRound.{Left, left-none, left-four, left-all}
use Rattle.sha256.proofs.rounds.Goals as goal

pub loop-step-init : goal.loop-step-init
loop-step-init c = left-none _ _

pub loop-step-preserved : goal.loop-step-preserved
unfolding K
loop-step-preserved c =
    let l = c.loop-step in
    let w = c.args.w.now in
    let long : length w ≡ 64 = c.requires in
    let t : ℕ = 4 * l.step in
    let z : t + 4 ≡ 4 * (l.step + 1) = omega arith in
    subst (Left w (value_of c.args.start) (value_of c.round-s-in-loop-step-3.result)) z
    (left-four w (value_of c.args.start) (value_of l.s) (value_of c.round-s.result) (value_of c.round-s-in-loop-step.result) (value_of c.round-s-in-loop-step-2.result) (value_of c.round-s-in-loop-step-3.result) t (omega arith) long c.round-s.ensures c.round-s-in-loop-step.ensures c.round-s-in-loop-step-2.ensures c.round-s-in-loop-step-3.ensures l.invariant)

pub returns : goal.returns
returns c =
    let l = c.loop-step in
    left-all c.args.w.now (value_of c.args.start) (value_of l.s) (4 * l.step) (omega arith) l.invariant
