-- `replay_cases::decode` meets its contract: after i steps the first i bytes are pasted. Assumes nothing.
use Prim.Native.Nat.{ℕ, ◌+◌, ◌*◌, ◌≤◌, ◌<◌, ◌/◌}
use mathlib.Core.Path.{◌≡◌, sym, ap, ap₂, ◌∙◌}
use native.Mathlib.Omega.{arith}
use lib.ListN.{length, set, take, length-set}
use lib.Seq.{paste}
use Rattle.byte_slices.specs.Over.{over}
use Rattle.replay_cases.specs.Cases.{decoded, decoded_count}
use Rattle.replay_cases.proofs.Digits.{decoded-at, decoded-turn, decoded-over, decoded-room}
use Rattle.replay_cases.proofs.decode.Goals as goal

pub loop-i-preserved : goal.loop-i-preserved
loop-i-preserved c =
    let hex = c.args.hex.now in
    let text = c.args.text.now in
    let i : ℕ = c.loop-i.i in
    let half : c.least-n.result ≤ length hex / 2 = c.least-n.ensures.0 in
    let two : 2 * i + 1 < length hex = omega (arith, half) in
    let byte = ap₂ (λ d e. d * 16 + e) c.digit.ensures.1 c.digit-in-loop-i.ensures.1 ∙ sym (decoded-at hex i two) in
    let pasted =
    ap₂ (λ t b. set t i b) c.loop-i.invariant.1 byte
    ∙ decoded-turn text hex i (omega (arith, c.least-n.ensures.1)) two in
    (simp length-set (omega arith), pasted)

pub returns-clause-count : goal.returns-clause-count
unfolding decoded_count
returns-clause-count c = c.least-n.ensures.2

pub returns-clause-wrote : goal.returns-clause-wrote
unfolding decoded_count
returns-clause-wrote c =
    let hex = c.args.hex.now in
    let text = c.args.text.now in
    let n = c.least-n.result in
    let half : n ≤ length hex / 2 = c.least-n.ensures.0 in
    let done : c.loop-i.i ≡ n = omega arith in
    c.loop-i.invariant.1 ∙ ap (paste text 0 (decoded hex)) done ∙ decoded-over text hex n (decoded-room hex n half)
    ∙ ap (λ m. over text 0 (take m (decoded hex))) c.least-n.ensures.2
