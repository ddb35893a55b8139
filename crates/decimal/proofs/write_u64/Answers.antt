-- `decimal::write_u64` meets its contract: what the whole leaves is what the digits still to come leave in what is there now. Assumes nothing.
use Prim.Native.Nat.{ℕ}
use mathlib.Core.Path.{◌≡◌, sym, ap, ◌∙◌}
use mathlib.Core.List.{[]}
use native.Mathlib.Omega.{arith}
use lib.ListN.{length}
use Rattle.format.specs.Decimal.{written, written_f}
use Rattle.byte_slices.specs.Over.{over}
use Rattle.decimal.proofs.Written.{written-turns}
use Rattle.decimal.proofs.OverBack.{digit-back, digits-end}
use Rattle.decimal.proofs.write_u64.Goals as goal

pub len_u64-n-requires : goal.len_u64-n-requires
len_u64-n-requires c = tt

all-turns : (v n : ℕ) → n ≡ length (written v) → written_f n v [] ≡ written v
unfolding written
all-turns v n e = ap (λ k. written_f k v []) e ∙ written-turns 20 v

pub loop-i-init : goal.loop-i-init
loop-i-init c =
    let a = c.args in
    let w : written_f c.len_u64-n.result a.v [] ≡ written a.v = all-turns a.v c.len_u64-n.result c.len_u64-n.ensures in
    (ap length w ∙ sym c.len_u64-n.ensures, ap (over a.out.now a.at) (sym w))

pub loop-i-preserved : goal.loop-i-preserved
loop-i-preserved c =
    let l = c.loop-i in
    let t = digit-back l.out c.args.at l.i l.rest (omega arith) (omega arith) l.invariant.0 in
    (omega (arith, t.0), l.invariant.1 ∙ t.1)

pub returns-clause-wrote : goal.returns-clause-wrote
returns-clause-wrote c =
    let l = c.loop-i in
    sym (l.invariant.1 ∙ digits-end l.out c.args.at l.i l.rest (omega arith))
