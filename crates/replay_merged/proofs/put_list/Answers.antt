-- `replay_merged::put_list` meets its contract.
use Prim.Native.Nat.{◌≤◌}
use mathlib.Core.Path.{refl, sym, ◌∙◌}
use native.Mathlib.Omega.{arith}
use lib.ListN.{length, length-set, length-take}
use Rattle.replay_merged.proofs.put_list.Goals as goal

pub slice_bounds-decode-end : goal.slice_bounds-decode-end
slice_bounds-decode-end c = c.large_buffer-bytes.ensures

pub loop-i-init : goal.loop-i-init
loop-i-init c = refl

pub slice_bounds-ordinal-end : goal.slice_bounds-ordinal-end
slice_bounds-ordinal-end c = c.large_buffer-bytes.ensures ∙ sym c.decode-n.ensures.within.2

pub overflow_mul-i : goal.overflow_mul-i
overflow_mul-i c = omega (arith, c.least-count.ensures.0, c.decode-n.ensures.within.0)

pub ordinal-requires : goal.ordinal-requires
ordinal-requires c =
    omega (arith, c.least-count.ensures.0, c.decode-n.ensures.within.0, c.loop-i-test.true)

pub offset_bounds-list-i : goal.offset_bounds-list-i
offset_bounds-list-i c = omega arith

pub bounds-list-i : goal.bounds-list-i
bounds-list-i c = omega (arith, c.least-count.ensures.1, c.loop-i.invariant, c.loop-i-test.true)

pub loop-i-preserved : goal.loop-i-preserved
loop-i-preserved c = length-set c.loop-i.list _ _ ∙ c.loop-i.invariant

pub returns : goal.returns
returns c =
    let n : c.least-count.result ≤ length c.loop-i.list = omega (arith, c.least-count.ensures.1, c.loop-i.invariant) in
    (n, omega (arith, length-take c.least-count.result c.loop-i.list))
