-- `merge_joined::pass_slots` meets its contract: one step after another, and the first goes on.
use mathlib.Core.Path.{sym, ◌∙◌}
use native.Mathlib.Omega.{arith}
use Rattle.binary_references.specs.Next.{sq_from}
use mathlib.Core.Bool.{false≢true}
use Rattle.merge_joined.proofs.Laws.{passed_none, passed_then}
use Rattle.merge_joined.proofs.pass_slots.Goals as goal

pub overflow_mul-room : goal.overflow_mul-room
overflow_mul-room c = omega arith

pub loop-left-init : goal.loop-left-init
loop-left-init c =
    let a = c.args in
    (passed_none (sq_from a.of.a a.a.now 0) a.of.b a.b.now a.of.merged a.m.now a.from c.requires.good_value.0 c.requires.good_value.1 c.requires.reached, λ r. absurd (omega (arith, r)))

pub returns-then-room-eq0 : goal.returns-then-room-eq0
returns-then-room-eq0 c = record {
  passed = c.loop-left.invariant.0;
  ahead = c.loop-left.invariant.1 (omega (arith, c.if-room-eq0.true, c.requires.in_bounds.0));
}

pub pass_marked-left-requires : goal.pass_marked-left-requires
pass_marked-left-requires c = record {
  readable = c.requires.readable;
  reached = c.loop-left.invariant.0.reached;
  area_nonzero = (omega (arith, c.requires.in_bounds.0), c.requires.in_bounds.1);
}

pub overflow_sub-room : goal.overflow_sub-room
overflow_sub-room c = omega (arith, c.if-room-eq0.false)

pub loop-left-smaller : goal.loop-left-smaller
loop-left-smaller c = omega (arith, c.if-room-eq0.false)

pub loop-left-preserved : goal.loop-left-preserved
loop-left-preserved c =
    let a = c.args in
    let p = c.loop-left.invariant.0 in
    (passed_then (sq_from a.of.a a.a.now 0) a.of.b a.b.now a.of.merged a.m.now a.from c.loop-left.left c.pass_marked-left.result p c.loop-left-test.true c.pass_marked-left.ensures.passed, λ r m. omega (arith, p.onward, c.pass_marked-left.ensures.ahead m))

pub returns : goal.returns
returns c = record {
  passed = c.loop-left.invariant.0;
  ahead = λ m. absurd (false≢true (sym c.loop-left-test.false ∙ m));
}
