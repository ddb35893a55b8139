-- `merge_joined::pass_ordered` meets its contract: one step after another.
use lib.ListN.{length}
use Rattle.binary_references.specs.Next.{sq_from}
use Rattle.merge_references.proofs.Names.{from_start}
use Rattle.merge_joined.proofs.Laws.{passed_none, passed_then, turn-less}
use Rattle.merge_joined.proofs.pass_ordered.Goals as goal

pub loop-left-init : goal.loop-left-init
loop-left-init c =
    let a = c.args in
    (passed_none (sq_from a.of.a a.a.now 0) a.of.b a.b.now a.of.merged a.m.now a.from c.requires.good_value.0 c.requires.good_value.1 c.requires.reached, from_start a.of.a a.a.now)

pub pass_near-requires : goal.pass_near-requires
pass_near-requires c = record {
  readable = c.requires.readable;
  reached = c.loop-left.invariant.0.reached;
  from = c.loop-left.invariant.1;
}

pub returns-in_default : goal.returns-in_default
returns-in_default c = c.loop-left.invariant.0

pub loop-left-smaller : goal.loop-left-smaller
loop-left-smaller c =
    let a = c.args in
    let p = c.in-Some.ensures in
    turn-less (length a.b.now) c.loop-left.left c.in-Some.near.left c.loop-left-test.true p.passed.onward p.ahead p.passed.reached.within

pub loop-left-preserved : goal.loop-left-preserved
loop-left-preserved c =
    let a = c.args in
    (passed_then (sq_from a.of.a a.a.now 0) a.of.b a.b.now a.of.merged a.m.now a.from c.loop-left.left c.in-Some.near.left c.loop-left.invariant.0 c.loop-left-test.true c.in-Some.ensures.passed, c.in-Some.ensures.behind)

pub returns : goal.returns
returns c = c.loop-left.invariant.0
