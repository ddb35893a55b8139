-- `merge_joined::is_joined` meets its contract: A's own references, and then what is left of B and of the merged list.
use Prim.Native.Nat.{ℕ}
use mathlib.Core.Path.{◌≡◌, refl, sym, ap, ◌∙◌}
use mathlib.Core.Bool.{Bool, true, false, false≢true, not, ◌&&◌}
use mathlib.Core.List.{List, []}
use Rattle.std.specs.Prelude.{Option, None, Some, is_some}
use Rattle.format.specs.References.{same_references}
use Rattle.binary_references.specs.declared.NextReference.{NextReference}
use native.Mathlib.Omega.{arith}
use lib.ListN.{length}
use Rattle.binary_references.specs.Next.{sq_from, told_list}
use Rattle.binary_references.proofs.Next.{told-one, told_none}
use Rattle.merge_references.specs.Joining.{left_of, after_front}
use Rattle.merge_references.proofs.Lists.{joined-left, left_end, none_left, some_left}
use Rattle.merge_joined.specs.declared.Rules.{Rules}
use Rattle.merge_joined.specs.declared.Left.{Left}
use Rattle.merge_joined.specs.Passing.{Passed}
use Rattle.merge_joined.proofs.Laws.{behind-front, found-ahead, turn-less}
use Rattle.merge_joined.proofs.is_joined.Invariants.{Leads}
use Rattle.merge_joined.proofs.is_joined.Goals as goal
use Rattle.merge_joined.proofs.is_joined.Goals.{After-pass_ordered-left}

pub pass_front-requires : goal.pass_front-requires
pass_front-requires c = record {
  a_len_bound = c.requires.small-a;
  m_len_bound = c.requires.small-m;
}

pub returns-in_default : goal.returns-in_default
unfolding after_front
returns-in_default c =
    let a = c.args in
    sym (joined-left (sq_from a.of.a a.a.now 0) (sq_from a.of.b a.b.now 0) (sq_from a.of.merged a.m.now 0) (sq_from a.of.merged a.m.now 0) false c.in_default.ensures.rest)

pub next_reference-ahead-requires : goal.next_reference-ahead-requires
next_reference-ahead-requires c = record {
  text_len_bound = c.requires.small-m;
  start_in_bounds = c.in-Some.ensures.within;
}

pub pass_ordered-left-requires : goal.pass_ordered-left-requires
unfolding after_front
pass_ordered-left-requires c =
    let a = c.args in
    let front = c.in-Some.front in record {
      readable = c.requires;
      reached = record {
        within = omega arith;
        merged = found-ahead a.of.merged a.m.now front c.next_reference-ahead.result c.next_reference-ahead.ensures.place;
        behind = behind-front (sq_from a.of.a a.a.now 0) a.of.merged a.m.now front c.next_reference-ahead.result c.next_reference-ahead.ensures.list c.in-Some.ensures.rest;
      };
      good_value = (refl, refl);
    }

-- after the ordered references what is left decides
ordered : (c : After-pass_ordered-left) → (let a = c.args in Leads a.a.now a.b.now a.m.now a.of c.pass_ordered-left.result)
unfolding after_front
ordered c =
    let a = c.args in
    let p = c.pass_ordered-left.ensures in (
      joined-left (sq_from a.of.a a.a.now 0) (sq_from a.of.b a.b.now 0) (sq_from a.of.merged a.m.now 0) (sq_from a.of.merged a.m.now c.in-Some.front) true c.in-Some.ensures.rest
          ∙ ap (left_of (sq_from a.of.a a.a.now 0) (sq_from a.of.b a.b.now 0)) c.next_reference-ahead.ensures.list
          ∙ p.leaves,
      p.reached,
      p.well,
      p.spent,
    )

-- and after a block
blocked : (a b m : List ℕ) (of : Rules) (left x : Left) → Leads a b m of left → left.more ≡ true → Passed (sq_from of.a a 0) of.b b of.merged m left x → Leads a b m of x
blocked a b m of left x h t p = (
  h.0 ∙ ap (λ g. g && left_of (sq_from of.a a 0) (sq_from of.b b left.at) (told_list of.merged m left.ahead)) (h.2 t) ∙ p.leaves,
  p.reached,
  p.well,
  p.spent,
)

pub loop-left-init : goal.loop-left-init
loop-left-init c = ordered (goal.at.loop-left-init c).After-pass_ordered-left

pub pass_block-left-requires : goal.pass_block-left-requires
pass_block-left-requires c = record {
  readable = c.requires;
  reached = c.loop-left.invariant.1;
  good_value = (c.loop-left.invariant.2 c.loop-left-test.true, c.loop-left-test.true);
}

pub loop-left-smaller : goal.loop-left-smaller
loop-left-smaller c =
    let a = c.args in
    let p = c.pass_block-left.ensures in
    turn-less (length a.b.now) c.loop-left.left c.pass_block-left.result c.loop-left-test.true p.passed.onward p.ahead p.passed.reached.within

pub loop-left-preserved : goal.loop-left-preserved
loop-left-preserved c =
    let a = c.args in
    blocked a.a.now a.b.now a.m.now a.of c.loop-left.left c.pass_block-left.result c.loop-left.invariant c.loop-left-test.true c.pass_block-left.ensures.passed

-- there is none ahead where nothing is left of the merged list
spent : (strict : Bool) (t : List ℕ) (y : Option NextReference) (b : Bool) → is_some y ≡ not b → same_references (told_list strict t y) [] ≡ b
spent strict t None true h = none_left _ (told_none strict t)
spent strict t None false h = absurd (false≢true h)
spent strict t (Some n) true h = absurd (false≢true (sym h))
spent strict t (Some n) false h = some_left _ _ _ (told-one strict t n)

pub returns-then-left : goal.returns-then-left
returns-then-left c =
    let a = c.args in
    let y = c.loop-left.left.ahead in
    let rest = sq_from a.of.b a.b.now c.loop-left.left.at in
    sym
    (c.loop-left.invariant.0
    ∙ ap (λ t. t && left_of (sq_from a.of.a a.a.now 0) rest (told_list a.of.merged a.m.now y)) c.if-left.true
    ∙ left_end (sq_from a.of.a a.a.now 0) rest (told_list a.of.merged a.m.now y) (c.loop-left.invariant.3 c.loop-left-test.false c.if-left.true)
    ∙ spent a.of.merged a.m.now y c.is_none.result c.is_none.ensures)

pub returns-else-left : goal.returns-else-left
returns-else-left c =
    let a = c.args in
    c.if-left.false
    ∙ sym
    (c.loop-left.invariant.0
    ∙ ap (λ t. t && left_of (sq_from a.of.a a.a.now 0) (sq_from a.of.b a.b.now c.loop-left.left.at) (told_list a.of.merged a.m.now c.loop-left.left.ahead)) c.if-left.false)
