-- `merge_joined::pass_marked` meets its contract: a mark decides, or all of A.
use mathlib.Core.Path.{sym, ap, subst, ◌∙◌}
use mathlib.Core.Bool.{false≢true}
use native.Mathlib.Omega.{arith}
use Rattle.std.specs.Prelude.{Some}
use Rattle.binary_references.specs.Next.{sq_from, told_reference}
use Rattle.merge_references.proofs.Names.{from_start}
use Rattle.merge_joined.specs.Passing.{Passed}
use Rattle.merge_joined.proofs.Laws.{passed-known, passed-other, passed-lost}
use Rattle.merge_joined.proofs.pass_marked.Goals as goal

pub returns-in-Settled : goal.returns-in-Settled
returns-in-Settled c = record {
  passed = c.in-Settled.ensures.passed _ c.requires.reached;
  ahead = c.in-Settled.ensures.ahead;
}

pub returns-then-is_marked : goal.returns-then-is_marked
returns-then-is_marked c =
    let a = c.args in
    let x = c.in-Open.ensures in
    let q = c.in-Open.q in
    let rs = sq_from a.of.a a.a.now 0 in record {
      passed = subst (Passed rs a.of.b a.b.now a.of.merged a.m.now a.left) (sym c.pass_known.ensures)
          (passed-known rs a.of.b a.b.now a.of.merged a.m.now a.left c.requires.reached (told_reference a.b.now q) q.next x.first x.within x.onward c.requires.readable.apart-a
          (c.is_marked.ensures c.if-is_marked.true a.of.b rs c.requires.area_nonzero.1 (told_reference a.b.now q) _ x.first));
      ahead = λ d. omega (arith, x.onward, ap (λ z. z.at) c.pass_known.ensures);
    }

pub look_from-requires : goal.look_from-requires
look_from-requires c = record {
  a_len_bound = c.requires.readable.small-a;
  from = from_start c.args.of.a c.args.a.now;
  len_in_bounds = c.in-Open.ensures.name;
}

pub returns-then-look : goal.returns-then-look
returns-then-look c =
    let a = c.args in
    let x = c.in-Open.ensures in
    let q = c.in-Open.q in
    let rs = sq_from a.of.a a.a.now 0 in record {
      passed = subst (Passed rs a.of.b a.b.now a.of.merged a.m.now a.left) (sym c.pass_known-then-look.ensures)
          (passed-known rs a.of.b a.b.now a.of.merged a.m.now a.left c.requires.reached (told_reference a.b.now q) q.next x.first x.within x.onward c.requires.readable.apart-a
          (sym c.in-Some.ensures.met ∙ ap Some c.if-look.true));
      ahead = λ d. omega (arith, x.onward, ap (λ z. z.at) c.pass_known-then-look.ensures);
    }

pub returns-else-look : goal.returns-else-look
returns-else-look c =
    let a = c.args in
    let x = c.in-Open.ensures in
    let q = c.in-Open.q in
    let rs = sq_from a.of.a a.a.now 0 in record {
      passed = subst (Passed rs a.of.b a.b.now a.of.merged a.m.now a.left) (sym c.pass_bad.ensures)
          (passed-other rs a.of.b a.b.now a.of.merged a.m.now a.left c.requires.reached (told_reference a.b.now q) q.next x.first x.within x.onward c.requires.readable.apart-a
          (sym c.in-Some.ensures.met ∙ ap Some c.if-look.false));
      ahead = λ d. absurd (false≢true (sym (ap (λ z. z.more) c.pass_bad.ensures) ∙ d));
    }

pub returns-in-None : goal.returns-in-None
returns-in-None c =
    let a = c.args in
    let x = c.in-Open.ensures in
    let q = c.in-Open.q in
    let rs = sq_from a.of.a a.a.now 0 in record {
      passed = subst (Passed rs a.of.b a.b.now a.of.merged a.m.now a.left) (sym c.pass_bad-in-None.ensures)
          (passed-lost rs a.of.b a.b.now a.of.merged a.m.now a.left c.requires.reached (told_reference a.b.now q) q.next x.first x.within x.onward c.requires.readable.apart-a
          x.gone (sym c.in-None.ensures.met));
      ahead = λ d. absurd (false≢true (sym (ap (λ z. z.more) c.pass_bad-in-None.ensures) ∙ d));
    }
