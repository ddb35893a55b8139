-- `merge_joined::pass_near` meets its contract: what A has from the cursor on decides.
use mathlib.Core.Path.{sym, ap, subst, ◌∙◌}
use mathlib.Core.Bool.{false≢true}
use native.Mathlib.Omega.{arith}
use Rattle.std.specs.Prelude.{Some}
use Rattle.binary_references.specs.Next.{sq_from, told_reference}
use Rattle.merge_references.proofs.Names.{same_from_lem, other_from}
use Rattle.merge_joined.specs.Passing.{Passed}
use Rattle.merge_joined.proofs.Laws.{passed-known, passed-other}
use Rattle.merge_joined.proofs.pass_near.Goals as goal

pub returns-in-Settled : goal.returns-in-Settled
returns-in-Settled c = record {
  passed = c.in-Settled.ensures.passed _ c.requires.reached;
  ahead = c.in-Settled.ensures.ahead;
  behind = c.requires.from;
}

pub returns-then-look : goal.returns-then-look
returns-then-look c =
    let a = c.args in
    let x = c.in-Open.ensures in
    let q = c.in-Open.q in
    let rs = sq_from a.of.a a.a.now 0 in record {
      passed = subst (Passed rs a.of.b a.b.now a.of.merged a.m.now a.left) (sym c.pass_known.ensures)
          (passed-known rs a.of.b a.b.now a.of.merged a.m.now a.left c.requires.reached (told_reference a.b.now q) q.next x.first x.within x.onward c.requires.readable.apart-a
          (same_from_lem a.of.a a.a.now a.cursor c.requires.from c.requires.readable.apart-a (told_reference a.b.now q) (sym c.in_ok-look-in-Open.ensures.met ∙ ap Some c.if-look.true)));
      ahead = λ d. omega (arith, x.onward, ap (λ z. z.at) c.pass_known.ensures);
      behind = c.in_ok-look-in-Open.ensures.behind;
    }

pub returns-else-look : goal.returns-else-look
returns-else-look c =
    let a = c.args in
    let x = c.in-Open.ensures in
    let q = c.in-Open.q in
    let rs = sq_from a.of.a a.a.now 0 in record {
      passed = subst (Passed rs a.of.b a.b.now a.of.merged a.m.now a.left) (sym c.pass_bad.ensures)
          (passed-other rs a.of.b a.b.now a.of.merged a.m.now a.left c.requires.reached (told_reference a.b.now q) q.next x.first x.within x.onward c.requires.readable.apart-a
          (other_from a.of.a a.a.now a.cursor c.requires.from c.requires.readable.apart-a (told_reference a.b.now q) (sym c.in_ok-look-in-Open.ensures.met ∙ ap Some c.if-look.false)));
      ahead = λ d. absurd (false≢true (sym (ap (λ z. z.more) c.pass_bad.ensures) ∙ d));
      behind = c.requires.from;
    }
