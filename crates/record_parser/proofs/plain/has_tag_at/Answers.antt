-- `record_parser::plain::has_tag_at` meets its contract: each of the four bytes was looked at.
use mathlib.Core.Bool.{false≢true}
use native.Mathlib.Omega.{arith}
use borrow.Author.Tests.{eqb-true}
use Rattle.record_parser.proofs.plain.has_tag_at.Goals as goal

pub returns-then-src-at-lt4 : goal.returns-then-src-at-lt4
returns-then-src-at-lt4 c e = absurd (false≢true e)

pub returns-then-src-at-ne9 : goal.returns-then-src-at-ne9
returns-then-src-at-ne9 c e = absurd (false≢true e)

pub returns-then-src-at : goal.returns-then-src-at
returns-then-src-at c e = absurd (false≢true e)

pub returns-then-src-at-ne78 : goal.returns-then-src-at-ne78
returns-then-src-at-ne78 c e = absurd (false≢true e)

pub returns : goal.returns
returns c e =
    record {
      room = omega (arith, c.if-src-at-lt4.false);
      tab = c.if-src-at-ne9.false;
      first = c.if-src-at.false;
      second = c.if-src-at-ne78.false;
      colon = eqb-true _ _ e;
    }
