-- `tidy_text::with_line_if` meets its contract: the record is measured, and its size goes to its kind.
use mathlib.Core.Path.{◌≡◌, sym, ap, ◌∙◌}
use native.Mathlib.Omega.{arith}
use lib.ListN.{get_or}
use Rattle.format.specs.Records.{Line, line}
use Rattle.format.specs.declared.Kind.{Kind}
use Rattle.tidy_line.specs.Line.{line_size}
use Rattle.std.specs.Prelude.{Some}
use Rattle.tidy_sizes.specs.Numbers.{get, plus}
use Rattle.accepted_line.specs.Found.{kind_by}
use Rattle.tidy_text.proofs.OfKind.{three}
use Rattle.tidy_text.proofs.Names.{size_is, grown-bad, grown-is}
use borrow.Author.Tests.{not-true, not-false}
use Rattle.tidy_text.proofs.Sifting.{grown-stays, grown-goes}
use Rattle.tidy_text.proofs.with_line_if.Goals as goal
use Rattle.tidy_text.proofs.with_line_if.Goals.{In_ok-size, Start}

-- the line, and the kind by its second byte
abbrev line_of : Start → Line
line_of s = line s.args.strict (record { at = s.args.at; bytes = s.args.src.now })

abbrev kind_at : Start → Kind
kind_at s = kind_by (get_or s.args.src.now 1 0)

-- its size, if it can be written
told : (z : In_ok-size) → line_size (line_of (goal.at.In_ok-size z).Start) ≡ Some z.in_ok-size.size
told z = sym z.line_size.ensures ∙ z.in_ok-size.was

pub returns-then-not-stays : goal.returns-then-not-stays
returns-then-not-stays c = let a = c.args in sym (grown-goes _ _ _ _ (not-true a.stays c.if-not-stays.true-raw))

pub returns-in_err-size : goal.returns-in_err-size
returns-in_err-size c =
    rw c.from_residual.ensures
    (sym (grown-stays _ _ _ _ (not-false c.args.stays c.if-not-stays.false-raw) ∙ grown-bad (kind_at (goal.at.returns-in_err-size c).Start) (line_of (goal.at.returns-in_err-size c).Start) c.args.sizes (sym c.line_size.ensures ∙ c.in_err-size.was)))

pub kind_of-requires : goal.kind_of-requires
kind_of-requires c = three c.args.strict c.args.at c.args.src.now c.requires.src_value

pub plus-requires : goal.plus-requires
plus-requires c =
    omega (arith, c.requires.src_bound_2 (not-false c.args.stays c.if-not-stays.false-raw), (size_is (line_of (goal.at.plus-requires c).Start) c.in_ok-size.size (told (goal.at.plus-requires c).In_ok-size)).1, ap (λ k. get k c.args.sizes) c.kind_of.ensures)

pub returns : goal.returns
returns c =
    ap Some (c.plus.ensures ∙ ap (λ k. plus k c.in_ok-size.size c.args.sizes) c.kind_of.ensures)
    ∙ sym (grown-stays _ _ _ _ (not-false c.args.stays c.if-not-stays.false-raw) ∙ grown-is (kind_at (goal.at.returns c).Start) (line_of (goal.at.returns c).Start) c.args.sizes c.in_ok-size.size (told (goal.at.returns c).In_ok-size))
