-- `find::find` meets its contract: reading, 21, then 25 for a kind without keys and where the search finds nothing.
use mathlib.Core.Path.{sym, ap, ◌∙◌}
use native.Mathlib.Omega.{arith}
use Rattle.std.specs.Prelude.{ok_or}
use Rattle.std.proofs.lemmas.Result.{err_from_is_err_and}
use Rattle.read.proofs.Fresh.{Current, refused-by, fresh-by}
use Rattle.calls.proofs.OwnCatalogue.{missing}
use Rattle.find.specs.Answers.{find_answer_of}
use Rattle.find.proofs.OwnCatalogue.{find-refused, find-other, keys-told, find-served}
use Rattle.find.proofs.find.Goals as goal
use Rattle.find.proofs.find.Goals.{In_ok-check}

-- the catalogue is the text's own
own : (z : In_ok-check) → Current z.args.text.now z.args.catalogue.now
own z = fresh-by z.args.text.now z.args.catalogue.now z.check.ensures z.in_ok-check.was

pub returns-in_err-check : goal.returns-in_err-check
unfolding find_answer_of
returns-in_err-check c =
    let a = c.args in
    let r = c.in_err-check.field-0.0 in
    let p = err_from_is_err_and c.from_residual.result c.from_residual.ensures.1 in
    rw (p.1, p.2) (sym (ap find_answer_of (find-refused a.text.now a.catalogue.now r.number r.line.0 (refused-by a.text.now a.catalogue.now c.check.ensures r c.in_err-check.was) a.kind a.key.now)))

pub returns-then-kind-lt-REFERENCE_SEQUENCE : goal.returns-then-kind-lt-REFERENCE_SEQUENCE
unfolding find_answer_of
returns-then-kind-lt-REFERENCE_SEQUENCE c =
    let a = c.args in
    rw c.of_text.ensures (sym (ap find_answer_of (find-other a.text.now a.catalogue.now (own (goal.at.returns-then-kind-lt-REFERENCE_SEQUENCE c).In_ok-check) a.kind a.key.now (λ lo hi. omega (arith, lo, c.if-kind-lt-REFERENCE_SEQUENCE.true)))))

pub returns-then-kind-gt-PROGRAM : goal.returns-then-kind-gt-PROGRAM
unfolding find_answer_of
returns-then-kind-gt-PROGRAM c =
    let a = c.args in
    rw c.of_text-then-kind-gt-PROGRAM.ensures (sym (ap find_answer_of (find-other a.text.now a.catalogue.now (own (goal.at.returns-then-kind-gt-PROGRAM c).In_ok-check) a.kind a.key.now (λ lo hi. omega (arith, hi, c.if-kind-gt-PROGRAM.true)))))

pub search-requires : goal.search-requires
search-requires c =
    let a = c.args in
    keys-told a.text.now a.catalogue.now (own (goal.at.search-requires c).In_ok-check) a.kind a.key.now c.if-kind-lt-REFERENCE_SEQUENCE.false c.if-kind-gt-PROGRAM.false

pub returns : goal.returns
returns c =
    let a = c.args in
    c.ok_or.ensures.value ∙ rw c.of_text-2.ensures (ap (λ o. ok_or o missing) c.search.ensures)
    ∙ find-served a.text.now a.catalogue.now (own (goal.at.returns c).In_ok-check) a.kind a.key.now c.if-kind-lt-REFERENCE_SEQUENCE.false c.if-kind-gt-PROGRAM.false
