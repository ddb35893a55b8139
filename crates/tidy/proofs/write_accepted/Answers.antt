-- `tidy::write_accepted` meets its contract: without marks all records stay.
use mathlib.Core.Path.{ap, ◌∙◌}
use lib.ListN.{length}
use Rattle.format.specs.Tidy.{tidy, unwritable}
use Rattle.format.specs.Calls.{writing}
use Rattle.accepted.specs.Read.{records_of}
use Rattle.read.specs.Answers.{answer_of, output_of}
use Rattle.tidy_text.proofs.Sifting.{sifted-unmarked}
use Rattle.tidy.proofs.write_accepted.Goals as goal

pub returns : goal.returns
returns c =
    let a = c.args in
    let rs = records_of a.text.now in
    let e = ap (λ qs. writing (length a.out.now) (unwritable 0 rs) (tidy qs)) (sifted-unmarked rs) in record {
      answer = c.write_marked.ensures.answer ∙ ap answer_of e;
      wrote = c.write_marked.ensures.wrote ∙ ap (λ x. output_of x a.out.now) e;
    }
