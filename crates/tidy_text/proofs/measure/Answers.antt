-- `tidy_text::measure` meets its contract: without marks all records stay.
use mathlib.Core.Path.{ap, ◌∙◌}
use Rattle.format.specs.Tidy.{unwritable}
use Rattle.accepted.specs.Read.{records_of}
use Rattle.tidy_text.specs.Accepted.{measured_of}
use Rattle.tidy_text.specs.Sizes.{sizes_of}
use Rattle.tidy_text.proofs.Sifting.{sifted-unmarked}
use Rattle.tidy_text.proofs.measure.Goals as goal

pub returns : goal.returns
returns c =
    let rs = records_of c.args.text.now in record {
      is = c.measure_marked.ensures.is ∙ ap (λ qs. measured_of (unwritable 0 rs) (sizes_of qs)) (sifted-unmarked rs);
      refusal = c.measure_marked.ensures.refusal;
    }
