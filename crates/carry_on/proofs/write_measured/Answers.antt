-- `carry_on::write_measured` meets its contract: 24 for a name that can't be written, then what was measured is written.
use mathlib.Core.Path.{sym, ◌∙◌}
use lib.ListN.{length}
use Rattle.format.specs.Tidy.{tidy}
use Rattle.tidy_text.specs.Sizes.{sizes_of}
use Rattle.tidy_sizes.proofs.Plan.{write-bad}
use Rattle.format.specs.Carrying.{kept_of, carried_lines, unwritable_line, carrying}
use Rattle.carry_passes.specs.From.{kept_from, skipped_from, unwritable_from}
use Rattle.carry_passes.proofs.Split.{first-names}
use Rattle.carry_passes.proofs.MeasuredSizes.{measured-bad, measured-is}
use Rattle.carry_on.proofs.AnswerCases.{told-refused, refused_all}
use Rattle.carry_on.proofs.write_measured.Goals as goal

pub write_kept-requires : goal.write_kept-requires
write_kept-requires c =
    let t = c.args.text.now in
    let b = c.args.b in
    let f = c.requires.first in
    let is = measured-is (unwritable_from t b) (sizes_of (kept_from t b)) (length (skipped_from t b)) c.in-Ok.kept (sym c.requires.measured_value ∙ c.in-Ok.is) in record {
      text_len_bound = c.requires.text_len_bound;
      first = f;
      in_bounds = c.requires.in_bounds;
      text_value = first-names t b f ∙ is.0;
      sizes_value = sym is.1.0;
      skipped_value = sym is.1.1;
    }

pub returns-in-Err : goal.returns-in-Err
returns-in-Err c =
    let a = c.args in
    let t = c.args.text.now in
    let l = c.in-Err.line in
    let bad = measured-bad (unwritable_from t a.b) (sizes_of (kept_from t a.b)) (length (skipped_from t a.b)) l (sym c.requires.measured_value ∙ c.in-Err.is) in
    let told = refused_all (carrying t (length a.out.now) (length a.table.now)) a.out.now a.table.now (record { number = 24; line = l })
    (told-refused t (length a.out.now) (length a.table.now) c.requires.text_len_bound 24 l.0
    (write-bad (length a.out.now) (unwritable_line 0 (carried_lines t)) (tidy (kept_of (carried_lines t))) l.0 (first-names t a.b c.requires.first ∙ bad))) in
    record { answer = told.0; wrote = told.1.0; listed = told.1.1 }
