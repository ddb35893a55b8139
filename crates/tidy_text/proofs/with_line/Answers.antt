-- `tidy_text::with_line` meets its contract.
use mathlib.Core.Path.{refl, ◌∙◌}
use Rattle.tidy_text.proofs.Sifting.{grown-stays}
use Rattle.tidy_text.proofs.with_line.Goals as goal

pub with_line_if-requires : goal.with_line_if-requires
with_line_if-requires c = record {
  src_value = c.requires.src_value;
  src_bound = c.requires.src_bound;
  src_bound_2 = λ e. c.requires.src_bound_2;
}

pub returns : goal.returns
returns c = c.with_line_if.ensures ∙ grown-stays _ _ _ _ refl
