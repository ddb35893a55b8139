-- `tidy_text::put_at_kind` meets its contract.
use mathlib.Core.Path.{refl, ◌∙◌}
use Rattle.tidy_text.proofs.Sifting.{places-stay, written-stays}
use Rattle.tidy_text.proofs.put_at_kind.Goals as goal

pub put_at_kind_if-requires : goal.put_at_kind_if-requires
put_at_kind_if-requires c = record {
  src_value = c.requires.src_value;
  src_bound = c.requires.src_bound;
  src_in_bounds = λ e. c.requires.src_in_bounds;
}

pub returns : goal.returns
returns c = record {
  next = c.put_at_kind_if.ensures.next ∙ places-stay _ _ _ _ refl;
  wrote = c.put_at_kind_if.ensures.wrote ∙ written-stays _ _ _ _ _ refl;
}
