-- `tidy_text::put_tidy` meets its contract: without marks all records stay.
use Prim.Native.Nat.{◌≤◌}
use mathlib.Core.Path.{sym, ap, subst, ◌∙◌}
use lib.ListN.{length}
use Rattle.format.specs.Tidy.{tidy}
use Rattle.byte_slices.specs.Over.{over}
use Rattle.accepted.specs.Read.{records_of}
use Rattle.tidy_text.specs.Sizes.{sizes_of}
use Rattle.tidy_text.proofs.Sifting.{sifted-unmarked}
use Rattle.tidy_text.proofs.put_tidy.Goals as goal

pub put_marked-requires : goal.put_marked-requires
put_marked-requires c =
    let rs = records_of c.args.text.now in
    let all = sifted-unmarked rs in record {
      text_value = c.requires.text_value;
      reads_by = c.requires.reads_by;
      sizes_value = c.requires.sizes_value ∙ ap sizes_of (sym all);
      text_in_bounds = subst (λ qs. length (tidy qs) ≤ length c.args.out.now) (sym all) c.requires.text_in_bounds;
    }

pub returns : goal.returns
returns c =
    let a = c.args in
    let all = sifted-unmarked (records_of a.text.now) in record {
      next = c.put_marked.ensures.next ∙ ap (λ qs. length (tidy qs)) all;
      wrote = c.put_marked.ensures.wrote ∙ ap (λ qs. over a.out.now 0 (tidy qs)) all;
    }
