-- `binary_out::put_text` meets its contract: the part that was lent holds the tidy text and nothing else.
use Prim.Native.Nat.{◌+◌, ◌-◌}
use native.Mathlib.Omega.{arith}
use lib.ListN.{drop, length-take, length-drop}
use Rattle.format.specs.Tidy.{tidy}
use Rattle.accepted.specs.Read.{records_of}
use Rattle.binary_out.proofs.Whole.{part-over}
use Rattle.binary_out.proofs.put_text.Goals as goal

pub put_tidy-requires : goal.put_tidy-requires
put_tidy-requires c =
    let n = c.args.n in record {
      text_value = c.requires.text_value;
      reads_by = c.requires.reads_by;
      sizes_value = c.requires.sizes_value;
      text_in_bounds = omega (arith, c.requires.n_value, c.requires.n_in_bounds, length-take (8 + n - 8) (drop 8 c.args.out.now), length-drop 8 c.args.out.now);
    }

pub returns : goal.returns
returns c =
    let a = c.args in
    part-over a.out.now c.put_tidy.new.out (tidy (records_of a.text.now)) 8 a.n c.requires.n_in_bounds c.requires.n_value c.put_tidy.ensures.wrote
