-- `binary_out::put_binary` meets its contract: the parts of the binary header come one after another.
use Prim.Native.Nat.{◌+◌, ◌≤◌}
use mathlib.Core.Path.{◌≡◌, ap, ◌∙◌}
use native.Mathlib.Omega.{arith}
use lib.ListN.{length}
use Rattle.format.specs.Catalogue.{little}
use Rattle.format.specs.Tidy.{tidy}
use Rattle.byte_slices.specs.Over.{over}
use Rattle.accepted.specs.Read.{records_of}
use Rattle.accepted.proofs.Read.{accepted-reads}
use Rattle.accepted.proofs.Text.{text-fits}
use Rattle.format.specs.References.{sq_list}
use Rattle.format.specs.Binary.{list_bytes}
use Rattle.binary_references.specs.Next.{sq_from}
use Rattle.binary_references.proofs.Next.{sq-all}
use Rattle.binary_out.proofs.Whole.{binary-length, binary-over}
use Rattle.binary_out.proofs.put_binary.Goals as goal
use Rattle.binary_out.proofs.put_binary.Goals.{Start}

-- the lines' list is the SQ list
listed : (s : Start) → let a = s.args in sq_from a.strict a.text.now 0 ≡ sq_list (records_of a.text.now)
listed s = let a = s.args in sq-all a.strict a.text.now (records_of a.text.now) (accepted-reads a.text.now s.requires.text_value) s.requires.reads_by

-- the whole fits
room : (s : Start) → let a = s.args in 12 + a.n + length (list_bytes (sq_list (records_of a.text.now))) ≤ length a.out.now
room s =
    let rs = records_of s.args.text.now in
    omega (arith, s.requires.n_value, s.requires.text_in_bounds, binary-length (tidy rs) (sq_list rs))

pub put_front-requires : goal.put_front-requires
put_front-requires c = record {
  n_bound = c.requires.n_bound;
  in_bounds = omega (arith, room (goal.at.put_front-requires c).Start);
}

pub put_text-requires : goal.put_text-requires
put_text-requires c = record {
  text_value = c.requires.text_value;
  reads_by = c.requires.reads_by;
  sizes_value = c.requires.sizes_value;
  n_value = c.requires.n_value;
  n_in_bounds = omega (arith, room (goal.at.put_text-requires c).Start, c.put_front.auto.out);
}

pub overflow_add-n : goal.overflow_add-n
overflow_add-n c = omega (arith, c.requires.n_bound)

pub put_u32-requires : goal.put_u32-requires
put_u32-requires c =
    omega (arith, room (goal.at.put_u32-requires c).Start, c.put_front.auto.out, c.put_text.auto.out)

pub overflow_add-n-2 : goal.overflow_add-n-2
overflow_add-n-2 c = omega (arith, c.requires.n_bound)

pub put_list-requires : goal.put_list-requires
put_list-requires c =
    let t = c.args.text.now in record {
      text_len_bound = text-fits t (records_of t) (accepted-reads t c.requires.text_value);
      text_in_bounds = omega (arith, room (goal.at.put_list-requires c).Start, c.put_front.auto.out, c.put_text.auto.out, c.put_u32.auto.out, ap (λ l. length (list_bytes l)) (listed (goal.at.put_list-requires c).Start));
    }

pub shape_of-out : goal.shape_of-out
shape_of-out c =
    c.put_list.auto.out ∙ c.put_u32.auto.out ∙ c.put_text.auto.out ∙ c.put_front.auto.out

pub returns : goal.returns
returns c =
    let a = c.args in
    let rs = records_of a.text.now in
    c.put_list.ensures
    ∙ ap (λ l. over c.put_u32.new.out (12 + a.n) (list_bytes l)) (listed (goal.at.returns c).Start)
    ∙ ap (λ o. over o (12 + a.n) (list_bytes (sq_list rs)))
    (c.put_u32.ensures ∙ ap (λ o. over o (8 + a.n) (little 4 a.count)) (c.put_text.ensures ∙ ap (λ o. over o 8 (tidy rs)) c.put_front.ensures))
    ∙ binary-over a.out.now (tidy rs) (sq_list rs) a.n a.count c.requires.n_value c.requires.count_value c.requires.text_in_bounds
