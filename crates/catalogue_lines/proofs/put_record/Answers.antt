-- `catalogue_lines::put_record` meets its contract: a line that is accepted is accepted where repeated tags are allowed too, as the same record.
use Prim.Native.Nat.{◌+◌}
use mathlib.Core.Path.{◌≡◌, sym, ap, ◌∙◌}
use mathlib.Core.Bool.{false}
use native.Mathlib.Omega.{arith}
use lib.ListN.{length}
use Rattle.byte_slices.specs.Over.{over}
use Rattle.accepted_line.proofs.Lax.{line-lax, read-lax}
use Rattle.catalogue_entries.specs.declared.Entry.TheVariants.{ReferenceSequence}
use Rattle.catalogue_entries.specs.Entries.{entry_bytes}
use Rattle.catalogue_entries.proofs.Written.{entry_length_lem}
use Rattle.catalogue_lines.specs.Line.{record_bytes, line_bytes}
use Rattle.catalogue_lines.proofs.Plain.{plain-bytes}
use Rattle.catalogue_lines.proofs.put_record.Goals as goal
use Rattle.catalogue_lines.proofs.put_record.Goals.{In-Some, Start}

same : (s : Start) → (let a = s.args in line_bytes a.strict a.number a.at a.src.now ≡ line_bytes false a.number a.at a.src.now)
same s = ap (record_bytes s.args.number) (line-lax s.args.strict (record { at = s.args.at; bytes = s.args.src.now }) s.requires.src_value)

pub plain_line-requires : goal.plain_line-requires
plain_line-requires c = record {
  src_value = read-lax c.args.strict (record { at = c.args.at; bytes = c.args.src.now }) c.requires.src_value;
  src_bound = c.requires.src_bound;
}

-- the entry of a line that was recognised
bytes : (k : In-Some)
    → (let a = k.args in
    line_bytes a.strict a.number a.at a.src.now ≡ entry_bytes (ReferenceSequence k.in-Some.plain.name k.in-Some.plain.length a.number))
bytes k =
    let a = k.args in
    plain-bytes a.strict a.number a.at a.src.now k.requires.src_value k.plain_line.result k.in-Some.plain k.in-Some.is k.plain_line.ensures

pub put_formed-requires : goal.put_formed-requires
put_formed-requires c = record {
  form = c.form_of-form.ensures.right;
  src_in_bounds = omega (arith, ap length (same (goal.at.put_formed-requires c).Start), c.requires.src_in_bounds);
}

pub returns-in_default : goal.returns-in_default
returns-in_default c =
    let p = (goal.at.returns-in_default c).Start in
    record {
      next = c.put_formed.ensures.next ∙ ap (λ l. c.args.o + length l) (sym (same p));
      wrote = c.put_formed.ensures.wrote ∙ ap (over c.args.out.now c.args.o) (sym (same p));
    }

pub put_entry-requires : goal.put_entry-requires
put_entry-requires c =
    omega (arith, ap length (bytes (goal.at.put_entry-requires c).In-Some), entry_length_lem (ReferenceSequence c.in-Some.plain.name c.in-Some.plain.length c.args.number), c.requires.src_in_bounds)

pub returns : goal.returns
returns c =
    let p = (goal.at.returns c).In-Some in
    let a = c.args in
    let l = entry_length_lem (ReferenceSequence c.in-Some.plain.name c.in-Some.plain.length a.number) in record {
      next = omega (arith, c.put_entry.ensures.next, ap length (bytes p), l);
      wrote = c.put_entry.ensures.wrote ∙ ap (over a.out.now a.o) (sym (bytes p));
    }
