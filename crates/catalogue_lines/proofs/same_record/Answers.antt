-- `catalogue_lines::same_record` meets its contract: a line that is accepted is accepted where repeated tags are allowed too, as the same record.
use Prim.Native.Nat.{◌+◌}
use mathlib.Core.Path.{◌≡◌, sym, ap, ◌∙◌}
use native.Mathlib.Omega.{arith}
use lib.ListN.{length, drop}
use Rattle.format.specs.Bytes.{starts}
use Rattle.accepted_line.proofs.Lax.{line-lax, read-lax}
use Rattle.catalogue_entries.specs.declared.Entry.TheVariants.{ReferenceSequence}
use Rattle.catalogue_entries.specs.Entries.{kind_byte, kind_size, entry_size, entry_bytes}
use Rattle.catalogue_entries.proofs.Written.{entry_length_lem}
use Rattle.catalogue_lines.specs.Line.{record_bytes, line_bytes}
use Rattle.catalogue_lines.specs.Matched.{matched}
use Rattle.catalogue_lines.proofs.Starts.{match-told}
use Rattle.catalogue_lines.proofs.Plain.{plain-bytes}
use Rattle.catalogue_lines.proofs.same_record.Goals as goal
use Rattle.catalogue_lines.proofs.same_record.Goals.{After-same_entry, In-Some}

pub plain_line-requires : goal.plain_line-requires
plain_line-requires c = record {
  src_value = read-lax c.args.strict (record { at = c.args.at; bytes = c.args.src.now }) c.requires.src_value;
  src_bound = c.requires.src_bound;
}

-- the entry of a line that was recognised
bytes : (k : In-Some)
    → (let a = k.args in
    line_bytes a.strict a.number a.at a.src.now ≡ entry_bytes (ReferenceSequence k.in-Some.plain.name k.in-Some.plain.length a.number))
bytes k =
    let a = k.args in
    plain-bytes a.strict a.number a.at a.src.now k.requires.src_value k.plain_line.result k.in-Some.plain k.in-Some.is k.plain_line.ensures

pub same_formed-requires : goal.same_formed-requires
same_formed-requires c = record {
  form = c.form_of-form.ensures.right;
  o_in_bounds = c.requires.o_in_bounds;
}

pub returns-in_default : goal.returns-in_default
returns-in_default c =
    let a = c.args in
    c.same_formed.ensures
    ∙ ap (λ l. matched a.o (drop a.o a.catalogue.now) (record_bytes a.number l)) (sym (line-lax a.strict (record { at = a.at; bytes = a.src.now }) c.requires.src_value))

pub same_entry-requires : goal.same_entry-requires
same_entry-requires c = c.requires.o_in_bounds

-- the test is the line's
told : (c : After-same_entry)
    → (let a = c.args in starts (line_bytes a.strict a.number a.at a.src.now) (drop a.o a.catalogue.now) ≡ c.same_entry.result)
told c =
    let a = c.args in
    ap (λ l. starts l (drop a.o a.catalogue.now)) (bytes (goal.at.After-same_entry c).In-Some) ∙ sym c.same_entry.ensures

pub returns : goal.returns
unfolding entry_size kind_byte kind_size
returns c =
    let a = c.args in
    let k = goal.at.returns c in
    let l = entry_length_lem (ReferenceSequence c.in-Some.plain.name c.in-Some.plain.length a.number) in
    c.then_some.ensures
    ∙ match-told a.catalogue.now a.o _ c.same_entry.result (a.o + 21) (told k.After-same_entry) (omega (arith, ap length (bytes k.In-Some), l))
