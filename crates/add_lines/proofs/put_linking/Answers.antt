-- `add_lines::put_linking` meets its contract: a field, or nothing.
use mathlib.Core.Path.{sym, ap, subst}
use native.Mathlib.Omega.{arith}
use lib.ListN.{length}
use lib.Seq.{take-length}
use Rattle.tidy_parts.proofs.Wrote.{Wrote}
use Rattle.format.specs.Tidy.{field_text}
use Rattle.add_lines.proofs.Lines.{linking-some, linking-none, wrote_none}
use Rattle.add_lines.proofs.put_linking.Goals as goal

pub put_field-requires : goal.put_field-requires
unfolding field_text
put_field-requires c = record {
  len_in_bounds = omega arith;
  len_in_bounds_2 = omega (arith, c.requires, ap length (linking-some c.args.linked c.args.id.now c.if-linked.true));
}

pub returns-then-linked : goal.returns-then-linked
returns-then-linked c =
    let a = c.args in
    let e = linking-some a.linked a.id.now c.if-linked.true in
    let told = subst (Wrote a.out.now a.o c.put_field.new.out c.put_field.result) (sym e)
    (subst (λ v. Wrote a.out.now a.o c.put_field.new.out c.put_field.result (field_text 80 80 v)) (take-length a.id.now) (c.put_field.ensures.next, c.put_field.ensures.wrote)) in
    record { next = told.0; wrote = told.1 }

pub returns : goal.returns
returns c = let a = c.args in
    let told = wrote_none a.out.now a.o _ (linking-none a.linked a.id.now c.if-linked.false) in
    record { next = told.0; wrote = told.1 }
