-- `tidy_text::put_at_kind_if` meets its contract: the record goes to the place of its kind, which moves past it.
use mathlib.Core.Path.{◌≡◌, sym, ap, ap₂, ◌∙◌}
use native.Mathlib.Omega.{arith}
use lib.ListN.{get_or}
use Rattle.format.specs.Records.{line}
use Rattle.byte_slices.specs.Over.{over}
use Rattle.tidy_line.specs.Line.{line_text}
use Rattle.tidy_sizes.specs.Numbers.{get, plus}
use Rattle.accepted_line.specs.Found.{kind_by}
use Rattle.tidy_text.proofs.OfKind.{three}
use borrow.Author.Tests.{not-true, not-false}
use Rattle.tidy_text.proofs.Sifting.{places-stay, places-go, written-stays, written-goes}
use Rattle.tidy_text.proofs.put_at_kind_if.Goals as goal
use Rattle.tidy_text.proofs.put_at_kind_if.Goals.{After-get-o}

-- the place of the line's kind
place : (c : After-get-o) → (let a = c.args in c.get-o.result ≡ get (kind_by (get_or a.src.now 1 0)) a.places)
place c = c.get-o.ensures ∙ ap (λ k. get k c.args.places) c.kind_of-kind.ensures

pub returns-then-not-stays : goal.returns-then-not-stays
returns-then-not-stays c = let a = c.args in let e = not-true a.stays c.if-not-stays.true-raw in record {
  next = sym (places-go _ _ _ _ e);
  wrote = sym (written-goes _ _ _ _ _ e);
}

pub kind_of-kind-requires : goal.kind_of-kind-requires
kind_of-kind-requires c = three c.args.strict c.args.at c.args.src.now c.requires.src_value

pub put_record-n-requires : goal.put_record-n-requires
put_record-n-requires c = record {
  src_value = c.requires.src_value;
  src_bound = c.requires.src_bound;
  src_in_bounds = omega (arith, c.requires.src_in_bounds (not-false c.args.stays c.if-not-stays.false-raw), place (goal.at.put_record-n-requires c).After-get-o);
}

pub returns : goal.returns
returns c =
    let a = c.args in
    let stay = not-false a.stays c.if-not-stays.false-raw in
    let xs = line_text (line a.strict (record { at = a.at; bytes = a.src.now })) in record {
      next = c.plus.ensures ∙ ap₂ (λ k n. plus k n a.places) c.kind_of-kind.ensures (omega (arith, c.put_record-n.ensures.next)) ∙ sym (places-stay _ _ _ _ stay);
      wrote = c.put_record-n.ensures.wrote ∙ ap (λ o. over a.out.now o xs) (place (goal.at.returns c).After-get-o) ∙ sym (written-stays _ _ _ _ _ stay);
    }
