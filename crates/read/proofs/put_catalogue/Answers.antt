-- `read::put_catalogue` meets its contract: what was written is the catalogue of the lines that were passed.
use Prim.Native.Nat.{◌+◌, ◌≤◌}
use mathlib.Core.Path.{◌≡◌, refl, sym, ap, ◌∙◌}
use mathlib.Core.List.{[], ◌∷◌, ◌++◌}
use native.Mathlib.Omega.{arith}
use lib.ListN.{length, length-append}
use Rattle.format.specs.Records.{read}
use Rattle.format.specs.Catalogue.{catalogue_from, catalogue}
use Rattle.byte_slices.specs.Over.{over}
use Rattle.byte_slices.proofs.Over.{over_none, over-over}
use Rattle.catalogue_lines.specs.Line.{record_bytes}
use Rattle.catalogue_lines.proofs.Records.{catalogue-length, catalogue-more, catalogue-append}
use Rattle.read.proofs.Walking.{walking_start, walking-end, text-size, Lent, lent}
use Rattle.read.proofs.put_catalogue.Goals as goal
use Rattle.read.proofs.put_catalogue.Goals.{After-first_line-cut}

-- the next line
next : (c : After-first_line-cut)
    → let a = c.args in
    Lent a.strict a.text.now c.loop-at.at c.loop-at.invariant.0 c.loop-at-test.true c.first_line-cut.result
next c =
    lent c.args.strict c.args.text.now c.loop-at.at c.loop-at.invariant.0 c.loop-at-test.true c.first_line-cut.result c.requires.accepted_text c.first_line-cut.ensures

-- the next record's entries fit
room : (c : After-first_line-cut)
    → c.loop-at.o + length (record_bytes c.loop-at.line (read (next c).turn.here)) ≤ length c.loop-at.out
room c =
    let a = c.args in
    let w = c.loop-at.invariant.0 in
    let done = w.done ++ ((next c).turn.here ∷ []) in
    omega (
      arith,
      c.loop-at.invariant.1,
      c.loop-at.invariant.3,
      catalogue-length w.done (next c).turn.here,
      ap (λ n. length (record_bytes n (read (next c).turn.here))) c.loop-at.invariant.4,
      ap (λ rs. length (catalogue rs)) (next c).turn.whole_is,
      ap length (catalogue-append done (next c).turn.others),
      length-append (catalogue done) (catalogue_from (length done) (next c).turn.others),
      c.requires.text_in_bounds,
    )

pub loop-at-init : goal.loop-at-init
unfolding catalogue walking_start
loop-at-init c = (walking_start c.args.strict c.args.text.now c.requires.accepted_text, refl, sym (over_none c.args.out.now 0), refl, refl)

pub slice_bounds-first_line-count : goal.slice_bounds-first_line-count
slice_bounds-first_line-count c = omega arith

pub slice_bounds-first_line-start : goal.slice_bounds-first_line-start
slice_bounds-first_line-start c = omega arith

pub slice_bounds-first_line-end : goal.slice_bounds-first_line-end
slice_bounds-first_line-end c = omega arith

pub overflow_add-end : goal.overflow_add-end
overflow_add-end c = omega (arith, (next (goal.at.overflow_add-end c).After-first_line-cut).inside)

pub slice_bounds-put_record-count : goal.slice_bounds-put_record-count
slice_bounds-put_record-count c = omega arith

pub slice_bounds-put_record-start : goal.slice_bounds-put_record-start
slice_bounds-put_record-start c = omega arith

pub slice_bounds-put_record-end : goal.slice_bounds-put_record-end
slice_bounds-put_record-end c = omega (arith, (next (goal.at.slice_bounds-put_record-end c).After-first_line-cut).inside)

pub put_record-o-requires : goal.put_record-o-requires
put_record-o-requires c = record {
  src_value = (next (goal.at.put_record-o-requires c).After-first_line-cut).accepted;
  src_bound = (next (goal.at.put_record-o-requires c).After-first_line-cut).fits;
  src_in_bounds = omega (arith, room (goal.at.put_record-o-requires c).After-first_line-cut, ap (λ x. length (record_bytes c.loop-at.line x)) (next (goal.at.put_record-o-requires c).After-first_line-cut).line-is);
}

pub overflow_add-at : goal.overflow_add-at
overflow_add-at c = omega (arith, (next (goal.at.overflow_add-at c).After-first_line-cut).inside)

pub overflow_add-line : goal.overflow_add-line
overflow_add-line c =
    let w = c.loop-at.invariant.0 in
    omega (arith, c.loop-at.invariant.4, w.few, w.inside, text-size c.args.strict c.args.text.now c.requires.accepted_text)

pub loop-at-smaller : goal.loop-at-smaller
loop-at-smaller c = omega (arith, (next (goal.at.loop-at-smaller c).After-first_line-cut).inside)

pub loop-at-preserved : goal.loop-at-preserved
loop-at-preserved c =
    let a = c.args in
    let w = c.loop-at.invariant.0 in
    let r = (next (goal.at.loop-at-preserved c).After-first_line-cut).turn.here in
    let count = length w.done in
    let bytes = ap (record_bytes c.loop-at.line) (next (goal.at.loop-at-preserved c).After-first_line-cut).line-is ∙ ap (λ n. record_bytes n (read r)) c.loop-at.invariant.4 in
    let place : c.loop-at.o ≡ 0 + length (catalogue w.done) = omega (arith, c.loop-at.invariant.1) in
    rw (next (goal.at.loop-at-preserved c).After-first_line-cut).cut-is (
      (next (goal.at.loop-at-preserved c).After-first_line-cut).turn.next,
      omega (arith, c.put_record-o.ensures.next, ap length bytes, c.loop-at.invariant.1, catalogue-length w.done r, ap (λ d. length (catalogue d)) (next (goal.at.loop-at-preserved c).After-first_line-cut).turn.done-is),
      c.put_record-o.ensures.wrote
          ∙ ap (over c.loop-at.out c.loop-at.o) bytes
          ∙ ap (λ o. over o c.loop-at.o (record_bytes count (read r))) c.loop-at.invariant.2
          ∙ ap (λ n. over (over a.out.now 0 (catalogue w.done)) n (record_bytes count (read r))) place
          ∙ over-over a.out.now 0 (catalogue w.done) (record_bytes count (read r)) (omega (arith, room (goal.at.loop-at-preserved c).After-first_line-cut, ap length bytes, ap (λ x. length (record_bytes c.loop-at.line x)) (next (goal.at.loop-at-preserved c).After-first_line-cut).line-is, c.loop-at.invariant.1, c.loop-at.invariant.3))
          ∙ ap (over a.out.now 0) (sym (catalogue-more w.done r) ∙ ap catalogue (sym (next (goal.at.loop-at-preserved c).After-first_line-cut).turn.done-is)),
      c.put_record-o.auto.out ∙ c.loop-at.invariant.3,
      omega (arith, c.loop-at.invariant.4, (next (goal.at.loop-at-preserved c).After-first_line-cut).turn.count-is),
    )

pub shape_of-out : goal.shape_of-out
shape_of-out c = c.loop-at.invariant.3

pub returns : goal.returns
returns c =
    let a = c.args in
    c.loop-at.invariant.2 ∙ ap (λ rs. over a.out.now 0 (catalogue rs)) (sym (walking-end a.strict a.text.now c.loop-at.at c.loop-at.invariant.0 c.loop-at-test.false))
