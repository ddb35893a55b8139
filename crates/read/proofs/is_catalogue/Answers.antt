-- `read::is_catalogue` meets its contract: the catalogue starts with the entries of the lines that were passed.
use mathlib.Core.Path.{◌≡◌, refl, sym, ap, subst, ◌∙◌}
use native.Mathlib.Omega.{arith}
use lib.ListN.{length, drop}
use Rattle.format.specs.Bytes.{same}
use Rattle.format.specs.Records.{read}
use Rattle.format.specs.Catalogue.{catalogue}
use Rattle.catalogue_lines.specs.Line.{record_bytes}
use Rattle.catalogue_lines.specs.Matched.{matched, Reached}
use Rattle.catalogue_lines.proofs.Reached.{reached-start, reached-within, reached-on, reached-off, reached-end}
use Rattle.read.proofs.Walking.{walking_start, walking-end, text-size, Lent, lent}
use Rattle.read.proofs.is_catalogue.Goals as goal
use Rattle.read.proofs.is_catalogue.Goals.{After-first_line-cut, After-same_record}

-- the next line
next : (c : After-first_line-cut)
    → let a = c.args in
    Lent a.strict a.text.now c.loop-at.at c.loop-at.invariant.0 c.loop-at-test.true c.first_line-cut.result
next c =
    lent c.args.strict c.args.text.now c.loop-at.at c.loop-at.invariant.0 c.loop-at-test.true c.first_line-cut.result c.requires c.first_line-cut.ensures

compared : (c : After-same_record)
    → c.same_record.result ≡ matched c.loop-at.o (drop c.loop-at.o c.args.kept.now) (record_bytes (length c.loop-at.invariant.0.done) (read (next (goal.at.After-same_record c).After-first_line-cut).turn.here))
compared c =
    c.same_record.ensures
    ∙ ap (matched c.loop-at.o (drop c.loop-at.o c.args.kept.now))
    (ap (record_bytes c.loop-at.line) (next (goal.at.After-same_record c).After-first_line-cut).line-is ∙ ap (λ n. record_bytes n (read (next (goal.at.After-same_record c).After-first_line-cut).turn.here)) c.loop-at.invariant.2)

pub loop-at-init : goal.loop-at-init
unfolding walking_start
loop-at-init c = (walking_start c.args.strict c.args.text.now c.requires, reached-start c.args.kept.now, refl)

pub slice_bounds-first_line-count : goal.slice_bounds-first_line-count
slice_bounds-first_line-count c = omega arith

pub slice_bounds-first_line-start : goal.slice_bounds-first_line-start
slice_bounds-first_line-start c = omega arith

pub slice_bounds-first_line-end : goal.slice_bounds-first_line-end
slice_bounds-first_line-end c = omega arith

pub overflow_add-end : goal.overflow_add-end
overflow_add-end c = omega (arith, (next (goal.at.overflow_add-end c).After-first_line-cut).inside)

pub slice_bounds-same_record-count : goal.slice_bounds-same_record-count
slice_bounds-same_record-count c = omega arith

pub slice_bounds-same_record-start : goal.slice_bounds-same_record-start
slice_bounds-same_record-start c = omega arith

pub slice_bounds-same_record-end : goal.slice_bounds-same_record-end
slice_bounds-same_record-end c = omega (arith, (next (goal.at.slice_bounds-same_record-end c).After-first_line-cut).inside)

pub same_record-requires : goal.same_record-requires
same_record-requires c =
    let a = c.args in record {
      src_value = (next (goal.at.same_record-requires c).After-first_line-cut).accepted;
      src_bound = (next (goal.at.same_record-requires c).After-first_line-cut).fits;
      o_in_bounds = reached-within a.kept.now c.loop-at.invariant.0.done c.loop-at.o c.loop-at.invariant.1;
    }

pub returns-in_default : goal.returns-in_default
returns-in_default c =
    let a = c.args in
    let w = c.loop-at.invariant.0 in
    sym
    (ap (λ rs. same a.kept.now (catalogue rs)) (next (goal.at.returns-in_default c).After-first_line-cut).turn.whole_is
    ∙ reached-off a.kept.now w.done c.loop-at.o c.loop-at.invariant.1 (next (goal.at.returns-in_default c).After-first_line-cut).turn.here (sym (compared (goal.at.returns-in_default c).After-same_record) ∙ c.in_default.is) (next (goal.at.returns-in_default c).After-first_line-cut).turn.others)

pub overflow_add-at : goal.overflow_add-at
overflow_add-at c = omega (arith, (next (goal.at.overflow_add-at c).After-first_line-cut).inside)

pub overflow_add-line : goal.overflow_add-line
overflow_add-line c =
    let w = c.loop-at.invariant.0 in
    omega (arith, c.loop-at.invariant.2, w.few, w.inside, text-size c.args.strict c.args.text.now c.requires)

pub loop-at-smaller : goal.loop-at-smaller
loop-at-smaller c = omega (arith, (next (goal.at.loop-at-smaller c).After-first_line-cut).inside)

pub loop-at-preserved : goal.loop-at-preserved
loop-at-preserved c =
    let a = c.args in
    let w = c.loop-at.invariant.0 in
    let n = c.in-Some.next in
    rw (next (goal.at.loop-at-preserved c).After-first_line-cut).cut-is
    ((next (goal.at.loop-at-preserved c).After-first_line-cut).turn.next, subst (λ d. Reached a.kept.now d n) (sym (next (goal.at.loop-at-preserved c).After-first_line-cut).turn.done-is) (reached-on a.kept.now w.done c.loop-at.o c.loop-at.invariant.1 (next (goal.at.loop-at-preserved c).After-first_line-cut).turn.here n (sym (compared (goal.at.loop-at-preserved c).After-same_record) ∙ c.in-Some.is)), omega (arith, c.loop-at.invariant.2, (next (goal.at.loop-at-preserved c).After-first_line-cut).turn.count-is))

pub returns : goal.returns
returns c =
    let a = c.args in
    sym (ap (λ rs. same a.kept.now (catalogue rs)) (walking-end a.strict a.text.now c.loop-at.at c.loop-at.invariant.0 c.loop-at-test.false) ∙ reached-end a.kept.now c.loop-at.invariant.0.done c.loop-at.o c.loop-at.invariant.1)
