-- `tidy_text::measure_marked` meets its contract: what is asked of the whole text is asked of the lines still to come.
use Prim.Native.Nat.{ℕ, ◌+◌, ◌≤◌}
use mathlib.Core.Path.{◌≡◌, sym, ap, ◌∙◌}
use mathlib.Core.Bool.{Bool, true, false, cond}
use mathlib.Core.List.{List}
use mathlib.Core.Option.{some}
use native.Mathlib.Omega.{arith}
use lib.ListN.{length, get_or}
use Rattle.format.specs.Records.{Record, Line, line}
use Rattle.format.specs.Tidy.{unwritable}
use Rattle.format.specs.declared.Kind.{Kind}
use Rattle.accepted.specs.Read.{records_of}
use Rattle.accepted.proofs.Ahead.{lent}
use Rattle.tidy_line.specs.Line.{line_text, line_writable}
use Rattle.tidy_text.specs.Accepted.{with_record, measured_of, records_from}
use Rattle.tidy_text.specs.Kinds.{kind_text}
use Rattle.tidy_sizes.specs.Numbers.{get}
use Rattle.tidy_text.specs.Sizes.{sizes_of}
use Rattle.accepted_line.specs.Found.{kind_by}
use Rattle.std.specs.Prelude.{Ok}
use Rattle.tidy_text.proofs.Lines.{Opened, opened, Turn, turn, ended}
use Rattle.tidy_text.proofs.OfKind.{only, three, line-kind}
use Rattle.tidy_text.proofs.Total.{size, tidy-small}
use Rattle.tidy_text.proofs.Sizes.{get_none, size_none, size-le, each-get}
use Rattle.tidy_text.proofs.Names.{cond-is, unwritable-turn, unwritable-ended}
use Rattle.tidy_text.specs.Sifted.{is_marked, sifted, stay_by}
use Rattle.tidy_text.proofs.Sifting.{is-pg, line-pg, sifted-small, sifted-none, next_le, grow-bad, grow-is, stay-size}
use Rattle.tidy_text.proofs.Refused.{measured-told}
use Rattle.tidy_text.proofs.measure_marked.Goals as goal
use Rattle.tidy_text.proofs.measure_marked.Goals.{After-first_line-cut, After-stay_of-s, In-Some, Start}

begun : (s : Start) → Opened s.args.strict s.args.text.now
begun s = opened s.args.strict s.args.text.now s.requires.text_value s.requires.reads_by

-- the line of a step
turned : (c : After-first_line-cut) → (let a = c.args in Turn a.strict a.text.now c.loop-at.at c.first_line-cut.result)
turned c =
    let a = c.args in
    turn a.strict a.text.now c.loop-at.at (omega arith) c.loop-at.invariant.2 c.first_line-cut.result c.first_line-cut.ensures

-- its bytes, the line, and its kind
abbrev bytes_of : (c : After-first_line-cut) → List ℕ
bytes_of c = lent c.args.text.now c.loop-at.at c.first_line-cut.result.len

abbrev line_of : (c : After-first_line-cut) → Line
line_of c = line c.args.strict (record { at = c.loop-at.at; bytes = bytes_of c })

abbrev kind_at : (c : After-first_line-cut) → Kind
kind_at c = kind_by (get_or (bytes_of c) 1 0)

-- the records after it
abbrev rest_of : (c : After-first_line-cut) → List Record
rest_of c = let a = c.args in records_from a.strict a.text.now (c.loop-at.at + c.first_line-cut.result.next)

-- the programs with a mark
abbrev p-of : (c : After-first_line-cut) → ℕ → Bool
p-of c = is_marked c.args.marks.now

-- to which kind its text goes
goes : (c : After-first_line-cut) (k : Kind) → kind_text k (line_of c) ≡ only (kind_at c) (line_text (line_of c)) k
goes c = line-kind c.args.strict c.loop-at.at (bytes_of c) (turned c).read

-- whether it stays
steps : (c : After-stay_of-s) → (c.stay_of-s.result ≡ stay_by (is-pg (line_of (goal.at.After-stay_of-s c).After-first_line-cut)) c.args.marks.now c.loop-at.k)
steps c =
    let a = c.args in
    c.stay_of-s.ensures ∙ ap (λ b. stay_by b a.marks.now c.loop-at.k) (sym (line-pg a.strict c.loop-at.at (bytes_of (goal.at.After-stay_of-s c).After-first_line-cut) (turned (goal.at.After-stay_of-s c).After-first_line-cut).read))

-- what is asked, by whether the line can be written
asked : (c : After-first_line-cut)
    → (let a = c.args in
    unwritable 0 (records_of a.text.now) ≡ cond (line_writable (line_of c)) (unwritable (c.loop-at.l + 1) (rest_of c)) (some c.loop-at.l))
asked c =
    let a = c.args in
    c.loop-at.invariant.3 ∙ unwritable-turn a.strict a.text.now c.loop-at.at c.first_line-cut.result (turned c) c.loop-at.l

-- there is room for it
room : (c : After-stay_of-s) → (c.stay_of-s.result.stays ≡ true → get (kind_at (goal.at.After-stay_of-s c).After-first_line-cut) c.loop-at.sizes + length (line_text (line_of (goal.at.After-stay_of-s c).After-first_line-cut)) ≤ 18446744073709551615)
room c h =
    let j = kind_at (goal.at.After-stay_of-s c).After-first_line-cut in
    let rs = records_of c.args.text.now in
    let p = p-of (goal.at.After-stay_of-s c).After-first_line-cut in
    omega (
      arith,
      c.loop-at.invariant.4 j,
      ap (λ xs. size j (sifted p c.loop-at.k xs)) (turned (goal.at.After-stay_of-s c).After-first_line-cut).records,
      stay-size c.args.marks.now c.loop-at.k j (line_of (goal.at.After-stay_of-s c).After-first_line-cut) (rest_of (goal.at.After-stay_of-s c).After-first_line-cut) (turned (goal.at.After-stay_of-s c).After-first_line-cut).read (goes (goal.at.After-stay_of-s c).After-first_line-cut) c.stay_of-s.result (steps c) h,
      size-le j (sifted p 0 rs),
      sifted-small p 0 rs,
      (tidy-small c.args.strict c.args.text.now (begun (goal.at.After-stay_of-s c).Start)).1,
    )

-- it can be written, and the sizes with it
sized : (z : In-Some)
    → ((line_writable (line_of (goal.at.In-Some z).After-first_line-cut) ≡ true)
    × ((i : Kind) → get i z.in-Some.next + size i (sifted (p-of (goal.at.In-Some z).After-first_line-cut) z.stay_of-s.result.next (rest_of (goal.at.In-Some z).After-first_line-cut)) ≡ get i z.loop-at.sizes + size i (sifted (p-of (goal.at.In-Some z).After-first_line-cut) z.loop-at.k (with_record (line_of (goal.at.In-Some z).After-first_line-cut) (rest_of (goal.at.In-Some z).After-first_line-cut)))))
sized z =
    let a = z.args in
    grow-is a.marks.now z.loop-at.k (kind_at (goal.at.In-Some z).After-first_line-cut) (line_of (goal.at.In-Some z).After-first_line-cut) (rest_of (goal.at.In-Some z).After-first_line-cut) (turned (goal.at.In-Some z).After-first_line-cut).read (goes (goal.at.In-Some z).After-first_line-cut) z.stay_of-s.result (steps (goal.at.In-Some z).After-stay_of-s) z.loop-at.sizes z.in-Some.next (sym z.with_line_if-grown.ensures ∙ z.in-Some.is)

pub loop-at-init : goal.loop-at-init
loop-at-init c =
    let o = begun (goal.at.loop-at-init c).Start in (
      omega arith,
      (omega arith, omega arith),
      o.lines,
      ap (unwritable 0) (sym o.records),
      (λ i. omega (arith, ap (get i) c.new-sizes.ensures, get_none i, ap (λ rs. size i (sifted (is_marked c.args.marks.now) 0 rs)) o.records)),
    )

pub slice_bounds-first_line-count : goal.slice_bounds-first_line-count
slice_bounds-first_line-count c = omega arith

pub slice_bounds-first_line-start : goal.slice_bounds-first_line-start
slice_bounds-first_line-start c = omega arith

pub slice_bounds-first_line-end : goal.slice_bounds-first_line-end
slice_bounds-first_line-end c = omega arith

pub overflow_add-at : goal.overflow_add-at
overflow_add-at c = omega (arith, turned (goal.at.overflow_add-at c).After-first_line-cut)

pub slice_bounds-stay_of-count : goal.slice_bounds-stay_of-count
slice_bounds-stay_of-count c = omega arith

pub slice_bounds-stay_of-start : goal.slice_bounds-stay_of-start
slice_bounds-stay_of-start c = omega arith

pub slice_bounds-stay_of-end : goal.slice_bounds-stay_of-end
slice_bounds-stay_of-end c = omega (arith, turned (goal.at.slice_bounds-stay_of-end c).After-first_line-cut)

pub stay_of-s-requires : goal.stay_of-s-requires
stay_of-s-requires c = record {
  in_bounds = three c.args.strict c.loop-at.at (bytes_of (goal.at.stay_of-s-requires c).After-first_line-cut) (turned (goal.at.stay_of-s-requires c).After-first_line-cut).read;
  k_bound = omega (arith, c.loop-at.invariant.1.1, c.loop-at.invariant.0, (begun (goal.at.stay_of-s-requires c).Start).fits);
}

pub overflow_add-at-in-loop-at : goal.overflow_add-at-in-loop-at
overflow_add-at-in-loop-at c = omega (arith, turned (goal.at.overflow_add-at-in-loop-at c).After-first_line-cut)

pub slice_bounds-with_line_if-count : goal.slice_bounds-with_line_if-count
slice_bounds-with_line_if-count c = omega arith

pub slice_bounds-with_line_if-start : goal.slice_bounds-with_line_if-start
slice_bounds-with_line_if-start c = omega arith

pub slice_bounds-with_line_if-end : goal.slice_bounds-with_line_if-end
slice_bounds-with_line_if-end c = omega (arith, turned (goal.at.slice_bounds-with_line_if-end c).After-first_line-cut)

pub with_line_if-grown-requires : goal.with_line_if-grown-requires
with_line_if-grown-requires c =
    let t = turned (goal.at.with_line_if-grown-requires c).After-first_line-cut in record {
      src_value = t.read;
      src_bound = omega (arith, t.size, t.inside, (begun (goal.at.with_line_if-grown-requires c).Start).fits);
      src_bound_2 = room (goal.at.with_line_if-grown-requires c).After-stay_of-s;
    }

pub returns-in_default : goal.returns-in_default
unfolding measured_of
returns-in_default c =
    let a = c.args in
    let bad = grow-bad a.marks.now c.loop-at.k (kind_at (goal.at.returns-in_default c).After-first_line-cut) (line_of (goal.at.returns-in_default c).After-first_line-cut) (rest_of (goal.at.returns-in_default c).After-first_line-cut) (turned (goal.at.returns-in_default c).After-first_line-cut).read (goes (goal.at.returns-in_default c).After-first_line-cut) c.stay_of-s.result (steps (goal.at.returns-in_default c).After-stay_of-s) c.loop-at.sizes (sym c.with_line_if-grown.ensures ∙ c.in_default.is) in
    let told = measured-told (unwritable 0 (records_of a.text.now)) (sizes_of (sifted (p-of (goal.at.returns-in_default c).After-first_line-cut) 0 (records_of a.text.now))) _
    (sym (ap (λ o. measured_of o (sizes_of (sifted (p-of (goal.at.returns-in_default c).After-first_line-cut) 0 (records_of a.text.now)))) (asked (goal.at.returns-in_default c).After-first_line-cut ∙ cond-is (line_writable (line_of (goal.at.returns-in_default c).After-first_line-cut)) false _ _ bad))) in
    record { is = told.0; refusal = told.1 }

pub overflow_add-l : goal.overflow_add-l
overflow_add-l c =
    omega (arith, c.loop-at.invariant.0, c.loop-at.invariant.1.0, (begun (goal.at.overflow_add-l c).Start).fits)

pub overflow_add-at-in-loop-at-2 : goal.overflow_add-at-in-loop-at-2
overflow_add-at-in-loop-at-2 c = omega (arith, (turned (goal.at.overflow_add-at-in-loop-at-2 c).After-first_line-cut).within, (begun (goal.at.overflow_add-at-in-loop-at-2 c).Start).fits)

pub loop-at-smaller : goal.loop-at-smaller
loop-at-smaller c = omega (arith, turned (goal.at.loop-at-smaller c).After-first_line-cut)

pub loop-at-preserved : goal.loop-at-preserved
loop-at-preserved c =
    let a = c.args in
    let t = turned (goal.at.loop-at-preserved c).After-first_line-cut in (
      t.within,
      (omega (arith, c.loop-at.invariant.1.0, t.onward), omega (arith, c.loop-at.invariant.1.1, t.onward, next_le a.marks.now c.loop-at.k _ c.stay_of-s.result c.stay_of-s.ensures)),
      t.rest,
      asked (goal.at.loop-at-preserved c).After-first_line-cut ∙ cond-is (line_writable (line_of (goal.at.loop-at-preserved c).After-first_line-cut)) true _ _ (sized (goal.at.loop-at-preserved c).In-Some).0,
      (λ i. (sized (goal.at.loop-at-preserved c).In-Some).1 i ∙ ap (λ rs. get i c.loop-at.sizes + size i (sifted (p-of (goal.at.loop-at-preserved c).After-first_line-cut) c.loop-at.k rs)) (sym t.records) ∙ c.loop-at.invariant.4 i),
    )

pub returns : goal.returns
unfolding measured_of sizes_of
returns c =
    let a = c.args in
    let p = is_marked a.marks.now in
    let rs = sifted p 0 (records_of a.text.now) in
    let none = unwritable-ended a.strict a.text.now c.loop-at.at c.loop-at-test.false c.loop-at.l in
    let e = ended a.strict a.text.now c.loop-at.at c.loop-at-test.false in
    let all : c.loop-at.sizes ≡ sizes_of rs = each-get c.loop-at.sizes (λ i. size i rs) (λ i. omega (arith, c.loop-at.invariant.4 i, ap (λ xs. size i (sifted p c.loop-at.k xs)) e, ap (size i) (sifted-none p c.loop-at.k), ap length (size_none i))) in
    let told = measured-told (unwritable 0 (records_of a.text.now)) (sizes_of rs) _ (ap Ok all ∙ sym (ap (λ o. measured_of o (sizes_of rs)) (c.loop-at.invariant.3 ∙ none))) in
    record { is = told.0; refusal = told.1 }
