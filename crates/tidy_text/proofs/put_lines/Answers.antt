-- `tidy_text::put_lines` meets its contract: what is written, and what the lines still to come will write, is all.
use Prim.Native.Nat.{ℕ, ◌+◌}
use mathlib.Core.Path.{◌≡◌, refl, sym, ap, ap₂, subst, ◌∙◌}
use mathlib.Core.Bool.{Bool}
use mathlib.Core.List.{List}
use native.Mathlib.Omega.{arith}
use lib.ListN.{length, get_or}
use Rattle.format.specs.Records.{Record, Line, line}
use Rattle.format.specs.declared.Kind.{Kind}
use Rattle.accepted.proofs.Ahead.{lent}
use Rattle.tidy_line.specs.Line.{line_text}
use Rattle.tidy_text.specs.Accepted.{with_record, records_from}
use Rattle.tidy_text.specs.Kinds.{kind_text}
use Rattle.tidy_text.specs.Placed.{with_parts, parts, Apart}
use Rattle.accepted_line.specs.Found.{kind_by}
use Rattle.tidy_text.proofs.Lines.{Opened, opened, Turn, turn, ended}
use Rattle.tidy_text.proofs.OfKind.{only, three, line-kind}
use Rattle.tidy_text.proofs.Parts.{placed-none}
use Rattle.tidy_text.specs.Sifted.{is_marked, sifted, stay_by}
use Rattle.tidy_text.proofs.Sifting.{is-pg, line-pg, sifted-none, next_le, stay-room, stay-apart, stay-same}
use Rattle.tidy_text.proofs.put_lines.Goals as goal
use Rattle.tidy_text.proofs.put_lines.Goals.{After-first_line-cut, After-stay_of-s, Start}

begun : (s : Start) → Opened s.args.strict s.args.text.now
begun s = opened s.args.strict s.args.text.now s.requires.text_value s.requires.reads_by

-- the line of a step
turned : (c : After-first_line-cut) → (let a = c.args in Turn a.strict a.text.now c.loop-at.at c.first_line-cut.result)
turned c =
    let a = c.args in
    turn a.strict a.text.now c.loop-at.at (omega arith) c.loop-at.invariant.2 c.first_line-cut.result c.first_line-cut.ensures

-- its bytes, the line, and its kind
abbrev bytes_of : (c : After-first_line-cut) → List ℕ
bytes_of c = lent c.args.text.now c.loop-at.at c.first_line-cut.result.len

abbrev line_of : (c : After-first_line-cut) → Line
line_of c = line c.args.strict (record { at = c.loop-at.at; bytes = bytes_of c })

abbrev kind_at : (c : After-first_line-cut) → Kind
kind_at c = kind_by (get_or (bytes_of c) 1 0)

-- the records after it
abbrev rest_of : (c : After-first_line-cut) → List Record
rest_of c = let a = c.args in records_from a.strict a.text.now (c.loop-at.at + c.first_line-cut.result.next)

-- the programs with a mark
abbrev p-of : (c : After-first_line-cut) → ℕ → Bool
p-of c = is_marked c.args.marks.now

-- to which kind its text goes
goes : (c : After-first_line-cut) (k : Kind) → kind_text k (line_of c) ≡ only (kind_at c) (line_text (line_of c)) k
goes c = line-kind c.args.strict c.loop-at.at (bytes_of c) (turned c).read

-- whether it stays
steps : (c : After-stay_of-s) → (c.stay_of-s.result ≡ stay_by (is-pg (line_of (goal.at.After-stay_of-s c).After-first_line-cut)) c.args.marks.now c.loop-at.k)
steps c =
    let a = c.args in
    c.stay_of-s.ensures ∙ ap (λ b. stay_by b a.marks.now c.loop-at.k) (sym (line-pg a.strict c.loop-at.at (bytes_of (goal.at.After-stay_of-s c).After-first_line-cut) (turned (goal.at.After-stay_of-s c).After-first_line-cut).read))

-- what is still to be written is apart, seen from this line
apart : (f : After-first_line-cut) → (Apart (parts f.loop-at.next (sifted (p-of f) f.loop-at.k (with_record (line_of f) (rest_of f)))) (length f.loop-at.out))
apart f = subst (λ rs. Apart (parts f.loop-at.next (sifted (p-of f) f.loop-at.k rs)) (length f.loop-at.out)) (turned f).records f.loop-at.invariant.3

pub loop-at-init : goal.loop-at-init
loop-at-init c =
    let a = c.args in
    let o = begun (goal.at.loop-at-init c).Start in
    let p = is_marked a.marks.now in (
      omega arith,
      omega arith,
      o.lines,
      subst (λ rs. Apart (parts a.places (sifted p 0 rs)) (length a.out.now)) (sym o.records) c.requires.apart,
      ap (λ rs. with_parts a.out.now (parts a.places (sifted p 0 rs))) o.records,
      refl,
    )

pub slice_bounds-first_line-count : goal.slice_bounds-first_line-count
slice_bounds-first_line-count c = omega arith

pub slice_bounds-first_line-start : goal.slice_bounds-first_line-start
slice_bounds-first_line-start c = omega arith

pub slice_bounds-first_line-end : goal.slice_bounds-first_line-end
slice_bounds-first_line-end c = omega arith

pub overflow_add-at : goal.overflow_add-at
overflow_add-at c = omega (arith, turned (goal.at.overflow_add-at c).After-first_line-cut)

pub slice_bounds-stay_of-count : goal.slice_bounds-stay_of-count
slice_bounds-stay_of-count c = omega arith

pub slice_bounds-stay_of-start : goal.slice_bounds-stay_of-start
slice_bounds-stay_of-start c = omega arith

pub slice_bounds-stay_of-end : goal.slice_bounds-stay_of-end
slice_bounds-stay_of-end c = omega (arith, turned (goal.at.slice_bounds-stay_of-end c).After-first_line-cut)

pub stay_of-s-requires : goal.stay_of-s-requires
stay_of-s-requires c = record {
  in_bounds = three c.args.strict c.loop-at.at (bytes_of (goal.at.stay_of-s-requires c).After-first_line-cut) (turned (goal.at.stay_of-s-requires c).After-first_line-cut).read;
  k_bound = omega (arith, c.loop-at.invariant.1, c.loop-at.invariant.0, (begun (goal.at.stay_of-s-requires c).Start).fits);
}

pub overflow_add-at-in-loop-at : goal.overflow_add-at-in-loop-at
overflow_add-at-in-loop-at c = omega (arith, turned (goal.at.overflow_add-at-in-loop-at c).After-first_line-cut)

pub slice_bounds-put_at_kind_if-count : goal.slice_bounds-put_at_kind_if-count
slice_bounds-put_at_kind_if-count c = omega arith

pub slice_bounds-put_at_kind_if-start : goal.slice_bounds-put_at_kind_if-start
slice_bounds-put_at_kind_if-start c = omega arith

pub slice_bounds-put_at_kind_if-end : goal.slice_bounds-put_at_kind_if-end
slice_bounds-put_at_kind_if-end c = omega (arith, turned (goal.at.slice_bounds-put_at_kind_if-end c).After-first_line-cut)

pub put_at_kind_if-next-requires : goal.put_at_kind_if-next-requires
put_at_kind_if-next-requires c =
    let a = c.args in
    let t = turned (goal.at.put_at_kind_if-next-requires c).After-first_line-cut in record {
      src_value = t.read;
      src_bound = omega (arith, t.size, t.inside, (begun (goal.at.put_at_kind_if-next-requires c).Start).fits);
      src_in_bounds = stay-room a.marks.now c.loop-at.k (kind_at (goal.at.put_at_kind_if-next-requires c).After-first_line-cut) (line_of (goal.at.put_at_kind_if-next-requires c).After-first_line-cut) (rest_of (goal.at.put_at_kind_if-next-requires c).After-first_line-cut) t.read (goes (goal.at.put_at_kind_if-next-requires c).After-first_line-cut) c.stay_of-s.result (steps (goal.at.put_at_kind_if-next-requires c).After-stay_of-s) c.loop-at.out (length c.loop-at.out) c.loop-at.next (omega arith) (apart (goal.at.put_at_kind_if-next-requires c).After-first_line-cut);
    }

pub overflow_add-at-in-loop-at-2 : goal.overflow_add-at-in-loop-at-2
overflow_add-at-in-loop-at-2 c = omega (arith, (turned (goal.at.overflow_add-at-in-loop-at-2 c).After-first_line-cut).within, (begun (goal.at.overflow_add-at-in-loop-at-2 c).Start).fits)

pub loop-at-smaller : goal.loop-at-smaller
loop-at-smaller c = omega (arith, turned (goal.at.loop-at-smaller c).After-first_line-cut)

pub loop-at-preserved : goal.loop-at-preserved
loop-at-preserved c =
    let a = c.args in
    let t = turned (goal.at.loop-at-preserved c).After-first_line-cut in
    let rs = sifted (p-of (goal.at.loop-at-preserved c).After-first_line-cut) c.stay_of-s.result.next (rest_of (goal.at.loop-at-preserved c).After-first_line-cut) in (
      t.within,
      omega (arith, c.loop-at.invariant.1, t.onward, next_le a.marks.now c.loop-at.k _ c.stay_of-s.result c.stay_of-s.ensures),
      t.rest,
      subst (λ p. Apart (parts p rs) (length c.put_at_kind_if-next.new.out)) (sym c.put_at_kind_if-next.ensures.next) (subst (Apart _) (sym c.put_at_kind_if-next.auto.out)
          (stay-apart a.marks.now c.loop-at.k (kind_at (goal.at.loop-at-preserved c).After-first_line-cut) (line_of (goal.at.loop-at-preserved c).After-first_line-cut) (rest_of (goal.at.loop-at-preserved c).After-first_line-cut) t.read (goes (goal.at.loop-at-preserved c).After-first_line-cut) c.stay_of-s.result (steps (goal.at.loop-at-preserved c).After-stay_of-s) c.loop-at.out (length c.loop-at.out) c.loop-at.next (omega arith) (apart (goal.at.loop-at-preserved c).After-first_line-cut))),
      ap₂ (λ o p. with_parts o (parts p rs)) c.put_at_kind_if-next.ensures.wrote c.put_at_kind_if-next.ensures.next
          ∙ stay-same a.marks.now c.loop-at.k (kind_at (goal.at.loop-at-preserved c).After-first_line-cut) (line_of (goal.at.loop-at-preserved c).After-first_line-cut) (rest_of (goal.at.loop-at-preserved c).After-first_line-cut) t.read (goes (goal.at.loop-at-preserved c).After-first_line-cut) c.stay_of-s.result (steps (goal.at.loop-at-preserved c).After-stay_of-s) c.loop-at.out (length c.loop-at.out) c.loop-at.next (omega arith) (apart (goal.at.loop-at-preserved c).After-first_line-cut)
          ∙ ap (λ rs. with_parts c.loop-at.out (parts c.loop-at.next (sifted (p-of (goal.at.loop-at-preserved c).After-first_line-cut) c.loop-at.k rs))) (sym t.records)
          ∙ c.loop-at.invariant.4,
      c.put_at_kind_if-next.auto.out ∙ c.loop-at.invariant.5,
    )

pub shape_of-out : goal.shape_of-out
shape_of-out c = c.loop-at.invariant.5

pub returns : goal.returns
returns c =
    let a = c.args in
    let p = is_marked a.marks.now in
    sym (placed-none c.loop-at.out c.loop-at.next)
    ∙ ap (λ rs. with_parts c.loop-at.out (parts c.loop-at.next rs)) (sym (ap (sifted p c.loop-at.k) (ended a.strict a.text.now c.loop-at.at c.loop-at-test.false) ∙ sifted-none p c.loop-at.k))
    ∙ c.loop-at.invariant.4
