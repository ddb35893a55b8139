-- `prune::prune` meets its contract: reading, 21, 25, 22, 23, and then the text with the programs that are marked.
use Prim.Native.Nat.{ℕ, ◌≤◌}
use mathlib.Core.Path.{◌≡◌, sym, ap, ◌∙◌}
use mathlib.Core.Bool.{true, false, not}
use mathlib.Core.List.{List}
use lib.ListN.{length, take}
use lib.Dec.{leb}
use native.Mathlib.Omega.{arith}
use Rattle.std.proofs.lemmas.Result.{err_from_is_err_and}
use Rattle.format.specs.Bytes.{any}
use Rattle.format.specs.Programs.{Program, Link, programs, links, is_dangling, loops_from, tangled}
use Rattle.accepted.specs.Read.{records_of}
use Rattle.program_chains.specs.Parents.{links_of}
use Rattle.program_parents.specs.Parents.{parents_of}
use Rattle.program_parents.proofs.Road.{tangled-dangling, tangled-loops, lent-count, lent-inside, lent-few, lent-within, lent-links}
use Rattle.program_parents.proofs.Opened.{Opened, opened}
use Rattle.read.specs.Answers.{answer_of, output_of}
use Rattle.read.proofs.AnswerCases.{refused-answer}
use Rattle.read.proofs.Fresh.{Current, text-refused-by, text-fresh-by, rule-by}
use Rattle.format.specs.Prune.{pruning}
use Rattle.program_depths.proofs.Noting.{cycle-is}
use Rattle.prune_marks.specs.Marks.{needed_marks}
use Rattle.tidy.specs.Written.{writing_marked}
use Rattle.prune.proofs.Pruning.{prune-refused, prune-high, prune-tangled, prune-on}
use Rattle.prune.proofs.prune.Goals as goal
use Rattle.prune.proofs.prune.Goals.{After-has_high-high, After-parents_of-found, Else-found, Else-high, In_ok-once}

-- the catalogue is the text's own
own : (c : In_ok-once) → let a = c.args in Current a.text.now a.catalogue.now
own c = let a = c.args in text-fresh-by a.text.now a.catalogue.now c.check_text.ensures c.in_ok-once.once c.in_ok-once.was

opens : (c : In_ok-once) → let a = c.args in Opened a.text.now a.catalogue.now
opens c = let a = c.args in opened a.text.now a.catalogue.now (own c).reads (own c).own

-- ---- the parents

abbrev ps : After-parents_of-found → List Program
ps f = programs (records_of f.args.text.now)

abbrev ls : After-parents_of-found → List Link
ls f = links (ps f)

few : (f : After-parents_of-found) → length (ps f) ≤ 1024
few f = (opens (goal.at.After-parents_of-found f).In_ok-once).few

dangles : (f : After-parents_of-found) → any is_dangling (ls f) ≡ f.parents_of-found.result.dangling
unfolding parents_of
dangles f = sym (ap (λ q. q.dangling) f.parents_of-found.ensures)

counts : (f : After-parents_of-found) → f.parents_of-found.result.count ≡ length (ls f)
unfolding parents_of
counts f = ap (λ q. q.count) f.parents_of-found.ensures

-- is some ordinal too high?
high : (h : After-has_high-high) → any (leb (length (ls (goal.at.After-has_high-high h).After-parents_of-found))) h.args.used.now ≡ h.has_high-high.result
high h = sym (h.has_high-high.ensures ∙ ap (λ n. any (leb n) h.args.used.now) (counts (goal.at.After-has_high-high h).After-parents_of-found))

low : (e : Else-high) → any (leb (length (ls (goal.at.Else-high e).After-parents_of-found))) e.args.used.now ≡ false
low e = high (goal.at.Else-high e).After-has_high-high ∙ e.if-high.false

abbrev lent : (e : Else-found) → List ℕ
lent e = take e.parents_of-found.result.count e.parents_of-found.result.list

linked : (e : Else-found) → any is_dangling (ls (goal.at.Else-found e).After-parents_of-found) ≡ false
linked e = dangles (goal.at.Else-found e).After-parents_of-found ∙ e.if-found.false

says : (e : Else-found) → links_of (lent e) ≡ ls (goal.at.Else-found e).After-parents_of-found
says e = lent-links (ps (goal.at.Else-found e).After-parents_of-found) (few (goal.at.Else-found e).After-parents_of-found) e.parents_of-found.result e.parents_of-found.ensures e.if-found.false

-- is there a cycle?
loops : (e : Else-found) → loops_from (links_of (lent e)) 0 (links_of (lent e)) ≡ loops_from (ls (goal.at.Else-found e).After-parents_of-found) 0 (ls (goal.at.Else-found e).After-parents_of-found)
loops e = ap (λ l. loops_from l 0 l) (says e)

pub parents_of-found-requires : goal.parents_of-found-requires
parents_of-found-requires c = record {
  text_value = (opens c).accepted;
  catalogue_value = (own c).own;
}

pub returns-then-high : goal.returns-then-high
returns-then-high c =
    let a = c.args in
    let room = length a.out.now in
    let told = refused-answer (pruning a.text.now a.catalogue.now a.used.now room) a.out.now (record { number = 25; line = record { 0 = 0 } })
    (prune-high a.text.now a.catalogue.now a.used.now room (own (goal.at.returns-then-high c).In_ok-once) (high (goal.at.returns-then-high c).After-has_high-high ∙ c.if-high.true)) in
    record { answer = rw c.of_text.ensures told.0; wrote = told.1 }

pub returns-then-found : goal.returns-then-found
returns-then-found c =
    let a = c.args in
    let room = length a.out.now in
    let told = refused-answer (pruning a.text.now a.catalogue.now a.used.now room) a.out.now (record { number = 22; line = record { 0 = 0 } })
    (prune-tangled a.text.now a.catalogue.now a.used.now room (own (goal.at.returns-then-found c).In_ok-once) (low (goal.at.returns-then-found c).Else-high) 22 (sym (tangled-dangling (ls (goal.at.returns-then-found c).After-parents_of-found) (dangles (goal.at.returns-then-found c).After-parents_of-found ∙ c.if-found.true))) (λ q. omega arith)) in
    record { answer = rw c.of_text-then-found.ensures told.0; wrote = told.1 }

pub slice_bounds-list-end : goal.slice_bounds-list-end
slice_bounds-list-end c =
    lent-inside (ps (goal.at.slice_bounds-list-end c).After-parents_of-found) (few (goal.at.slice_bounds-list-end c).After-parents_of-found) c.parents_of-found.result c.parents_of-found.ensures

pub slice_bounds-links-end : goal.slice_bounds-links-end
slice_bounds-links-end c =
    lent-count (ps (goal.at.slice_bounds-links-end c).After-parents_of-found) (few (goal.at.slice_bounds-links-end c).After-parents_of-found) c.parents_of-found.result c.parents_of-found.ensures

pub find_depths-requires : goal.find_depths-requires
find_depths-requires c =
    let q = c.parents_of-found.result in
    let is = c.parents_of-found.ensures in record {
      parents_value = lent-within (ps (goal.at.find_depths-requires c).After-parents_of-found) (few (goal.at.find_depths-requires c).After-parents_of-found) q is c.if-found.false;
      parents_len_bound = lent-few (ps (goal.at.find_depths-requires c).After-parents_of-found) (few (goal.at.find_depths-requires c).After-parents_of-found) q is;
    }

pub returns-then-is_none : goal.returns-then-is_none
returns-then-is_none c =
    let a = c.args in
    let room = length a.out.now in
    let told = refused-answer (pruning a.text.now a.catalogue.now a.used.now room) a.out.now (record { number = 23; line = record { 0 = 0 } })
    (prune-tangled a.text.now a.catalogue.now a.used.now room (own (goal.at.returns-then-is_none c).In_ok-once) (low (goal.at.returns-then-is_none c).Else-high) 23
    (sym (tangled-loops (ls (goal.at.returns-then-is_none c).After-parents_of-found) true (linked (goal.at.returns-then-is_none c).Else-found) (sym (loops (goal.at.returns-then-is_none c).Else-found) ∙ sym (cycle-is _ _ c.find_depths.ensures) ∙ ap not (c.is_none.ensures ∙ ap not c.if-is_none.true)))) (λ q. omega arith)) in
    record { answer = rw c.of_text-then-is_none.ensures told.0; wrote = told.1 }

pub mark_needed-marks-requires : goal.mark_needed-marks-requires
mark_needed-marks-requires c =
    let q = c.parents_of-found.result in
    let is = c.parents_of-found.ensures in record {
      parents_value = lent-within (ps (goal.at.mark_needed-marks-requires c).After-parents_of-found) (few (goal.at.mark_needed-marks-requires c).After-parents_of-found) q is c.if-found.false;
      parents_value_2 = sym (cycle-is _ _ c.find_depths.ensures) ∙ ap not (c.is_none.ensures ∙ ap not c.if-is_none.false);
      parents_len_bound = lent-few (ps (goal.at.mark_needed-marks-requires c).After-parents_of-found) (few (goal.at.mark_needed-marks-requires c).After-parents_of-found) q is;
      used_value = ap (λ n. any (leb n) c.args.used.now) (sym (lent-count (ps (goal.at.mark_needed-marks-requires c).After-parents_of-found) (few (goal.at.mark_needed-marks-requires c).After-parents_of-found) q is) ∙ counts (goal.at.mark_needed-marks-requires c).After-parents_of-found) ∙ low (goal.at.mark_needed-marks-requires c).Else-high;
    }

pub write_marked-requires : goal.write_marked-requires
write_marked-requires c =
    let a = c.args in record {
      text_value = (opens (goal.at.write_marked-requires c).In_ok-once).accepted;
      reads_by = rule-by a.text.now a.catalogue.now c.check_text.ensures c.in_ok-once.once c.in_ok-once.was;
    }

pub returns-in_err-once : goal.returns-in_err-once
returns-in_err-once c =
    let a = c.args in
    let room = length a.out.now in
    let r = c.in_err-once.field-0.0 in
    let p = err_from_is_err_and c.from_residual.result c.from_residual.ensures.1 in
    let told = refused-answer (pruning a.text.now a.catalogue.now a.used.now room) a.out.now r
    (prune-refused a.text.now a.catalogue.now a.used.now room r.number r.line.0 (text-refused-by a.text.now a.catalogue.now c.check_text.ensures r c.in_err-once.was)) in
    record { answer = rw (p.1, p.2) told.0; wrote = told.1 }

pub returns : goal.returns
returns c =
    let a = c.args in
    let room = length a.out.now in
    let marks = c.mark_needed-marks.result in
    let whole : tangled (ls (goal.at.returns c).After-parents_of-found) ≡ 0 = tangled-loops (ls (goal.at.returns c).After-parents_of-found) false (linked (goal.at.returns c).Else-found) (sym (loops (goal.at.returns c).Else-found) ∙ sym (cycle-is _ _ c.find_depths.ensures) ∙ ap not (c.is_none.ensures ∙ ap not c.if-is_none.false)) in
    let on : writing_marked a.text.now marks room ≡ pruning a.text.now a.catalogue.now a.used.now room =
    sym (prune-on a.text.now a.catalogue.now a.used.now room (own (goal.at.returns c).In_ok-once) (low (goal.at.returns c).Else-high) whole (few (goal.at.returns c).After-parents_of-found) marks (c.mark_needed-marks.ensures ∙ ap (λ l. needed_marks l a.used.now) (says (goal.at.returns c).Else-found))) in record {
      answer = c.write_marked.ensures.answer ∙ ap answer_of on;
      wrote = c.write_marked.ensures.wrote ∙ ap (λ x. output_of x a.out.now) on;
    }
