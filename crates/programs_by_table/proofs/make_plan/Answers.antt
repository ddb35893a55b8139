-- `programs_by_table::make_plan` meets its contract: reading, 21, 22, 23, 20 for the table or the output, then the leaves, the hops and the table's records.
use Prim.Native.Nat.{ℕ, ◌≤◌}
use mathlib.Core.Path.{◌≡◌, refl, sym, ap, ◌∙◌}
use mathlib.Core.List.{List}
use native.Mathlib.Omega.{arith}
use lib.ListN.{length}
use Rattle.std.specs.Prelude.{Result, Ok, Err, ⊤}
use Rattle.format.specs.Programs.{Link, programs, links, leaves}
use Rattle.format.specs.Calls.{fitting, fresh}
use Rattle.format.specs.declared.Refusal.{Refusal}
use Rattle.accepted.specs.Read.{records_of}
use Rattle.program_chains.specs.Parents.{in_array}
use Rattle.program_chains.proofs.Arrays.{front, front-count, front-inside}
use Rattle.program_parents.proofs.Numbers.{links-count}
use Rattle.program_parents.proofs.Opened.{Opened, opened}
use Rattle.read.specs.Answers.{answer_of, output_of, checked_of}
use Rattle.read.proofs.Fresh.{Current, refused-by, fresh-by}
use Rattle.programs_by_table.specs.Plans.{stopped_plan_of, table_plan_of}
use Rattle.format.specs.Table.{leafing_table}
use Rattle.programs_by_table.proofs.Tabled.{stopped-says, planned-says, table-refused, table-tangled, table-short, table_fits}
use Rattle.programs_by_table.proofs.make_plan.Goals as goal
use Rattle.programs_by_table.proofs.make_plan.Goals.{Else-seats-found, In_default}

-- a check that does not refuse
passed : (t s : List ℕ) (w : Result ⊤ Refusal) → w ≡ checked_of (fresh t s) → ((r : Refusal) → w ≡ Err r → ⊥) → Current t s
passed t s (Ok tt) said h = fresh-by t s said refl
passed t s (Err r) said h = absurd (h r refl)

abbrev t : (c : In_default) → List ℕ
t c = c.args.text.now

abbrev s : (c : In_default) → List ℕ
s c = c.args.catalogue.now

abbrev room : (c : In_default) → ℕ
room c = length c.args.out.now

abbrev seats : (c : In_default) → ℕ
seats c = c.args.seats

own : (c : In_default) → Current (t c) (s c)
own c = passed (t c) (s c) c.check.result c.check.ensures c.in_default.not-Err

opens : (c : In_default) → Opened (t c) (s c)
opens c = opened (t c) (s c) (own c).reads (own c).own

abbrev ls : (c : In_default) → List Link
ls c = links (programs (records_of (t c)))

few : (c : In_default) → length (ls c) ≤ 1024
few c = omega (arith, (opens c).few, links-count (programs (records_of (t c))))

pub find-found-requires : goal.find-found-requires
find-found-requires c =
    let e = (goal.at.find-found-requires c).In_default in record {
      text_value = (opens e).accepted;
      kept_value = (own e).own;
    }

pub returns-then-found-ne0 : goal.returns-then-found-ne0
returns-then-found-ne0 c =
    let p = (goal.at.returns-then-found-ne0 c).In_default in
    let n = c.find-found.result.refusal in
    let r = stopped-says (leafing_table (t p) (s p) (room p) (seats p)) (record { number = n; line = record { 0 = 0 } }) c.args.out.now
    (table-tangled (t p) (s p) (room p) (seats p) (own p) n c.find-found.ensures.refusal c.if-found-ne0.true) c.stopped-then-found-ne0.result (c.stopped-then-found-ne0.ensures ∙ ap stopped_plan_of c.of_text.ensures) in record {
      plan = r.plan;
      wrote = r.wrote;
    }

pub returns-then-seats-found : goal.returns-then-seats-found
returns-then-seats-found c =
    let p = (goal.at.returns-then-seats-found c).In_default in
    let z = c.if-found-ne0.false in
    let r = stopped-says (leafing_table (t p) (s p) (room p) (seats p)) (record { number = 20; line = record { 0 = 0 } }) c.args.out.now
    (table-short (t p) (s p) (room p) (seats p) (own p) (sym c.find-found.ensures.refusal ∙ z) (omega (arith, c.if-seats-found.true, c.find-found.ensures.count z))) c.stopped-then-seats-found.result (c.stopped-then-seats-found.ensures ∙ ap stopped_plan_of c.of_text-then-seats-found.ensures) in record {
      plan = r.plan;
      wrote = r.wrote;
    }

-- the leaves
abbrev xs : (w : Else-seats-found) → List ℕ
xs w = leaves (ls (goal.at.Else-seats-found w).In_default)

listed : (w : Else-seats-found) → w.find-found.result.leaves.list ≡ in_array (xs w)
listed w = w.find-found.ensures.listed w.if-found-ne0.false

counted : (w : Else-seats-found) → w.find-found.result.leaves.count ≡ length (xs w)
counted w = w.find-found.ensures.counted w.if-found-ne0.false

pub slice_bounds-ordinals-end : goal.slice_bounds-ordinals-end
slice_bounds-ordinals-end c =
    let w = (goal.at.slice_bounds-ordinals-end c).Else-seats-found in
    front-inside (xs w) c.find-found.result.leaves.list c.find-found.result.leaves.count (listed w) (counted w)

pub slice_bounds-put_ordinals-end : goal.slice_bounds-put_ordinals-end
slice_bounds-put_ordinals-end c =
    let w = (goal.at.slice_bounds-put_ordinals-end c).Else-seats-found in
    front-count (xs w) c.find-found.result.leaves.list c.find-found.result.leaves.count (listed w) (counted w)

pub returns-in-Err : goal.returns-in-Err
returns-in-Err c =
    let a = c.args in
    let r = c.in-Err.refusal in
    let q = stopped-says (leafing_table a.text.now a.catalogue.now (length a.out.now) a.seats) r a.out.now
    (table-refused a.text.now a.catalogue.now (length a.out.now) a.seats r.number r.line.0 (refused-by a.text.now a.catalogue.now c.check.ensures r c.in-Err.is)) c.stopped.result c.stopped.ensures in record {
      plan = q.plan;
      wrote = q.wrote;
    }

pub returns : goal.returns
returns c =
    let w = (goal.at.returns c).Else-seats-found in
    let e = (goal.at.returns c).In_default in
    let f = c.find-found in
    let z = c.if-found-ne0.false in
    let out = c.args.out.now in
    let found = front (xs w) f.result.leaves.list f.result.leaves.count (listed w) (counted w) in
    let b = fitting (room e) (xs w) in
    let r = planned-says (ls e) f.result f.ensures z (leafing_table (t e) (s e) (room e) (seats e)) b out c.put_ordinals-written.new.out c.planned.result
    (table_fits (t e) (s e) (room e) (seats e) (own e) (sym f.ensures.refusal ∙ z) (omega (arith, c.if-seats-found.false, f.ensures.count z)))
    (c.put_ordinals-written.ensures.wrote ∙ ap (λ ys. output_of (fitting (room e) ys) out) found)
    (c.planned.ensures ∙ ap (λ x. table_plan_of x f.result) (c.put_ordinals-written.ensures.answer ∙ ap (λ ys. answer_of (fitting (room e) ys)) found)) in record {
      plan = r.plan;
      wrote = r.wrote;
    }
