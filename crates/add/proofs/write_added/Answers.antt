-- `add::write_added` meets its contract: what was measured is written, or its refusal is the answer.
use Prim.Native.Nat.{ℕ, ◌≤◌}
use mathlib.Core.Path.{◌≡◌, sym, ap, subst, ◌∙◌}
use mathlib.Core.List.{List}
use native.Mathlib.Omega.{arith}
use lib.ListN.{length}
use Rattle.std.proofs.lemmas.Result.{err_from_is_err_and}
use Rattle.format.specs.Records.{Record}
use Rattle.format.specs.Tidy.{unwritable}
use Rattle.format.specs.Calls.{writing, yes}
use Rattle.accepted.specs.Read.{records_of}
use Rattle.accepted_rule.specs.Rule.{ReadsBy}
use Rattle.byte_slices.specs.Over.{over}
use Rattle.read.proofs.AnswerCases.{refused-answer, written-answer}
use Rattle.tidy_text.specs.Sizes.{sizes_of}
use Rattle.add_lines.specs.Lines.{new_text}
use Rattle.add.specs.Added.{with_added}
use Rattle.add.specs.declared.Plan.{Plan}
use Rattle.add.proofs.Sizes.{with_size}
use Rattle.add.proofs.Measured.{planned-refused, planned-is}
use Rattle.add.proofs.write_added.Goals as goal
use Rattle.add.proofs.write_added.Goals.{In_ok-plan, Start}

-- the records of the text, what is added, and the whole
abbrev records : Start → List Record
records s = records_of s.args.text.now

abbrev new_by : Start → Plan → List ℕ
new_by s p = let a = s.args in new_text a.text.now a.ids.now p.ways.shape a.prefix.now a.fields.now a.leaves.now

abbrev new : Start → List ℕ
new s = let a = s.args in new_text a.text.now a.ids.now a.ways.shape a.prefix.now a.fields.now a.leaves.now

abbrev whole : Start → List ℕ
whole s = with_added (records s) (new s)

-- what is measured
abbrev sound : Start → Plan
sound s = record { ways = s.args.ways; sizes = sizes_of (records s); more = length (new s) }

-- its name can be written, and it fits
fits : (p : In_ok-plan)
    → (sound (goal.at.In_ok-plan p).Start ≡ p.in_ok-plan.plan) × (writing (length p.args.out.now) (unwritable 0 (records (goal.at.In_ok-plan p).Start)) (whole (goal.at.In_ok-plan p).Start) ≡ yes (whole (goal.at.In_ok-plan p).Start)) × (length (whole (goal.at.In_ok-plan p).Start) ≤ 16777216)
    × (length (whole (goal.at.In_ok-plan p).Start) ≤ length p.args.out.now)
fits p =
    planned-is (sound (goal.at.In_ok-plan p).Start) p.in_ok-plan.plan (length p.args.out.now) (unwritable 0 (records (goal.at.In_ok-plan p).Start)) (whole (goal.at.In_ok-plan p).Start) (sym p.measure_all.ensures ∙ p.in_ok-plan.was)

pub put_grown_text-n-requires : goal.put_grown_text-n-requires
put_grown_text-n-requires c =
    let f = fits (goal.at.put_grown_text-n-requires c).In_ok-plan in
    let e = sym f.0 in
    let more = ap (λ q. q.more) e in record {
      text_value = c.requires.text_value;
      reads_by = subst (λ q. ReadsBy q.ways.strict c.args.text.now) f.0 c.requires.reads_by;
      sizes_value = ap (λ q. q.sizes) e;
      more_value = (more ∙ ap (λ q. length (new_by (goal.at.put_grown_text-n-requires c).Start q)) f.0, omega (arith, more, with_size (records (goal.at.put_grown_text-n-requires c).Start) (new (goal.at.put_grown_text-n-requires c).Start), f.2));
      ids_in_text = c.requires.ids_in_text;
      leaves_in_bounds = omega (arith, f.3, ap (λ q. length (with_added (records (goal.at.put_grown_text-n-requires c).Start) (new_by (goal.at.put_grown_text-n-requires c).Start q))) e);
    }

pub returns-in_err-plan : goal.returns-in_err-plan
returns-in_err-plan c =
    let s = (goal.at.returns-in_err-plan c).Start in
    let r = c.in_err-plan.field-0.0 in
    let w = writing (length c.args.out.now) (unwritable 0 (records s)) (whole s) in
    let p = err_from_is_err_and c.from_residual.result c.from_residual.ensures.1 in
    let told = refused-answer w c.args.out.now r (planned-refused (sound s) w r (sym c.measure_all.ensures ∙ c.in_err-plan.was)) in
    record { answer = rw (p.1, p.2) told.0; wrote = told.1 }

pub returns : goal.returns
returns c =
    let f = fits (goal.at.returns c).In_ok-plan in
    let e = sym f.0 in
    let told = written-answer (writing (length c.args.out.now) (unwritable 0 (records (goal.at.returns c).Start)) (whole (goal.at.returns c).Start)) c.args.out.now (whole (goal.at.returns c).Start) c.put_grown_text-n.new.out
    c.put_grown_text-n.result f.1 (c.put_grown_text-n.ensures.next ∙ ap (λ q. length (with_added (records (goal.at.returns c).Start) (new_by (goal.at.returns c).Start q))) e)
    (c.put_grown_text-n.ensures.wrote ∙ ap (λ q. over c.args.out.now 0 (with_added (records (goal.at.returns c).Start) (new_by (goal.at.returns c).Start q))) e) in
    record { answer = told.0; wrote = told.1 }
