-- `merge_judge::judge_second` meets its contract: B is judged, and then what follows.
use mathlib.Core.Path.{◌≡◌, sym, ap, ◌∙◌}
use mathlib.Core.Bool.{true}
use Rattle.format.specs.Reading.{read_text}
use Rattle.accepted.specs.Read.{is_accepted, records_of}
use Rattle.read_judge.proofs.Whole.{Told, text-refused, text-accepted}
use Rattle.format.specs.Merge.{text_b}
use Rattle.merge_judge.specs.Judged.{which_of, verdict_of, after_second, after_first}
use Rattle.merge_judge.proofs.Steps.{unread, read}
use Rattle.merge_judge.proofs.judge_second.Goals as goal
use Rattle.merge_judge.proofs.judge_second.Goals.{In-Ok}

-- the text is accepted
told : (c : In-Ok) → Told c.args.b.now c.in-Ok.accepted
told c =
    text-accepted c.args.b.now c.in-Ok.accepted (sym c.judge.ensures ∙ c.in-Ok.is)

accepted : (c : In-Ok) → is_accepted (read_text c.args.b.now) ≡ true
unfolding is_accepted
accepted c = ap is_accepted (told c).reads

pub judge_merged-requires : goal.judge_merged-requires
judge_merged-requires c = record {
  a_value = c.requires.a_value;
  b_value = accepted c;
  reads_by = c.requires.reads_by;
  reads_by_2 = (told c).rule;
}

pub returns-in-Err : goal.returns-in-Err
unfolding verdict_of which_of after_first
returns-in-Err c =
    let a = c.args in
    sym (ap verdict_of (unread text_b (λ b. after_second (records_of a.a.now) b a.m.now a.list_a.now a.list_b.now) a.b.now c.in-Err.refusal.number c.in-Err.refusal.line.0 (text-refused a.b.now c.in-Err.refusal (sym c.judge.ensures ∙ c.in-Err.is))))

pub returns-in-Ok : goal.returns-in-Ok
unfolding after_first
returns-in-Ok c =
    let a = c.args in
    c.judge_merged.ensures ∙ sym (ap verdict_of (read text_b (λ b. after_second (records_of a.a.now) b a.m.now a.list_a.now a.list_b.now) a.b.now (accepted (goal.at.returns-in-Ok c).In-Ok)))
