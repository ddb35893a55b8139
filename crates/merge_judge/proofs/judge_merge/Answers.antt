-- `merge_judge::judge_merge` meets its contract: A is judged, and then what follows.
use mathlib.Core.Path.{◌≡◌, sym, ap, ◌∙◌}
use mathlib.Core.Bool.{true}
use Rattle.format.specs.Reading.{read_text}
use Rattle.accepted.specs.Read.{is_accepted}
use Rattle.read_judge.proofs.Whole.{Told, text-refused, text-accepted}
use Rattle.format.specs.Merge.{text_a, judging_merge}
use Rattle.merge_judge.specs.Judged.{which_of, verdict_of, untangling, after_second, after_first}
use Rattle.merge_judge.proofs.Steps.{unread, read}
use Rattle.merge_judge.proofs.judge_merge.Goals as goal
use Rattle.merge_judge.proofs.judge_merge.Goals.{In-Ok}

-- the text is accepted
told : (c : In-Ok) → Told c.args.a.now c.in-Ok.accepted
told c =
    text-accepted c.args.a.now c.in-Ok.accepted (sym c.judge.ensures ∙ c.in-Ok.is)

accepted : (c : In-Ok) → is_accepted (read_text c.args.a.now) ≡ true
unfolding is_accepted
accepted c = ap is_accepted (told c).reads

pub judge_second-requires : goal.judge_second-requires
judge_second-requires c = record {
  a_value = accepted c;
  reads_by = (told c).rule;
}

pub returns-in-Err : goal.returns-in-Err
unfolding verdict_of which_of judging_merge after_first after_second untangling
returns-in-Err c =
    let a = c.args in
    sym (ap verdict_of (unread text_a (λ x. after_first x a.b.now a.m.now a.list_a.now a.list_b.now) a.a.now c.in-Err.refusal.number c.in-Err.refusal.line.0 (text-refused a.a.now c.in-Err.refusal (sym c.judge.ensures ∙ c.in-Err.is))))

pub returns-in-Ok : goal.returns-in-Ok
unfolding judging_merge after_first after_second untangling
returns-in-Ok c =
    let a = c.args in
    c.judge_second.ensures ∙ sym (ap verdict_of (read text_a (λ x. after_first x a.b.now a.m.now a.list_a.now a.list_b.now) a.a.now (accepted (goal.at.returns-in-Ok c).In-Ok)))
