-- `merge_judge::judge_merged` meets its contract: the merged text is judged, and then what follows.
use mathlib.Core.Path.{◌≡◌, sym, ap, ◌∙◌}
use mathlib.Core.Bool.{true}
use Rattle.format.specs.Reading.{read_text}
use Rattle.accepted.specs.Read.{is_accepted, records_of}
use Rattle.read_judge.proofs.Whole.{Told, text-refused, text-accepted}
use Rattle.format.specs.Merge.{text_merged}
use Rattle.merge_judge.specs.Judged.{which_of, verdict_of, untangling, after_second}
use Rattle.merge_judge.proofs.Steps.{unread, read}
use Rattle.merge_judge.proofs.judge_merged.Goals as goal
use Rattle.merge_judge.proofs.judge_merged.Goals.{In-Ok}

-- the text is accepted
told : (c : In-Ok) → Told c.args.m.now c.in-Ok.accepted
told c =
    text-accepted c.args.m.now c.in-Ok.accepted (sym c.judge.ensures ∙ c.in-Ok.is)

accepted : (c : In-Ok) → is_accepted (read_text c.args.m.now) ≡ true
unfolding is_accepted
accepted c = ap is_accepted (told c).reads

pub judge_accepted-requires : goal.judge_accepted-requires
judge_accepted-requires c = record {
  a_value = c.requires.a_value;
  b_value = c.requires.b_value;
  m_value = accepted c;
  reads_by = c.requires.reads_by;
  reads_by_2 = c.requires.reads_by_2;
  reads_by_3 = (told c).rule;
}

pub returns-in-Err : goal.returns-in-Err
unfolding verdict_of which_of after_second
returns-in-Err c =
    let a = c.args in
    sym (ap verdict_of (unread text_merged (λ m. untangling (records_of a.a.now) (records_of a.b.now) m a.list_a.now a.list_b.now) a.m.now c.in-Err.refusal.number c.in-Err.refusal.line.0 (text-refused a.m.now c.in-Err.refusal (sym c.judge.ensures ∙ c.in-Err.is))))

pub returns-in-Ok : goal.returns-in-Ok
unfolding after_second
returns-in-Ok c =
    let a = c.args in
    c.judge_accepted.ensures ∙ sym (ap verdict_of (read text_merged (λ m. untangling (records_of a.a.now) (records_of a.b.now) m a.list_a.now a.list_b.now) a.m.now (accepted (goal.at.returns-in-Ok c).In-Ok)))
