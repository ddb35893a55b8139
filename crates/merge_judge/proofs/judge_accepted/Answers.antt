-- `merge_judge::judge_accepted` meets its contract: the first text that is tangled is the verdict.
use mathlib.Core.Path.{sym, ap, ◌∙◌}
use Rattle.accepted.specs.Read.{records_of}
use Rattle.format.specs.Merge.{about, text_a, text_b, text_merged, untangled_records, judged_merge}
use Rattle.merge_judge.specs.Judged.{which_of, verdict_of, untangling}
use Rattle.merge_judge.proofs.Steps.{tangles, flows}
use Rattle.merge_judge.proofs.judge_accepted.Goals as goal

pub returns-in-Err : goal.returns-in-Err
unfolding verdict_of which_of untangling
returns-in-Err c =
    let a = c.args in
    rw c.of_text.ensures (sym (ap verdict_of (tangles text_a (λ x. about text_b (untangled_records (records_of a.b.now)) (λ y. about text_merged (untangled_records (records_of a.m.now)) (λ z. judged_merge x y z a.list_a.now a.list_b.now))) (records_of a.a.now) c.open_text-of_a.result.tangle c.open_text-of_a.ensures.refusal c.in-Err.number c.in-Err.is)))

pub returns-in-Err-tangle : goal.returns-in-Err-tangle
unfolding verdict_of which_of untangling
returns-in-Err-tangle c =
    let a = c.args in
    rw c.of_text-in-Err-tangle.ensures (sym (ap verdict_of (flows text_a (λ x. about text_b (untangled_records (records_of a.b.now)) (λ y. about text_merged (untangled_records (records_of a.m.now)) (λ z. judged_merge x y z a.list_a.now a.list_b.now))) (records_of a.a.now) c.open_text-of_a.result.tangle c.open_text-of_a.ensures.refusal c.in_default.not-Err
    ∙ tangles text_b (λ y. about text_merged (untangled_records (records_of a.m.now)) (λ z. judged_merge (records_of a.a.now) y z a.list_a.now a.list_b.now)) (records_of a.b.now) c.open_text-of_b.result.tangle c.open_text-of_b.ensures.refusal c.in-Err-tangle.number c.in-Err-tangle.is)))

pub open_text-of_m-requires : goal.open_text-of_m-requires
open_text-of_m-requires c = record {
  text_value = c.requires.m_value;
  reads_by = c.requires.reads_by_3;
}

pub returns-in-Err-tangle-2 : goal.returns-in-Err-tangle-2
unfolding verdict_of which_of untangling
returns-in-Err-tangle-2 c =
    let a = c.args in
    rw c.of_text-in-Err-tangle-2.ensures (sym (ap verdict_of (flows text_a (λ x. about text_b (untangled_records (records_of a.b.now)) (λ y. about text_merged (untangled_records (records_of a.m.now)) (λ z. judged_merge x y z a.list_a.now a.list_b.now))) (records_of a.a.now) c.open_text-of_a.result.tangle c.open_text-of_a.ensures.refusal c.in_default.not-Err
    ∙ flows text_b (λ y. about text_merged (untangled_records (records_of a.m.now)) (λ z. judged_merge (records_of a.a.now) y z a.list_a.now a.list_b.now)) (records_of a.b.now) c.open_text-of_b.result.tangle c.open_text-of_b.ensures.refusal c.in_default-tangle.not-Err
    ∙ tangles text_merged (λ z. judged_merge (records_of a.a.now) (records_of a.b.now) z a.list_a.now a.list_b.now) (records_of a.m.now) c.open_text-of_m.result.tangle c.open_text-of_m.ensures.refusal c.in-Err-tangle-2.number c.in-Err-tangle-2.is)))

pub returns : goal.returns
unfolding untangling
returns c =
    let a = c.args in
    c.judge_untangled.ensures
    ∙ sym (ap verdict_of (flows text_a (λ x. about text_b (untangled_records (records_of a.b.now)) (λ y. about text_merged (untangled_records (records_of a.m.now)) (λ z. judged_merge x y z a.list_a.now a.list_b.now))) (records_of a.a.now) c.open_text-of_a.result.tangle c.open_text-of_a.ensures.refusal c.in_default.not-Err
    ∙ flows text_b (λ y. about text_merged (untangled_records (records_of a.m.now)) (λ z. judged_merge (records_of a.a.now) y z a.list_a.now a.list_b.now)) (records_of a.b.now) c.open_text-of_b.result.tangle c.open_text-of_b.ensures.refusal c.in_default-tangle.not-Err
    ∙ flows text_merged (λ z. judged_merge (records_of a.a.now) (records_of a.b.now) z a.list_a.now a.list_b.now) (records_of a.m.now) c.open_text-of_m.result.tangle c.open_text-of_m.ensures.refusal c.in_default-tangle-2.not-Err))
