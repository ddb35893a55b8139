-- `carry_on::carry_on_with` meets its contract: by what reading says of the text; the area is all zeros after that, and stays so.
use mathlib.Core.Path.{sym, ap, ◌∙◌}
use lib.ListN.{replicate}
use Rattle.format.specs.Work.{all_zeros}
use Rattle.accepted.specs.Read.{is_accepted}
use Rattle.read_judge.proofs.Whole.{text-accepted}
use Rattle.carry_on.proofs.AnswerCases.{zeros-long}
use Rattle.carry_on.proofs.carry_on_with.Goals as goal

pub carry_accepted-requires : goal.carry_accepted-requires
unfolding is_accepted
carry_accepted-requires c =
    let told = text-accepted c.args.text.now c.in-Ok.accepted (sym c.judge_with.ensures.judged ∙ c.in-Ok.is) in record {
      text_value = ap is_accepted told.reads;
      reads_by = told.rule;
    }

pub returns-in-Err : goal.returns-in-Err
unfolding all_zeros
returns-in-Err c =
    let e = c.carry_refused_with.ensures in record {
      answer = e.answer;
      wrote = e.wrote;
      listed = e.listed;
      zeros = e.zeros ∙ ap (λ n. replicate n 0) (zeros-long c.judge_with.new.area c.args.work.now c.judge_with.ensures.zeros);
    }

pub returns-in-Ok : goal.returns-in-Ok
returns-in-Ok c =
    let e = c.carry_accepted.ensures in record {
      answer = e.answer;
      wrote = e.wrote;
      listed = e.listed;
      zeros = c.judge_with.ensures.zeros;
    }
