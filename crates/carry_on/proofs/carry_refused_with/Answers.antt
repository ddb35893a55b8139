-- `carry_on::carry_refused_with` meets its contract: 1 first, then by the area's length; and the area is emptied last.
use mathlib.Core.Path.{ap, ◌∙◌}
use lib.ListN.{length, replicate}
use Rattle.format.specs.Work.{all_zeros}
use Rattle.format.specs.Carrying.{carrying}
use Rattle.carry_on.proofs.AnswerCases.{told-long, refused_all}
use Rattle.carry_on.proofs.carry_refused_with.Goals as goal

pub returns-then-text-gt-LONGEST : goal.returns-then-text-gt-LONGEST
unfolding all_zeros
returns-then-text-gt-LONGEST c =
    let a = c.args in
    let t = c.args.text.now in
    let r = refused_all (carrying t (length a.out.now) (length a.table.now)) a.out.now a.table.now (record { number = 1; line = record { 0 = 0 } }) (told-long t (length a.out.now) (length a.table.now) c.if-text-gt-LONGEST.true) in record {
      answer = rw c.of_text.ensures r.0;
      wrote = r.1.0;
      listed = r.1.1;
      zeros = c.clear.ensures;
    }

pub returns : goal.returns
unfolding all_zeros
returns c =
    let j = c.carry_lent-carried.ensures in record {
      answer = j.answer;
      wrote = j.wrote;
      listed = j.listed;
      zeros = c.clear-2.ensures ∙ ap (λ n. replicate n 0) j.room;
    }
