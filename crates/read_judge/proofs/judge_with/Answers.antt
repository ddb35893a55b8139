-- `read_judge::judge_with` meets its contract: 1 first, then the lines; and the area is emptied last.
use mathlib.Core.Path.{sym, ap, ◌∙◌}
use lib.ListN.{replicate}
use Rattle.format.specs.Work.{all_zeros}
use Rattle.accepted_rule.specs.Rule.{is_once}
use Rattle.read_judge.specs.Judged.{judged_of, judged_by, judgement}
use Rattle.read_judge.proofs.Whole.{too_long, by_lines}
use Rattle.read_judge.proofs.judge_with.Goals as goal

pub returns-then-text-gt-LONGEST : goal.returns-then-text-gt-LONGEST
unfolding judgement judged_of all_zeros
returns-then-text-gt-LONGEST c =
    let t = c.args.text.now in record {
      judged = rw c.of_text.ensures (sym (ap (judged_of (is_once t)) (too_long t c.if-text-gt-LONGEST.true)));
      zeros = c.clear.ensures;
    }

pub returns : goal.returns
unfolding judgement judged_by all_zeros
returns c =
    let t = c.args.text.now in record {
      judged = c.judge_lent-judged.ensures.value ∙ sym (ap (judged_of (is_once t)) (by_lines c.is_strict.result t c.if-text-gt-LONGEST.false c.is_strict.ensures));
      zeros = c.clear-2.ensures ∙ ap (λ n. replicate n 0) c.judge_lent-judged.ensures.length;
    }
