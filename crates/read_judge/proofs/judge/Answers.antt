-- `read_judge::judge` meets its contract: 1 first, then the lines.
use mathlib.Core.Path.{sym, ap, ◌∙◌}
use Rattle.accepted_rule.specs.Rule.{is_once}
use Rattle.read_judge.specs.Judged.{judged_of, judged_by, judgement}
use Rattle.read_judge.proofs.Whole.{too_long, by_lines}
use Rattle.read_judge.proofs.judge.Goals as goal

pub returns-then-text-gt-LONGEST : goal.returns-then-text-gt-LONGEST
unfolding judgement judged_of
returns-then-text-gt-LONGEST c =
    let t = c.args.text.now in
    rw c.of_text.ensures (sym (ap (judged_of (is_once t)) (too_long t c.if-text-gt-LONGEST.true)))

pub returns : goal.returns
unfolding judgement judged_by
returns c =
    let t = c.args.text.now in
    c.judge_lines.ensures ∙ sym (ap (judged_of (is_once t)) (by_lines c.is_strict.result t c.if-text-gt-LONGEST.false c.is_strict.ensures))
