-- `read_judge::parse_line` meets its contract: the rule decides.
use mathlib.Core.Path.{sym, ap, ◌∙◌}
use Rattle.read_judge.specs.Parsed.{parsed_by}
use Rattle.read_judge.proofs.Parsing.{parsed-strict}
use Rattle.read_judge.proofs.parse_line.Goals as goal

pub returns-then-strict : goal.returns-then-strict
returns-then-strict c =
    parsed-strict c.args.once (record { at = c.args.at; bytes = c.args.line.now }) c.parse_record.result c.args.strict c.if-strict.true c.parse_record.ensures

pub returns : goal.returns
returns c =
    c.parse_lenient.ensures ∙ ap (λ b. parsed_by b c.args.once (record { at = c.args.at; bytes = c.args.line.now })) (sym c.if-strict.false)
