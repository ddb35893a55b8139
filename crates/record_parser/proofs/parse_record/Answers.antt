-- `record_parser::parse_record` meets its contract: accepted fields hold no LF and no CR; anything else is looked through for them. Assumes nothing.
use mathlib.Core.Path.{sym, ap, ◌∙◌}
use Rattle.record.specs.Head.{head_of, has_fields}
use Rattle.record_parser.proofs.Dispatch.{line-fields, line-broken, line-unbroken}
use Rattle.record_parser.proofs.parse_record.Goals as goal

pub returns-then-has_fields : goal.returns-then-has_fields
returns-then-has_fields c =
    let a = c.args in
    c.parse_bytes-head.ensures
    ∙ sym (ap head_of (line-fields a.strict a.at a.src.now (sym (ap has_fields c.parse_bytes-head.ensures) ∙ sym c.has_fields.ensures ∙ c.if-has_fields.true)))

pub returns-then-has_break : goal.returns-then-has_break
unfolding head_of
returns-then-has_break c =
    let a = c.args in
    sym (ap head_of (line-broken a.strict a.at a.src.now (sym c.has_break.ensures ∙ c.if-has_break.true)))

pub returns : goal.returns
returns c =
    let a = c.args in
    c.parse_bytes-head.ensures ∙ sym (ap head_of (line-unbroken a.strict a.at a.src.now (sym c.has_break.ensures ∙ c.if-has_break.false)))
