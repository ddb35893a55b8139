-- `field::parse_length_value` meets its contract: a refusal is that refusal, and a length is LN of SQ.
use mathlib.Core.Path.{sym, ap, ◌∙◌}
use Rattle.std.specs.Prelude.{Ok, Err}
use Rattle.field_length.specs.Parsed.{length_refusal}
use Rattle.field.specs.declared.ParsedField.{ParsedField}
use Rattle.field.specs.Parsed.{length_field_by}
use Rattle.field.proofs.parse_length_value.Goals as goal

pub returns-in-Ok : goal.returns-in-Ok
unfolding length_field_by
returns-in-Ok c =
    ap (λ (g : ParsedField). Ok (record g { length = c.in-Ok.number.value })) c.kept.ensures
    ∙ ap length_field_by (sym c.in-Ok.is ∙ c.parse_length.ensures.is)

pub returns-in-Err-Invalid : goal.returns-in-Err-Invalid
unfolding length_field_by length_refusal
returns-in-Err-Invalid c =
    ap length_field_by (sym (c.in-Err-Invalid.is ∙ ap Err c.in-Err-Invalid.field-0-is) ∙ c.parse_length.ensures.is)

pub returns-in-Err-Zero : goal.returns-in-Err-Zero
unfolding length_field_by length_refusal
returns-in-Err-Zero c =
    ap length_field_by (sym (c.in-Err-Zero.is ∙ ap Err c.in-Err-Zero.field-0-is) ∙ c.parse_length.ensures.is)

pub returns-in-Err-Long : goal.returns-in-Err-Long
unfolding length_field_by length_refusal
returns-in-Err-Long c =
    ap length_field_by (sym (c.in-Err-Long.is ∙ ap Err c.in-Err-Long.field-0-is) ∙ c.parse_length.ensures.is)
