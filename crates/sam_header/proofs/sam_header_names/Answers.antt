-- `sam_header::sam_header_names` meets its contract. Assumes nothing.
use mathlib.Core.Path.{sym, ap, ◌∙◌}
use Rattle.sam_header_words.specs.Words.{names_word, names_left}
use Rattle.sam_header.proofs.sam_header_names.Goals as goal

pub returns-in-Err : goal.returns-in-Err
unfolding names_word names_left
returns-in-Err c =
    let e = sym c.in-Err.is ∙ c.names.ensures.answer in record {
      answer = c.refusal_word.ensures ∙ ap names_word e;
      slots = c.names.ensures.slots;
      found = c.names.ensures.found;
      looks = ap (λ x. names_left x c.args.inspected.now) e;
    }

pub returns-in-Ok : goal.returns-in-Ok
unfolding names_word names_left
returns-in-Ok c =
    let e = sym c.in-Ok.is ∙ c.names.ensures.answer in record {
      answer = ap names_word e;
      slots = c.names.ensures.slots;
      found = c.names.ensures.found;
      looks = ap (λ x. names_left x c.args.inspected.now) e;
    }
