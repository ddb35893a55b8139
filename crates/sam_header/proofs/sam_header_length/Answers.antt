-- `sam_header::sam_header_length` meets its contract. Assumes nothing.
use mathlib.Core.Path.{sym, ap, ◌∙◌}
use Rattle.sam_header_words.specs.Words.{length_word, length_left}
use Rattle.sam_header.proofs.sam_header_length.Goals as goal

pub returns-in-Err : goal.returns-in-Err
unfolding length_word length_left
returns-in-Err c =
    let e = sym c.in-Err.is ∙ c.length.ensures in record {
      answer = c.refusal_word.ensures ∙ ap length_word e;
      wrote = ap (λ x. length_left x c.args.ln.now) e;
    }

pub returns-in-Ok : goal.returns-in-Ok
unfolding length_word length_left
returns-in-Ok c =
    let e = sym c.in-Ok.is ∙ c.length.ensures in record {
      answer = ap length_word e;
      wrote = ap (λ x. length_left x c.args.ln.now) e;
    }
