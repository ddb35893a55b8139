-- `sam_header::sam_header_carry_on` meets its contract: both counts fit 32 bits. Assumes nothing.
use mathlib.Core.Path.{sym, ap, subst, ◌∙◌}
use lib.ListN.{length}
use Rattle.sam_header_words.specs.Words.{carried_word, FitsHalves}
use Rattle.sam_header.proofs.Clear.{carried-halves}
use Rattle.sam_header.proofs.sam_header_carry_on.Goals as goal

pub carried_word-requires : goal.carried_word-requires
carried_word-requires c =
    let a = c.args in
    subst FitsHalves (sym c.carry_on.ensures.answer) (carried-halves a.text.now (length a.out.now) (length a.table.now))

pub returns : goal.returns
returns c =
    let e = c.carry_on.ensures in record {
      answer = c.carried_word.ensures ∙ ap carried_word e.answer;
      wrote = c.carry_on.ensures.wrote;
      listed = c.carry_on.ensures.listed;
    }
