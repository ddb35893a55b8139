-- `sam_header::sam_header_leaves` meets its contract: there are too few leaves for their number to reach the hops. Assumes nothing.
use mathlib.Core.Path.{sym, ap, subst, ◌∙◌}
use lib.ListN.{length}
use Rattle.sam_header_words.specs.Words.{FewLeaves, leaves_word}
use Rattle.sam_header.proofs.Fewer.{few-first}
use Rattle.sam_header.proofs.sam_header_leaves.Goals as goal

pub leaves_word-requires : goal.leaves_word-requires
leaves_word-requires c =
    let a = c.args in
    subst FewLeaves (sym c.leaves.ensures.answer) (few-first a.text.now a.catalogue.now (length a.out.now))

pub returns : goal.returns
returns c = record {
  answer = c.leaves_word.ensures ∙ ap leaves_word c.leaves.ensures.answer;
  wrote = c.leaves.ensures.wrote;
}
