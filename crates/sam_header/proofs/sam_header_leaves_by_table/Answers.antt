-- `sam_header::sam_header_leaves_by_table` meets its contract: there are too few leaves for their number to reach the hops. Assumes nothing.
use mathlib.Core.Path.{sym, ap, ◌∙◌, subst}
use lib.ListN.{length}
use Rattle.sam_header_words.specs.Words.{leaves_word, FewLeaves}
use Rattle.sam_header.proofs.Fewer.{few-seated}
use Rattle.sam_header.proofs.sam_header_leaves_by_table.Goals as goal

pub leaves_word-requires : goal.leaves_word-requires
leaves_word-requires c =
    let a = c.args in
    subst FewLeaves (sym c.leaves_by_table.ensures.answer) (few-seated a.text.now a.catalogue.now (length a.out.now) (length a.table.now))

pub returns : goal.returns
returns c = record {
  answer = c.leaves_word.ensures ∙ ap leaves_word c.leaves_by_table.ensures.answer;
  wrote = c.leaves_by_table.ensures.wrote;
  tabled = c.leaves_by_table.ensures.tabled;
}
