-- `catalogue_lookup::find_line` meets its contract: the entry that is found says the line.
use mathlib.Core.Path.{◌∙◌, ap}
use Rattle.catalogue_lookup.specs.Lookup.{entry_line, line_in}
use Rattle.catalogue_lookup.proofs.Walks.{found-entry}
use Rattle.catalogue_lookup.proofs.CallAnswers.{line-told}
use Rattle.catalogue_lookup.proofs.find_line.Goals as goal

pub returns : goal.returns
unfolding line_in
returns c =
    let a = c.args in
    let f = c.find_record-at in
    let told = line-told a.catalogue.now a.kind a.ordinal c.line_of.result
    (c.line_of.ensures ∙ ap entry_line (c.entry_at.ensures ∙ found-entry a.kind a.ordinal a.catalogue.now f.result f.ensures)) in
    record { is = told.0; answer = told.1 }
