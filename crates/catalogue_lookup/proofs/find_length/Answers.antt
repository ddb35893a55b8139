-- `catalogue_lookup::find_length` meets its contract: the entry that is found says the length.
use mathlib.Core.Path.{◌∙◌, ap}
use Rattle.catalogue_lookup.specs.Lookup.{entry_length, length_in}
use Rattle.catalogue_lookup.proofs.Walks.{found-entry}
use Rattle.catalogue_lookup.proofs.CallAnswers.{length-told}
use Rattle.catalogue_lookup.proofs.find_length.Goals as goal

pub returns : goal.returns
unfolding length_in
returns c =
    let a = c.args in
    let f = c.find_record-at in
    let told = length-told a.catalogue.now a.ordinal c.length_of.result
    (c.length_of.ensures ∙ ap entry_length (c.entry_at.ensures ∙ found-entry 2 a.ordinal a.catalogue.now f.result f.ensures)) in
    record { is = told.0; answer = told.1 }
