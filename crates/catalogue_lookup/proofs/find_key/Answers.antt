-- `catalogue_lookup::find_key` meets its contract: the entry that is found says the key.
use mathlib.Core.Path.{◌∙◌, ap}
use Rattle.catalogue_lookup.specs.Lookup.{entry_key, key_in}
use Rattle.catalogue_lookup.proofs.Walks.{found-entry}
use Rattle.catalogue_lookup.proofs.CallAnswers.{key-told}
use Rattle.catalogue_lookup.proofs.find_key.Goals as goal

pub returns : goal.returns
unfolding key_in
returns c =
    let a = c.args in
    let f = c.find_record-at in
    let told = key-told a.catalogue.now a.kind a.ordinal c.key_of.result
    (c.key_of.ensures ∙ ap entry_key (c.entry_at.ensures ∙ found-entry a.kind a.ordinal a.catalogue.now f.result f.ensures)) in
    record { is = told.0; answer = told.1 }
