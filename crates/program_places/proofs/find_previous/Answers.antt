-- `program_places::find_previous` meets its contract: the PP that is found, or no place.
use mathlib.Core.Path.{◌≡◌, refl, ap, ◌∙◌}
use Rattle.std.specs.Prelude.{Option, None, Some, unwrap_or}
use Rattle.catalogue_entries.specs.declared.Place.{Place}
use Rattle.program_ids.specs.Places.{nowhere}
use Rattle.program_places.specs.Gathered.{or_nowhere}
use Rattle.program_places.proofs.find_previous.Goals as goal

or-else : (o : Option Place) → unwrap_or o nowhere ≡ or_nowhere o
unfolding or_nowhere
or-else None = refl
or-else (Some p) = refl

pub returns : goal.returns
unfolding nowhere
returns c = c.unwrap_or.ensures ∙ or-else c.field_from.result ∙ ap or_nowhere c.field_from.ensures
