-- `catalogue_entries::size` meets its contract: the size of its kind.
use mathlib.Core.Path.{ap, ◌∙◌}
use Rattle.catalogue_entries.specs.Entries.{kind_size, entry_size}
use Rattle.catalogue_entries.proofs.size.Goals as goal

pub returns : goal.returns
unfolding entry_size
returns c = c.kind_size.ensures ∙ ap kind_size c.kind_of.ensures
