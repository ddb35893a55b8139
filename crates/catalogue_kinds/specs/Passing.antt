-- What a walk over entries passes.
use Rattle.std.specs.Prelude.{ℕ, List}
use Rattle.catalogue_entries.specs.declared.Entry.{Entry}
use Rattle.catalogue_entries.specs.Entries.{counted, sizes}
use Rattle.catalogue_kinds.specs.declared.Passed.{Passed}

-- how far a walk over the entries goes, and how many of kind `k` it passes
unfoldable pub passing : ℕ → List Entry → Passed
unfolding sizes counted
passing k es = record { at = sizes es; count = counted k es }
