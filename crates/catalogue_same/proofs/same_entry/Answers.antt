-- `catalogue_same::same_entry` meets its contract: where less than the entry is left, it is not there.
use mathlib.Core.Path.{sym}
use native.Mathlib.Omega.{arith}
use Rattle.catalogue_entries.specs.Entries.{entry_bytes}
use Rattle.catalogue_entries.proofs.Written.{entry_length_lem}
use Rattle.catalogue_same.proofs.Starts.{starts-short}
use Rattle.catalogue_same.proofs.same_entry.Goals as goal

pub returns-then-catalogue-at : goal.returns-then-catalogue-at
returns-then-catalogue-at c =
    let a = c.args in
    sym (starts-short a.catalogue.now a.at (entry_bytes a.e) (omega arith) (omega (arith, entry_length_lem a.e, c.size.ensures)))

pub has_entry-requires : goal.has_entry-requires
has_entry-requires c = omega (arith, c.size.ensures)
