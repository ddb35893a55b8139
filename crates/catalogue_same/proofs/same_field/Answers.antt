-- `catalogue_same::same_field` meets its contract: where less than an entry is left, there is none.
use mathlib.Core.Path.{sym}
use native.Mathlib.Omega.{arith}
use Rattle.catalogue_entries.specs.declared.Entry.TheVariants as entry
use Rattle.catalogue_entries.specs.Entries.{kind_byte, kind_size, entry_size, entry_bytes}
use Rattle.catalogue_entries.proofs.Written.{entry_length_lem}
use Rattle.catalogue_same.proofs.Starts.{starts-short}
use Rattle.catalogue_same.proofs.same_field.Goals as goal

pub returns-then-catalogue-at-lt11 : goal.returns-then-catalogue-at-lt11
unfolding entry_size kind_byte kind_size
returns-then-catalogue-at-lt11 c =
    let a = c.args in
    let e = entry.Field a.a a.b a.value in
    sym (starts-short a.catalogue.now a.at (entry_bytes e) (omega arith) (omega (arith, entry_length_lem e)))
