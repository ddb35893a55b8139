-- `catalogue_entries::version_at` meets its contract: two numbers, one after another.
use mathlib.Core.Path.{refl, sym}
use lib.Seq.{drop-drop}
use Rattle.catalogue_entries.specs.Entries.{version_from}
use Rattle.catalogue_entries.proofs.version_at.Goals as goal

pub returns : goal.returns
unfolding version_from
returns c =
    let a = c.args in
    sym (rw (drop-drop 4 a.at a.s.now, ← c.get_u32-major.ensures, ← c.get_u32-minor.ensures) refl)
