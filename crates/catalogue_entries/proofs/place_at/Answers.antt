-- `catalogue_entries::place_at` meets its contract: two numbers, one after another.
use mathlib.Core.Path.{refl, sym}
use lib.Seq.{drop-drop}
use Rattle.catalogue_entries.specs.Entries.{place_from}
use Rattle.catalogue_entries.proofs.place_at.Goals as goal

pub returns : goal.returns
unfolding place_from
returns c =
    let a = c.args in
    sym (rw (drop-drop 4 a.at a.s.now, ← c.get_u32-offset.ensures, ← c.get_u32-len.ensures) refl)
