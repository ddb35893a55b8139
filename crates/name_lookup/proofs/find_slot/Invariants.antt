use Prim.Native.Nat.{◌+◌}
use mathlib.Core.Path.{◌≡◌}
use lib.ListN.{drop}
use Rattle.format.specs.NameIndex.{first, path, looked}
use Rattle.name_lookup.specs.Looking.{says, landing, slot_of, looks_of}
use Rattle.name_lookup.proofs.find_slot.Given as goal

abbrev pub invariant-loop-i : goal.invariant-loop-i
invariant-loop-i l =
    (slot_of l.text l.slots l.name ≡ landing (says l.text l.name) l.n (l.first + l.i) (drop l.i (path l.name l.slots)))
    × (looks_of l.text l.slots l.name ≡ l.i + looked (says l.text l.name) (drop l.i (path l.name l.slots)))
