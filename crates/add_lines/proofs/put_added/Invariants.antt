use Prim.Native.Nat.{◌+◌}
use mathlib.Core.Path.{◌≡◌}
use lib.ListN.{length, drop}
use Rattle.byte_slices.specs.Over.{over}
use Rattle.program_ids.specs.Ids.{ids_at}
use Rattle.add_lines.specs.Lines.{new_lines, added_text}
use Rattle.add_lines.proofs.put_added.Given as goal

abbrev pub invariant-loop-leaf : goal.invariant-loop-leaf
invariant-loop-leaf l =
    (l.n + length (new_lines (ids_at l.text l.ids) l.first l.shape.linked l.prefix l.fields (drop l.leaf-index l.leaves)) ≡ l.o + length (added_text (ids_at l.text l.ids) l.shape.empty l.shape.alone l.shape.linked l.prefix l.fields l.leaves))
    × (over l.out l.n (new_lines (ids_at l.text l.ids) l.first l.shape.linked l.prefix l.fields (drop l.leaf-index l.leaves)) ≡ over l.initial.out l.o (added_text (ids_at l.text l.ids) l.shape.empty l.shape.alone l.shape.linked l.prefix l.fields l.leaves))
    × (length l.out ≡ length l.initial.out)
