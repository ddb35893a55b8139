-- `catalogue_lines::entries_size` meets its contract: the sum fits, since no entry is longer than 21 bytes.
use Prim.Native.Nat.{◌≤◌}
use mathlib.Core.Path.{◌≡◌}
use native.Mathlib.Omega.{arith}
use Rattle.catalogue_entries.specs.Entries.{entry_size}
use Rattle.catalogue_lines.specs.Parts.{own_entry, size_of_head}
use Rattle.catalogue_lines.proofs.Entries.{size-most}
use Rattle.catalogue_lines.proofs.entries_size.Goals as goal
use Rattle.catalogue_lines.proofs.entries_size.Goals.{After-others_of}

-- an entry of a field has 11 bytes
field-size : (c : After-others_of) → c.size-field.result ≡ 11
unfolding entry_size
field-size c = c.size-field.ensures

own-size : (c : After-others_of) → c.size.result ≤ 21
own-size c = omega (arith, c.size.ensures, c.blank_entry.ensures, size-most (own_entry 0 c.args.head))

pub overflow_mul-result : goal.overflow_mul-result
overflow_mul-result c = rw (field-size c) (record { fits = omega (arith, c.others_of.ensures) })

pub overflow_add-result : goal.overflow_add-result
overflow_add-result c = rw (field-size c) (record { fits = omega (arith, c.others_of.ensures, own-size c) })

pub returns : goal.returns
unfolding size_of_head
returns c = rw (field-size c) (omega (arith, c.others_of.ensures, c.size.ensures, c.blank_entry.ensures))
