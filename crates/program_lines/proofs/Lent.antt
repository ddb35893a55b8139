-- What the walks over an accepted line of fields are lent: nothing where no tag is repeated, and otherwise the line's tables.
use Prim.Native.Nat.{ℕ, ◌+◌, ◌≤◌}
use mathlib.Core.Path.{◌≡◌, sym, ◌∙◌}
use mathlib.Core.Bool.{Bool, true, false, ◌||◌}
use mathlib.Core.List.{List, []}
use native.Mathlib.Omega.{arith}
use lib.ListN.{length, replicate, length-replicate}
use Rattle.byte_slices.specs.Stands.{Each}
use Rattle.accepted_line.specs.Run.{AtField, fields_from}
use Rattle.accepted_line.specs.Tables.{HasTag, spread, noted, Walkable}
use Rattle.accepted_line.proofs.fields.Here.{laxly}
use Rattle.accepted_line.proofs.fields.Start.{once-start, once-walkable, blank-tables, noted-walkable}
use Rattle.program_lines.specs.Line.{FieldsOf}

module _ (strict : Bool) (at : ℕ) (s : List ℕ) (h : FieldsOf strict at s) where
  pub once : (b : Bool) → b ≡ strict || spread (replicate 112 false) (fields_from at s 3) → b ≡ true → Walkable at s []
  once b e d = once-walkable at s (once-start strict at s h.start (sym e ∙ d))

  pub noting : AtField false at s 3 × (Each HasTag (fields_from at s 3) × ((at + length s ≤ 4294967295) × (length {A = ℕ} (replicate 6448 0) ≡ 6448)))
  noting = (laxly strict at s 3 h.start, (h.tags, (omega (arith, h.short), length-replicate {A = ℕ} 6448 0)))

  pub tabled : (t : List ℕ) → t ≡ noted (replicate 6448 0) (at + 3) (fields_from at s 3) → Walkable at s t
  tabled t e = noted-walkable strict at s (replicate 6448 0) t h.start h.tags blank-tables e
