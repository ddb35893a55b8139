-- `catalogue_same::has_entry` meets its contract: one arm for each case, and each case's size says that its bytes are there.
use Prim.Native.Nat.{ℕ, ◌+◌, ◌≤◌}
use mathlib.Core.Path.{◌≡◌, refl, sym, ap, subst, ◌∙◌}
use mathlib.Core.Logic.{◌⊎◌, inl, inr}
use mathlib.Core.List.{◌∷◌, ◌++◌}
use native.Mathlib.Omega.{arith}
use lib.ListN.{length, drop}
use Rattle.format.specs.Bytes.{starts}
use Rattle.catalogue_entries.specs.declared.Entry.{Entry}
use Rattle.format.specs.Catalogue.{little}
use Rattle.catalogue_entries.specs.declared.Entry.TheVariants as entry
use Rattle.catalogue_entries.specs.declared.Place.{Place}
use Rattle.catalogue_entries.specs.Entries.{kind_byte, kind_size, entry_size, place_bytes, entry_bytes}
use Rattle.catalogue_same.proofs.Starts.{starts_none}
use Rattle.catalogue_same.proofs.has_entry.Goals as goal
use Rattle.catalogue_same.proofs.has_entry.Goals.{Start}

-- the entry is the case `d`
long : (s : Start) (d : Entry) → s.args.e ≡ d → s.args.at + entry_size d ≤ length s.args.s.now
long s d e = omega (arith, s.requires, ap entry_size e)

same : (s : Start) (d : Entry) → s.args.e ≡ d → (let c = drop s.args.at s.args.s.now in starts (entry_bytes d) c ≡ starts (entry_bytes s.args.e) c)
same s d e = ap (λ d. starts (entry_bytes d) (drop s.args.at s.args.s.now)) (sym e)

pub has_lined-requires : goal.has_lined-requires
unfolding entry_size
has_lined-requires c = long (goal.at.has_lined-requires c).Start _ c.in-Header.is

pub has_sequence-requires : goal.has_sequence-requires
unfolding entry_size
has_sequence-requires c = long (goal.at.has_sequence-requires c).Start _ c.in-ReferenceSequence.is

pub has_field-requires : goal.has_field-requires
unfolding entry_size
has_field-requires c = long (goal.at.has_field-requires c).Start _ c.in-Field.is

pub returns-in-End : goal.returns-in-End
unfolding entry_bytes
returns-in-End c =
    sym (starts_none c.args.s.now c.args.at) ∙ same (goal.at.returns-in-End c).Start _ c.in-End.is

pub returns-in-Header : goal.returns-in-Header
unfolding entry_bytes place_bytes
returns-in-Header c = c.has_lined.ensures ∙ same (goal.at.returns-in-Header c).Start _ c.in-Header.is

pub returns-in-ReferenceSequence : goal.returns-in-ReferenceSequence
unfolding entry_bytes place_bytes
returns-in-ReferenceSequence c = c.has_sequence.ensures ∙ same (goal.at.returns-in-ReferenceSequence c).Start _ c.in-ReferenceSequence.is

pub returns-in-Field : goal.returns-in-Field
unfolding entry_bytes place_bytes
returns-in-Field c = c.has_field.ensures ∙ same (goal.at.returns-in-Field c).Start _ c.in-Field.is

-- the entry is that of an RG, a PG or a CO
record Lined (e : Entry) (p : Place) (line : ℕ) : Type 0 where
  size : entry_size e ≡ 13
  bytes : kind_byte e ∷ little 4 p.at ++ little 4 p.len ++ little 4 line ≡ entry_bytes e

lined : (e : Entry) (p : Place) (line : ℕ) → (e ≡ entry.ReadGroup p line) ⊎ ((e ≡ entry.Program p line) ⊎ (e ≡ entry.Comment p line)) → Lined e p line
unfolding entry_size entry_bytes kind_byte place_bytes kind_size
lined e p line (inl w) = subst (λ d. Lined d p line) (sym w) (record { size = refl; bytes = refl })
lined e p line (inr (inl w)) = subst (λ d. Lined d p line) (sym w) (record { size = refl; bytes = refl })
lined e p line (inr (inr w)) = subst (λ d. Lined d p line) (sym w) (record { size = refl; bytes = refl })

pub has_lined-requires-in-ReadGroup : goal.has_lined-requires-in-ReadGroup
has_lined-requires-in-ReadGroup c = omega (arith, c.requires, (lined c.args.e c.in-ReadGroup.p c.in-ReadGroup.line c.in-ReadGroup.is).size)

pub returns-in-ReadGroup : goal.returns-in-ReadGroup
returns-in-ReadGroup c =
    let a = c.args in
    let p = c.in-ReadGroup.p in
    let line : ℕ = c.in-ReadGroup.line in
    c.has_lined-in-ReadGroup.ensures
    ∙ ap (λ k. starts (k ∷ little 4 p.at ++ little 4 p.len ++ little 4 line) (drop a.at a.s.now)) c.kind_of-kind.ensures
    ∙ ap (λ l. starts l (drop a.at a.s.now)) (lined a.e p line c.in-ReadGroup.is).bytes
