-- `catalogue_put::put_entry` meets its contract: one arm for each case, and each case's size says that its bytes have room.
use Prim.Native.Nat.{ℕ, ◌+◌}
use mathlib.Core.Path.{◌≡◌, refl, sym, ap, subst, ◌∙◌}
use mathlib.Core.Logic.{◌⊎◌, inl, inr}
use mathlib.Core.List.{List, ◌∷◌, ◌++◌}
use native.Mathlib.Omega.{arith}
use Rattle.byte_slices.specs.Over.{over}
use Rattle.byte_slices.proofs.Over.{over_none}
use Rattle.catalogue_entries.specs.declared.Entry.{Entry}
use Rattle.format.specs.Catalogue.{little}
use Rattle.catalogue_entries.specs.declared.Entry.TheVariants as entry
use Rattle.catalogue_entries.specs.declared.Place.{Place}
use Rattle.catalogue_entries.specs.Entries.{kind_byte, kind_size, entry_size, place_bytes, entry_bytes}
use Rattle.catalogue_put.proofs.put_entry.Goals as goal

-- an arm that writes the bytes of the case that it is
arm : (out last : List ℕ) (at n : ℕ) (e d : Entry) → n ≡ entry_size e → e ≡ d → last ≡ over out at (entry_bytes d)
    → (at + n ≡ at + entry_size e) × (last ≡ over out at (entry_bytes e))
arm out last at n e d size same wrote = (ap (λ m. at + m) size, wrote ∙ ap (λ x. over out at (entry_bytes x)) (sym same))

pub put_lined-requires : goal.put_lined-requires
unfolding entry_size
put_lined-requires c = omega (arith, ap entry_size c.in-Header.is)

pub put_sequence-requires : goal.put_sequence-requires
unfolding entry_size
put_sequence-requires c = omega (arith, ap entry_size c.in-ReferenceSequence.is)

pub put_field-requires : goal.put_field-requires
unfolding entry_size
put_field-requires c = omega (arith, ap entry_size c.in-Field.is)

pub returns-in-End : goal.returns-in-End
unfolding entry_bytes
returns-in-End c =
    let a = c.args in
    let told = arm _ _ _ _ _ _ c.size.ensures c.in-End.is (sym (over_none a.out.now a.at)) in
    record { next = told.0; wrote = told.1 }

pub returns-in-Header : goal.returns-in-Header
unfolding entry_bytes
returns-in-Header c =
    let told = arm _ _ _ _ _ _ c.size.ensures c.in-Header.is c.put_lined.ensures in
    record { next = told.0; wrote = told.1 }

pub returns-in-ReferenceSequence : goal.returns-in-ReferenceSequence
unfolding entry_bytes
returns-in-ReferenceSequence c =
    let told = arm _ _ _ _ _ _ c.size.ensures c.in-ReferenceSequence.is c.put_sequence.ensures in
    record { next = told.0; wrote = told.1 }

pub returns-in-Field : goal.returns-in-Field
unfolding entry_bytes
returns-in-Field c =
    let told = arm _ _ _ _ _ _ c.size.ensures c.in-Field.is c.put_field.ensures in
    record { next = told.0; wrote = told.1 }

-- the entry is that of an RG, a PG or a CO
record Lined (e : Entry) (p : Place) (line : ℕ) : Type 0 where
  size : entry_size e ≡ 13
  bytes : kind_byte e ∷ little 4 p.at ++ little 4 p.len ++ little 4 line ≡ entry_bytes e

lined : (e : Entry) (p : Place) (line : ℕ) → (e ≡ entry.ReadGroup p line) ⊎ ((e ≡ entry.Program p line) ⊎ (e ≡ entry.Comment p line)) → Lined e p line
unfolding entry_size entry_bytes kind_byte place_bytes kind_size
lined e p line (inl w) = subst (λ d. Lined d p line) (sym w) (record { size = refl; bytes = refl })
lined e p line (inr (inl w)) = subst (λ d. Lined d p line) (sym w) (record { size = refl; bytes = refl })
lined e p line (inr (inr w)) = subst (λ d. Lined d p line) (sym w) (record { size = refl; bytes = refl })

pub put_lined-requires-in-ReadGroup : goal.put_lined-requires-in-ReadGroup
put_lined-requires-in-ReadGroup c = omega (arith, (lined c.args.e c.in-ReadGroup.p c.in-ReadGroup.line c.in-ReadGroup.is).size)

pub returns-in-ReadGroup : goal.returns-in-ReadGroup
returns-in-ReadGroup c =
    let a = c.args in
    let p = c.in-ReadGroup.p in
    let line : ℕ = c.in-ReadGroup.line in
    let l = lined a.e p line c.in-ReadGroup.is in record {
      next = ap (λ m. a.at + m) c.size.ensures;
      wrote = c.put_lined-in-ReadGroup.ensures
          ∙ ap (λ k. over a.out.now a.at (k ∷ little 4 p.at ++ little 4 p.len ++ little 4 line)) c.kind_of-kind.ensures
          ∙ ap (over a.out.now a.at) l.bytes;
    }
