-- Slots filled with places and looked in, then filled with ordinals and read: what the result list holds and how much is looked at, step by step.
use Prim.Native.Nat.{ℕ, ◌+◌, ◌≤◌}
use mathlib.Core.Path.{◌≡◌, refl, sym, ap, ap₂, ◌∙◌}
use mathlib.Core.Bool.{true, false}
use mathlib.Core.List.{List, [], ◌∷◌, ◌++◌, map, append-nil}
use native.Mathlib.Omega.{arith}
use lib.ListN.{length, take, replicate, length-map, drop_of_length-le}
use lib.Seq.{sets}
use Rattle.byte_slices.specs.Over.{over}
use Rattle.byte_slices.specs.Stands.{Each}
use Rattle.catalogue_entries.specs.Entries.{entries_in}
use Rattle.format.specs.NameIndex.{name_ordinal, slot_count, index, looks}
use Rattle.name_entries.specs.Names.{names_in}
use Rattle.names.specs.NameEnds.{Told}
use Rattle.name_slots.specs.Filled.{entering, seats}
use Rattle.name_lookup.specs.Looking.{slot_of, looks_of, ordinal_at}
use Rattle.names.proofs.Found.{filled-index, places-length, places-noted, found-ordinal, found-looks}
use Rattle.format.specs.Asked.{asked}
use Rattle.format.specs.Summed.{summed}

-- written over a list of the same length
over-whole : (out xs : List ℕ) → length out ≡ length xs → over out 0 xs ≡ xs
unfolding over
over-whole out xs e = let h : length out ≤ 0 + length xs = omega (arith, e) in ap (λ l. xs ++ l) (drop_of_length-le out h) ∙ append-nil xs

all_found : (f g : List ℕ → ℕ) (o : ℕ → ℕ) → ((x : List ℕ) → o (f x) ≡ g x) → (ys : List (List ℕ)) → map o (map f ys) ≡ map g ys
all_found f g o e [] = refl
all_found f g o e (y ∷ ys) = ap₂ (λ a b. a ∷ b) (e y) (all_found f g o e ys)

all-summed : (f g : List ℕ → ℕ) → ((x : List ℕ) → f x ≡ g x) → (ys : List (List ℕ)) → summed f ys ≡ summed g ys
unfolding summed
all-summed f g e [] = refl
all-summed f g e (y ∷ ys) = ap₂ (λ a b. a + b) (e y) (all-summed f g e ys)

module _ (t c slots₀ slots₁ : List ℕ) (size : length slots₀ ≡ slot_count (length (names_in t (entries_in c))))
    (first-fill : slots₁ ≡ entering false t 0 (entries_in c) (replicate (length slots₀) 0)) where
  abbrev names : List (List ℕ)
  names = names_in t (entries_in c)

  by-places : slots₁ ≡ entering false t 0 (entries_in c) (replicate (slot_count (length names)) 0)
  by-places = first-fill ∙ ap (λ n. entering false t 0 (entries_in c) (replicate n 0)) size

  pub long₁ : length slots₁ ≡ slot_count (length names)
  long₁ = ap length by-places ∙ places-length t c

  -- the notes say where ordinals go
  pub notes-told : (m : ℕ) → m ≡ length names → (notes₀ notes₁ : List ℕ) → notes₁ ≡ sets notes₀ 0 (seats false t 0 (entries_in c) (replicate (length slots₀) 0))
      → m ≤ length notes₁ → take m notes₁ ≡ seats true t 0 (entries_in c) (replicate (length slots₁) 0)
  notes-told m e notes₀ notes₁ is room =
      places-noted t c m e notes₁ notes₀ (is ∙ ap (λ n. sets notes₀ 0 (seats false t 0 (entries_in c) (replicate n 0))) size) room
      ∙ ap (λ n. seats true t 0 (entries_in c) (replicate n 0)) (sym long₁)

  pub looks-told : Each (Told t) (entries_in c) → (ys : List (List ℕ)) → summed (looks_of t slots₁) ys ≡ summed (looks names) ys
  looks-told told ys =
      ap (λ s. summed (looks_of t s) ys) by-places
      ∙ all-summed (looks_of t (entering false t 0 (entries_in c) (replicate (slot_count (length names)) 0))) (looks names) (found-looks t c told) ys

  module _ (slots₂ : List ℕ) (second-fill : slots₂ ≡ entering true t 0 (entries_in c) (replicate (length slots₁) 0)) where
    pub index-told : slots₂ ≡ index names
    index-told = second-fill ∙ ap (λ n. entering true t 0 (entries_in c) (replicate n 0)) long₁ ∙ filled-index t c

    pub found-told : Each (Told t) (entries_in c) → length names ≤ 16777216 → (list out₀ out₁ out₂ : List ℕ) → length out₀ ≡ length (asked list)
        → out₁ ≡ over out₀ 0 (map (slot_of t slots₁) (asked list)) → out₂ ≡ map (ordinal_at slots₂) out₁ → out₂ ≡ map (name_ordinal names) (asked list)
    found-told told few list out₀ out₁ out₂ room wrote read =
        let ys : List (List ℕ) = asked list in
        read
        ∙ ap₂ (λ s o. map (ordinal_at s) o) index-told (wrote ∙ over-whole out₀ (map (slot_of t slots₁) ys) (room ∙ sym (length-map ys (slot_of t slots₁))))
        ∙ ap (λ s. map (ordinal_at (index names)) (map (slot_of t s) ys)) by-places
        ∙ all_found (slot_of t (entering false t 0 (entries_in c) (replicate (slot_count (length names)) 0))) (name_ordinal names) (ordinal_at (index names)) (found-ordinal t c told few) ys
