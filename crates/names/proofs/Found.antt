-- Slots of a catalogue: filled with places and looked in, then filled with ordinals and read, they answer as the plain search does, and as much is
-- looked at as the rule says.
use Prim.Native.Nat.{ℕ, ◌+◌, ◌≤◌}
use mathlib.Core.Path.{◌≡◌, sym, ap, ap₂, ◌∙◌}
use mathlib.Core.Bool.{true, false}
use mathlib.Core.List.{List, ◌++◌, map}
use native.Mathlib.Omega.{arith}
use lib.ListN.{length, take, drop, replicate, length-map}
use lib.Seq.{sets, sets-eq, length-sets, take-append_seam}
use Rattle.byte_slices.specs.Stands.{Each}
use Rattle.catalogue_entries.specs.Entries.{entries_in}
use Rattle.format.specs.NameIndex.{absent, name_ordinal, slot_count, path, index, tells_name, looked, looks}
use Rattle.name_entries.specs.Names.{names_in}
use Rattle.name_entries.proofs.Names.{names-counted}
use Rattle.name_slots.specs.Filled.{entering, seats}
use Rattle.name_slots.proofs.Noted.{seats-counted}
use Rattle.name_lookup.specs.Looking.{says, landed, slot_of, looks_of, ordinal_at}
use Rattle.names.specs.NameEnds.{Told}
use Rattle.name_index.proofs.SlotCount.{slots-some, slots-few}
use Rattle.name_index.proofs.Indexed.{indexed, index-length}
use Rattle.names.proofs.Recoded.{recode, none-recode, landed-recode, looks-recode, landed-holds}
use Rattle.names.proofs.Named.{with-ordinals, code, code-tells, filled-codes, filled-seats}

-- no slot number is the one that means that there is none
below-absent : (n : ℕ) → n ≤ 33554432 → n ≤ absent
unfolding absent
below-absent n h = omega (arith, h)

module _ (t c : List ℕ) where
  abbrev names : List (List ℕ)
  names = names_in t (entries_in c)

  abbrev empty : List ℕ
  empty = replicate (slot_count (length names)) 0

  -- filled with ordinals
  pub filled-index : entering true t 0 (entries_in c) empty ≡ index names
  unfolding index
  filled-index = with-ordinals t 0 (entries_in c) empty

  -- filled with places: the same slots
  abbrev places : List ℕ
  places = entering false t 0 (entries_in c) empty

  same-places : places ≡ map (recode (code t c)) (index names)
  unfolding index
  same-places = ap (entering false t 0 (entries_in c)) (sym (none-recode (code t c) (slot_count (length names)))) ∙ filled-codes t c empty

  pub places-length : length places ≡ slot_count (length names)
  places-length = ap length same-places ∙ length-map (index names) (recode (code t c)) ∙ index-length names

  -- noted while the slots were filled with places: the slots that the names enter
  pub places-noted : (m : ℕ) → m ≡ length names → (notes before : List ℕ) → notes ≡ sets before 0 (seats false t 0 (entries_in c) empty) → m ≤ length notes
      → take m notes ≡ seats true t 0 (entries_in c) empty
  places-noted m e notes before is room =
      let ss : List ℕ = seats false t 0 (entries_in c) empty in
      let many : m ≡ length ss = e ∙ names-counted t (entries_in c) ∙ sym (seats-counted t false 0 (entries_in c) empty) in
      let all : notes ≡ ss ++ drop (0 + length ss) before = is ∙ sets-eq ss before 0 (omega (arith, many, room, ap length is, length-sets before 0 ss)) in
      ap₂ take many all
      ∙ take-append_seam ss (drop (0 + length ss) before)
      ∙ ap (seats false t 0 (entries_in c)) (sym (none-recode (code t c) (slot_count (length names))))
      ∙ filled-seats t c empty

  module _ (told : Each (Told t) (entries_in c)) where
    -- the slot in which a name is found holds the name's ordinal
    pub found-ordinal : length names ≤ 16777216 → (x : List ℕ) → ordinal_at (index names) (slot_of t places x) ≡ name_ordinal names x
    unfolding slot_of
    found-ordinal few x =
        let n : ℕ = length names in
        ap (λ s. ordinal_at (index names) (landed (says t x) s x)) same-places
        ∙ ap (ordinal_at (index names)) (landed-recode (code t c) (says t x) (tells_name names x) (code-tells t c told x) (index names) x)
        ∙ landed-holds (tells_name names x) x (index names) (omega (arith, index-length names, slots-some n)) (below-absent (length (index names)) (omega (arith, index-length names, slots-few n few)))
        ∙ (indexed names).finds x

    -- as many slots are looked at as in the index
    pub found-looks : (x : List ℕ) → looks_of t places x ≡ looks names x
    unfolding looks_of looks
    found-looks x =
        ap (λ s. looked (says t x) (path x s)) same-places ∙ looks-recode (code t c) (says t x) (tells_name names x) (code-tells t c told x) (index names) x
