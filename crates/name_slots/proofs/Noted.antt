-- Slots that are noted while names enter, and ordinals put at them.
use Prim.Native.Nat.{ℕ, suc, ◌+◌, ◌≤◌, ◌<◌}
use mathlib.Core.Path.{◌≡◌, refl, sym, ap, ◌∙◌}
use mathlib.Core.Bool.{Bool, true, false, cond}
use mathlib.Core.List.{List, [], ◌∷◌}
use native.Mathlib.Numerals.{add-one}
use lib.ListN.{length, get_or, drop, set, drop_of_length-le}
use lib.Seq.{sets}
use lib.Dec.{eqb}
use Rattle.format.specs.Slots.{seat}
use Rattle.catalogue_entries.specs.declared.Entry.{Entry}
use Rattle.catalogue_entries.specs.Entries.{kind_byte, counted}
use Rattle.format.specs.NameIndex.{hash_from, first, enter}
use Rattle.name_index.proofs.Passing.{opened}
use Rattle.name_entries.specs.Names.{name_in}
use Rattle.name_slots.specs.Filled.{start_in, value_of, entering, seats, with_ordinals}

-- one more slot is noted
pub note-on : {all rest : List ℕ} {s : ℕ} (notes now : List ℕ) (k r : ℕ) → all ≡ s ∷ rest → r ≡ s → now ≡ set notes k r → sets notes k all ≡ sets now (k + 1) rest
note-on {rest = rest} notes now k r e q n =
    ap (sets notes k) e ∙ ap (λ s. sets (set notes k s) (suc k) rest) (sym q) ∙ ap (λ l. sets l (suc k) rest) (sym n) ∙ ap (λ j. sets now j rest) (sym (add-one k))

-- ---- a walk over the notes, at `k`

module _ (notes slots : List ℕ) (k : ℕ) where
  pub numbered-end : length notes ≤ k → with_ordinals k (drop k notes) slots ≡ slots
  unfolding with_ordinals
  numbered-end h = ap (λ ss. with_ordinals k ss slots) (drop_of_length-le notes h)

  pub numbered-on : k < length notes → with_ordinals k (drop k notes) slots ≡ with_ordinals (k + 1) (drop (k + 1) notes) (set slots (get_or notes k 0) (suc k))
  unfolding with_ordinals
  numbered-on l = ap (λ ss. with_ordinals k ss slots) (opened notes k l)

-- ---- ordinals at the slots that names enter: as if the names entered

module _ (t : List ℕ) where
  pub numbered-seats : (k : ℕ) (es : List Entry) (slots : List ℕ) → with_ordinals k (seats true t k es slots) slots ≡ entering true t k es slots
  unfolding with_ordinals seats entering enter value_of
  numbered-seats k [] slots = refl
  numbered-seats k (e ∷ es) slots = go (eqb (kind_byte e) 2) (numbered-seats (k + 1) es (enter (suc k) (name_in t e) slots)) (numbered-seats k es slots)
    where
      at : ℕ
      at = seat (first (length slots) (name_in t e)) slots

      go : (b : Bool) → with_ordinals (k + 1) (seats true t (k + 1) es (set slots at (suc k))) (set slots at (suc k)) ≡ entering true t (k + 1) es (set slots at (suc k))
          → with_ordinals k (seats true t k es slots) slots ≡ entering true t k es slots
          → with_ordinals k (cond b (at ∷ seats true t (k + 1) es (set slots at (suc k))) (seats true t k es slots)) slots
          ≡ cond b (entering true t (k + 1) es (set slots at (suc k))) (entering true t k es slots)
      go true ih jh = ih
      go false ih jh = jh

  -- one for each SQ entry
  pub seats-counted : (b : Bool) (k : ℕ) (es : List Entry) (slots : List ℕ) → length (seats b t k es slots) ≡ counted 2 es
  unfolding seats counted
  seats-counted b k [] slots = refl
  seats-counted b k (e ∷ es) slots =
      go (eqb (kind_byte e) 2) (seats-counted b (k + 1) es (enter (value_of b k (hash_from 0 (name_in t e)) (start_in t e)) (name_in t e) slots)) (seats-counted b k es slots)
    where
      on : List ℕ
      on = seats b t (k + 1) es (enter (value_of b k (hash_from 0 (name_in t e)) (start_in t e)) (name_in t e) slots)

      go : (w : Bool) → length on ≡ counted 2 es → length (seats b t k es slots) ≡ counted 2 es
          → length (cond w (seat (first (length slots) (name_in t e)) slots ∷ on) (seats b t k es slots)) ≡ cond w (suc (counted 2 es)) (counted 2 es)
      go true ih jh = ap suc ih
      go false ih jh = jh
