-- Walks from one SQ entry to the next, on which slots are filled with their names.
use Prim.Native.Nat.{ℕ, ◌+◌, ◌<◌}
use mathlib.Core.Path.{◌≡◌, refl, sym, ap, ◌∙◌}
use mathlib.Core.Bool.{Bool, true, false, cond}
use mathlib.Core.List.{List, [], ◌∷◌}
use native.Mathlib.Omega.{arith}
use native.Mathlib.Nat.{mod-lt}
use borrow.Author.Tests.{eq-eqb}
use lib.ListN.{length, drop}
use lib.Dec.{eqb}
use Rattle.format.specs.Slots.{seat}
use Rattle.catalogue_entries.specs.declared.Entry.{Entry}
use Rattle.catalogue_entries.specs.Entries.{kind_byte, entry_of, entries_in}
use Rattle.catalogue_lookup.specs.Lookup.{entries_from}
use Rattle.format.specs.NameIndex.{hash_from, first, enter}
use Rattle.name_entries.specs.Next.{next_sq}
use Rattle.name_entries.specs.Names.{name_in}
use Rattle.name_entries.proofs.NextEntry.{no_more, one_more}
use Rattle.name_slots.specs.Filled.{start_in, mark_of, value_of, entering, seats}

pub mark-lt : (h : ℕ) → mark_of h < 128
unfolding mark_of
mark-lt h = mod-lt _ (omega arith)

module _ (c : List ℕ) (at r : ℕ) (is : r ≡ next_sq c at) (e : Entry) (found : e ≡ entry_of (drop r c)) (b : Bool) (t : List ℕ) (k : ℕ) (slots : List ℕ) where
  entering-from : (es : List Entry) → entering b t k (entries_from 2 0 es) slots ≡ entering b t k es slots
  unfolding entering entries_from
  entering-from [] = refl
  entering-from (x ∷ es) = go (eqb (kind_byte x) 2) refl (entering-from es)
    where
      go : (w : Bool) → eqb (kind_byte x) 2 ≡ w → entering b t k (entries_from 2 0 es) slots ≡ entering b t k es slots
          → entering b t k (cond w (x ∷ es) (entries_from 2 0 es)) slots
          ≡ cond w (entering b t (k + 1) es (enter (value_of b k (hash_from 0 (name_in t x)) (start_in t x)) (name_in t x) slots)) (entering b t k es slots)
      go true q ih = ap (λ w. cond w (entering b t (k + 1) es (enter (value_of b k (hash_from 0 (name_in t x)) (start_in t x)) (name_in t x) slots)) (entering b t k es slots)) q
      go false q ih = ih

  pub entered_all : (kind_byte e ≡ 2 → ⊥) → entering b t k (entries_in (drop at c)) slots ≡ slots
  unfolding entering
  entered_all q = sym (entering-from (entries_in (drop at c))) ∙ ap (λ es. entering b t k es slots) (no_more c at r is e found q)

  pub entered : kind_byte e ≡ 2
      → entering b t k (entries_in (drop at c)) slots ≡ entering b t (k + 1) (entries_in (drop (r + 21) c)) (enter (value_of b k (hash_from 0 (name_in t e)) (start_in t e)) (name_in t e) slots)
  unfolding entering
  entered q =
      let es : List Entry = entries_in (drop (r + 21) c) in
      sym (entering-from (entries_in (drop at c))) ∙ ap (λ es. entering b t k es slots) (one_more c at r is e found q)
      ∙ ap (λ w. cond w (entering b t (k + 1) es (enter (value_of b k (hash_from 0 (name_in t e)) (start_in t e)) (name_in t e) slots)) (entering b t k es slots)) (eq-eqb (kind_byte e) 2 q)

  -- ---- the slots that are entered

  seats-from : (es : List Entry) → seats b t k (entries_from 2 0 es) slots ≡ seats b t k es slots
  unfolding seats entries_from
  seats-from [] = refl
  seats-from (x ∷ es) = go (eqb (kind_byte x) 2) refl (seats-from es)
    where
      on : List ℕ
      on =
          seat (first (length slots) (name_in t x)) slots
          ∷ seats b t (k + 1) es (enter (value_of b k (hash_from 0 (name_in t x)) (start_in t x)) (name_in t x) slots)

      go : (w : Bool) → eqb (kind_byte x) 2 ≡ w → seats b t k (entries_from 2 0 es) slots ≡ seats b t k es slots
          → seats b t k (cond w (x ∷ es) (entries_from 2 0 es)) slots ≡ cond w on (seats b t k es slots)
      go true q ih = ap (λ w. cond w on (seats b t k es slots)) q
      go false q ih = ih

  pub seated-all : (kind_byte e ≡ 2 → ⊥) → seats b t k (entries_in (drop at c)) slots ≡ []
  unfolding seats
  seated-all q = sym (seats-from (entries_in (drop at c))) ∙ ap (λ es. seats b t k es slots) (no_more c at r is e found q)

  pub seated-on : kind_byte e ≡ 2 → seats b t k (entries_in (drop at c)) slots
      ≡ seat (first (length slots) (name_in t e)) slots
      ∷ seats b t (k + 1) (entries_in (drop (r + 21) c)) (enter (value_of b k (hash_from 0 (name_in t e)) (start_in t e)) (name_in t e) slots)
  unfolding seats
  seated-on q =
      let es : List Entry = entries_in (drop (r + 21) c) in
      let on : List ℕ = seat (first (length slots) (name_in t e)) slots ∷ seats b t (k + 1) es (enter (value_of b k (hash_from 0 (name_in t e)) (start_in t e)) (name_in t e) slots) in
      sym (seats-from (entries_in (drop at c))) ∙ ap (λ es. seats b t k es slots) (one_more c at r is e found q) ∙ ap (λ w. cond w on (seats b t k es slots)) (eq-eqb (kind_byte e) 2 q)
