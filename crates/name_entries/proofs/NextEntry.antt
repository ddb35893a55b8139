-- Walks from one SQ entry to the next: where it is, and how many there are.
use Prim.Native.Nat.{ℕ, suc, ◌+◌, ◌≤◌}
use mathlib.Core.Path.{◌≡◌, refl, sym, ap, ◌∙◌}
use mathlib.Core.Bool.{Bool, true, false, cond}
use mathlib.Core.List.{List, [], ◌∷◌}
use native.Mathlib.Omega.{arith}
use borrow.Author.Tests.{eq-eqb, ne_eqb, le-leb, eqb-true}
use lib.ListN.{length, get_or, drop, length-drop}
use lib.Seq.{drop-drop, drop-cons}
use lib.Dec.{eqb}
use Rattle.catalogue_entries.specs.declared.Entry.{Entry}
use Rattle.catalogue_entries.specs.Entries.{kind_byte, kind_size, entry_size, entry_with, entry_of, entries_in, entries_before, sizes, counted}
use Rattle.catalogue_entries.proofs.Walk.{turn_end, turn_on, turn-within}
use Rattle.catalogue_lookup.specs.Lookup.{entries_from, first_entry}
use Rattle.catalogue_lookup.proofs.Walks.{front-entry, from_entries}
use Rattle.name_entries.specs.Next.{next_sq}

-- ---- where the next SQ entry is

-- a step of a walk that is at `at` and found `e` there, `len` bytes long
module _ (c : List ℕ) (at len : ℕ) (e : Entry) (found : e ≡ entry_of (drop at c)) (long : len ≡ entry_size e) where
  pub next-end : len ≡ 0 → next_sq c at ≡ at
  unfolding entries_before sizes
  next-end h = ap (λ es. at + sizes (entries_before 2 0 es)) (turn_end c at len e found long h) ∙ omega arith

  module _ (h : len ≡ 0 → ⊥) where
    opened : next_sq c at ≡ at + sizes (cond (eqb (kind_byte e) 2) [] (e ∷ entries_before 2 0 (entries_in (drop (at + len) c))))
    unfolding entries_before
    opened = ap (λ es. at + sizes (entries_before 2 0 es)) (turn_on c at len e found long h)

    pub next_here : kind_byte e ≡ 2 → next_sq c at ≡ at
    unfolding sizes
    next_here q = opened ∙ ap (λ b. at + sizes (cond b [] (e ∷ entries_before 2 0 (entries_in (drop (at + len) c))))) (eq-eqb (kind_byte e) 2 q) ∙ omega arith

    pub next-on : (kind_byte e ≡ 2 → ⊥) → next_sq c at ≡ next_sq c (at + len)
    unfolding sizes
    next-on q = opened ∙ ap (λ b. at + sizes (cond b [] (e ∷ entries_before 2 0 (entries_in (drop (at + len) c))))) (ne_eqb (kind_byte e) 2 q) ∙ omega (arith, long)

-- an entry of a field is passed
field-entry : (c : List ℕ) (at : ℕ) → at + 11 ≤ length c → get_or c at 0 ≡ 6 → entry_of (drop at c) ≡ entry_with 6 (drop (suc at) c)
unfolding entry_of kind_size
field-entry c at h q =
    let l : 11 ≤ suc (length (drop (suc at) c)) = omega (arith, h, length-drop (suc at) c) in
    rw (drop-cons c at 0 (omega (arith, h)), q, le-leb 11 (suc (length (drop (suc at) c))) l) refl

field-kind : (s : List ℕ) → kind_byte (entry_with 6 s) ≡ 6
unfolding kind_byte entry_with
field-kind s = refl

pub next_field : (c : List ℕ) (at : ℕ) → at + 11 ≤ length c → get_or c at 0 ≡ 6 → next_sq c at ≡ next_sq c (at + 11)
unfolding entry_size kind_size
next_field c at h q =
    let k : kind_byte (entry_of (drop at c)) ≡ 6 = ap kind_byte (field-entry c at h q) ∙ field-kind (drop (suc at) c) in
    next-on c at 11 (entry_of (drop at c)) refl (sym (ap kind_size k)) (λ z. omega (arith, z)) (λ z. omega (arith, k, z))

-- ---- what is there

-- the first SQ entry, if there is one, is of that kind
from-none : (es : List Entry) → (kind_byte (first_entry (entries_from 2 0 es)) ≡ 2 → ⊥) → entries_from 2 0 es ≡ []
unfolding entries_from first_entry
from-none [] h = refl
from-none (e ∷ es) h = go (eqb (kind_byte e) 2) refl h (from-none es)
  where
    go : (b : Bool) → eqb (kind_byte e) 2 ≡ b → (kind_byte (first_entry (cond b (e ∷ es) (entries_from 2 0 es))) ≡ 2 → ⊥)
        → ((kind_byte (first_entry (entries_from 2 0 es)) ≡ 2 → ⊥) → entries_from 2 0 es ≡ []) → cond b (e ∷ es) (entries_from 2 0 es) ≡ []
    go true q h ih = absurd (h (eqb-true (kind_byte e) 2 q))
    go false q h ih = ih h

pub sq-size : (e : Entry) → kind_byte e ≡ 2 → 21 ≡ entry_size e
unfolding entry_size kind_size
sq-size e q = sym (ap kind_size q)

module _ (c : List ℕ) (at r : ℕ) (is : r ≡ next_sq c at) (e : Entry) (found : e ≡ entry_of (drop r c)) where
  from : entries_in (drop r c) ≡ entries_from 2 0 (entries_in (drop at c))
  from =
      ap (λ n. entries_in (drop n c)) is
      ∙ ap entries_in (sym (drop-drop (sizes (entries_before 2 0 (entries_in (drop at c)))) at c))
      ∙ from_entries 2 0 (drop at c)

  pub no_more : (kind_byte e ≡ 2 → ⊥) → entries_from 2 0 (entries_in (drop at c)) ≡ []
  no_more q =
      let f : e ≡ first_entry (entries_from 2 0 (entries_in (drop at c))) = found ∙ sym (front-entry (drop r c)) ∙ ap first_entry from in
      from-none (entries_in (drop at c)) (λ z. q (ap kind_byte f ∙ z))

  module _ (q : kind_byte e ≡ 2) where
    some : ◌≡◌ {A = ℕ} 21 0 → ⊥
    some z = omega (arith, z)

    pub one_more : entries_from 2 0 (entries_in (drop at c)) ≡ e ∷ entries_in (drop (r + 21) c)
    one_more = sym from ∙ turn_on c r 21 e found (sq-size e q) some

    pub sq-within : r + 21 ≤ length c
    sq-within = turn-within c r 21 e found (sq-size e q) some

  -- ---- how many there are

  counted-from : (es : List Entry) → counted 2 (entries_from 2 0 es) ≡ counted 2 es
  unfolding counted entries_from
  counted-from [] = refl
  counted-from (x ∷ es) = go (eqb (kind_byte x) 2) refl (counted-from es)
    where
      go : (b : Bool) → eqb (kind_byte x) 2 ≡ b → counted 2 (entries_from 2 0 es) ≡ counted 2 es
          → counted 2 (cond b (x ∷ es) (entries_from 2 0 es)) ≡ cond b (suc (counted 2 es)) (counted 2 es)
      go true q ih = ap (λ b. cond b (suc (counted 2 es)) (counted 2 es)) q
      go false q ih = ih

  pub count_none : (kind_byte e ≡ 2 → ⊥) → counted 2 (entries_in (drop at c)) ≡ 0
  unfolding counted
  count_none q = sym (counted-from (entries_in (drop at c))) ∙ ap (counted 2) (no_more q)

  pub count-on : kind_byte e ≡ 2 → counted 2 (entries_in (drop at c)) ≡ suc (counted 2 (entries_in (drop (r + 21) c)))
  unfolding counted
  count-on q =
      let es : List Entry = entries_in (drop (r + 21) c) in
      sym (counted-from (entries_in (drop at c))) ∙ ap (counted 2) (one_more q) ∙ ap (λ b. cond b (suc (counted 2 es)) (counted 2 es)) (eq-eqb (kind_byte e) 2 q)
