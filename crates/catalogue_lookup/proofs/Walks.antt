-- The laws of what is found in the entries of any bytes: what is at a place is the first of the entries from there on.
use Prim.Native.Nat.{ℕ, zero, suc, ◌+◌, ◌≤◌}
use mathlib.Core.Path.{◌≡◌, refl, sym, ap, ◌∙◌}
use mathlib.Core.Logic.{◌⊎◌, inl, inr}
use mathlib.Core.Bool.{Bool, true, false}
use mathlib.Core.List.{List, [], ◌∷◌}
use native.Mathlib.Omega.{arith}
use lib.ListN.{length, drop, length-drop}
use lib.Seq.{drop-drop}
use lib.Dec.{eqb}
use borrow.Author.Tests.{eqb-true, eqb-false}
use Rattle.catalogue_entries.specs.declared.Entry.{Entry}
use Rattle.catalogue_entries.specs.declared.Entry.TheVariants.{End}
use Rattle.catalogue_entries.specs.Entries.{kind_byte, kind_size, entry_size, entry_of, entries_in, entries_before, sizes}
use Rattle.catalogue_entries.proofs.Walk.{size-end, size-within, entries_none, entries-more}
use Rattle.catalogue_entries.proofs.Written.{end-size}
use Rattle.catalogue_lookup.specs.Lookup.{entries_from, first_entry}

-- the bytes end there, or an entry is there
pub walk-cases : {C : Type 0} (s : List ℕ) → (entry_of s ≡ End → entries_in s ≡ [] → C) → ((entry_size (entry_of s) ≡ 0 → ⊥) → entries_in s ≡ entry_of s ∷ entries_in (drop (entry_size (entry_of s)) s) → C) → C
walk-cases {C} s f g = go (eqb (entry_size (entry_of s)) 0) refl
  where
    go : (t : Bool) → eqb (entry_size (entry_of s)) 0 ≡ t → C
    go true q = let z : entry_size (entry_of s) ≡ 0 = eqb-true (entry_size (entry_of s)) 0 q in f (size-end (entry_of s) z) (entries_none s z)
    go false q = let z : entry_size (entry_of s) ≡ 0 → ⊥ = eqb-false (entry_size (entry_of s)) 0 q in g z (entries-more s z)

pub front-entry : (s : List ℕ) → first_entry (entries_in s) ≡ entry_of s
unfolding first_entry
front-entry s = walk-cases s (λ e n. ap first_entry n ∙ sym e) (λ z m. ap first_entry m)

pub rest-entries : (s : List ℕ) → drop 1 (entries_in s) ≡ entries_in (drop (entry_size (entry_of s)) s)
unfolding entry_size kind_byte kind_size
rest-entries s = walk-cases s (λ e n. ap (drop 1) n ∙ sym n ∙ ap (λ x. entries_in (drop (entry_size x) s)) (sym e)) (λ z m. ap (drop 1) m)

-- ---- from where a record's entry is found on

abbrev From : ℕ → ℕ → List ℕ → Type 0
From k i s = entries_in (drop (sizes (entries_before k i (entries_in s))) s) ≡ entries_from k i (entries_in s)

module _ (k : ℕ) (s : List ℕ) where
  ended : (i : ℕ) → entries_in s ≡ [] → From k i s
  unfolding entries_before sizes entries_from
  ended i n = ap (λ es. entries_in (drop (sizes (entries_before k i es)) s)) n ∙ n ∙ ap (entries_from k i) (sym n)

  abbrev behind : List ℕ
  behind = drop (entry_size (entry_of s)) s

  -- one entry is passed, and the law holds after it
  turn : (i : ℕ) → entries_in s ≡ entry_of s ∷ entries_in behind → ((j : ℕ) → From k j behind) → From k i s
  unfolding entries_before sizes entries_from
  turn i m ih = ap (λ es. entries_in (drop (sizes (entries_before k i es)) s)) m ∙ go i (eqb (kind_byte (entry_of s)) k) refl ∙ ap (entries_from k i) (sym m)
    where
      e : Entry
      e = entry_of s

      on : (j : ℕ) → entries_in (drop (entry_size e + sizes (entries_before k j (entries_in behind))) s) ≡ entries_from k j (entries_in behind)
      on j = ap entries_in (sym (drop-drop (sizes (entries_before k j (entries_in behind))) (entry_size e) s)) ∙ ih j

      go : (i : ℕ) (t : Bool) → eqb (kind_byte e) k ≡ t → entries_in (drop (sizes (entries_before k i (e ∷ entries_in behind))) s) ≡ entries_from k i (e ∷ entries_in behind)
      go zero true q = rw q m
      go zero false q = rw q (on zero)
      go (suc i) true q = rw q (on i)
      go (suc i) false q = rw q (on (suc i))

from-fuel : (n k i : ℕ) (s : List ℕ) → length s ≤ n → From k i s
from-fuel zero k i s h = ended k s i (entries_none s (omega (arith, size-within s)))
from-fuel (suc n) k i s h =
    walk-cases s (λ e m. ended k s i m)
    (λ z m. turn k s i m (λ j. from-fuel n k j (behind k s) (omega (arith, z, size-within s, length-drop (entry_size (entry_of s)) s))))

pub from_entries : (k i : ℕ) (s : List ℕ) → From k i s
from_entries k i s = from-fuel (length s) k i s (omega arith)

-- the entry at the place that is found, and what comes after it
module _ (k i : ℕ) (s : List ℕ) (at : ℕ) (found : at ≡ sizes (entries_before k i (entries_in s))) where
  found-entries : entries_in (drop at s) ≡ entries_from k i (entries_in s)
  found-entries = ap (λ n. entries_in (drop n s)) found ∙ from_entries k i s

  pub found-entry : entry_of (drop at s) ≡ first_entry (entries_from k i (entries_in s))
  found-entry = sym (front-entry (drop at s)) ∙ ap first_entry found-entries

  pub found-rest : (len : ℕ) → len ≡ entry_size (entry_of (drop at s)) → entries_in (drop (at + len) s) ≡ drop 1 (entries_from k i (entries_in s))
  found-rest len long =
      ap entries_in (sym (drop-drop len at s)) ∙ ap (λ n. entries_in (drop n (drop at s))) long ∙ sym (rest-entries (drop at s)) ∙ ap (drop 1) found-entries

-- it is there, or it takes nothing
pub found_within : (s : List ℕ) (at : ℕ) → (at + entry_size (entry_of (drop at s)) ≤ length s) ⊎ (entry_size (entry_of (drop at s)) ≡ 0)
found_within s at = walk-cases (drop at s) (λ e n. inr (ap entry_size e ∙ end-size)) (λ z m. inl (omega (arith, z, size-within (drop at s), length-drop at s)))
