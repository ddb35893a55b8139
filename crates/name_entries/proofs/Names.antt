-- The names that the SQ entries say: as many as there are, each at its ordinal.
use Prim.Native.Nat.{ℕ, zero, suc}
use mathlib.Core.Path.{◌≡◌, refl, ap}
use mathlib.Core.Bool.{Bool, true, false, cond}
use mathlib.Core.List.{List, [], ◌∷◌}
use lib.ListN.{length, get_or}
use lib.Dec.{eqb}
use Rattle.catalogue_entries.specs.declared.Entry.{Entry}
use Rattle.catalogue_entries.specs.Entries.{kind_byte, counted}
use Rattle.catalogue_lookup.specs.Lookup.{entries_from, first_entry}
use Rattle.name_entries.specs.Names.{name_in, names_in}

module _ (t : List ℕ) where
  pub names-counted : (es : List Entry) → length (names_in t es) ≡ counted 2 es
  unfolding names_in counted
  names-counted [] = refl
  names-counted (e ∷ es) = go (eqb (kind_byte e) 2) (names-counted es)
    where
      go : (b : Bool) → length (names_in t es) ≡ counted 2 es → length (cond b (name_in t e ∷ names_in t es) (names_in t es)) ≡ cond b (suc (counted 2 es)) (counted 2 es)
      go true ih = ap suc ih
      go false ih = ih

  pub name-from : (k : ℕ) (es : List Entry) → name_in t (first_entry (entries_from 2 k es)) ≡ get_or (names_in t es) k []
  unfolding name_in first_entry entries_from names_in
  name-from k [] = refl
  name-from zero (e ∷ es) = go (eqb (kind_byte e) 2) (name-from zero es)
    where
      go : (b : Bool) → name_in t (first_entry (entries_from 2 0 es)) ≡ get_or (names_in t es) 0 []
          → name_in t (first_entry (cond b (e ∷ es) (entries_from 2 0 es))) ≡ get_or (cond b (name_in t e ∷ names_in t es) (names_in t es)) 0 []
      go true ih = refl
      go false ih = ih
  name-from (suc k) (e ∷ es) = go (eqb (kind_byte e) 2) (name-from k es) (name-from (suc k) es)
    where
      go : (b : Bool) → name_in t (first_entry (entries_from 2 k es)) ≡ get_or (names_in t es) k [] → name_in t (first_entry (entries_from 2 (suc k) es)) ≡ get_or (names_in t es) (suc k) []
          → name_in t (first_entry (cond b (entries_from 2 k es) (entries_from 2 (suc k) es))) ≡ get_or (cond b (name_in t e ∷ names_in t es) (names_in t es)) (suc k) []
      go true ih jh = ih
      go false ih jh = jh
