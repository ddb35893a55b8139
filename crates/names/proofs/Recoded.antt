-- Where a name enters does not depend on what the slots hold: slots with other values in the same places are filled alike, and looked in alike.
use Prim.Native.Nat.{ℕ, zero, suc, ◌+◌, ◌%◌, ◌≤◌, ◌<◌}
use mathlib.Core.Path.{◌≡◌, refl, sym, ap, ap₂, ◌∙◌}
use mathlib.Core.Bool.{Bool, true, false, cond}
use mathlib.Core.List.{List, [], ◌∷◌, ◌++◌, map, map-append}
use native.Mathlib.Omega.{arith}
use lib.ListN.{length, get_or, take, drop, set, replicate, length-map, get_or-eq_default}
use Rattle.format.specs.Slots.{around, full, seat, seek}
use Rattle.format.specs.NameIndex.{absent, first, path, enter, ordinal_of, looked}
use Rattle.name_lookup.specs.Looking.{landing, landed, ordinal_at}
use Rattle.name_index.proofs.Path.{path-length, path-at}

-- the value of the ordinal `k` is `f k`: each plus one, and an empty slot stays empty
unfoldable pub recode : (ℕ → ℕ) → ℕ → ℕ
recode f zero = zero
recode f (suc k) = suc (f k)

-- ---- lists

map-take : (g : ℕ → ℕ) (n : ℕ) (s : List ℕ) → take n (map g s) ≡ map g (take n s)
map-take g zero s = refl
map-take g (suc n) [] = refl
map-take g (suc n) (a ∷ s) = ap (λ l. g a ∷ l) (map-take g n s)

map-drop : (g : ℕ → ℕ) (n : ℕ) (s : List ℕ) → drop n (map g s) ≡ map g (drop n s)
map-drop g zero s = refl
map-drop g (suc n) [] = refl
map-drop g (suc n) (a ∷ s) = map-drop g n s

map-set : (g : ℕ → ℕ) (s : List ℕ) (i v : ℕ) → set (map g s) i (g v) ≡ map g (set s i v)
map-set g [] i v = refl
map-set g (a ∷ s) zero v = refl
map-set g (a ∷ s) (suc i) v = ap (λ l. g a ∷ l) (map-set g s i v)

-- ---- places

module _ (f : ℕ → ℕ) where
  around-recode : (at : ℕ) (slots : List ℕ) → around at (map (recode f) slots) ≡ map (recode f) (around at slots)
  unfolding around
  around-recode at slots =
      ap₂ (λ a b. a ++ b) (map-drop (recode f) at slots) (map-take (recode f) at slots) ∙ sym (map-append (recode f) (drop at slots) (take at slots))

  full-recode : (ss : List ℕ) → full (map (recode f) ss) ≡ full ss
  unfolding full recode
  full-recode [] = refl
  full-recode (zero ∷ ss) = refl
  full-recode (suc k ∷ ss) = ap suc (full-recode ss)

  seat-recode : (at : ℕ) (slots : List ℕ) → seat at (map (recode f) slots) ≡ seat at slots
  unfolding seat
  seat-recode at slots = ap₂ (λ q m. (at + q) % m) (ap full (around-recode at slots) ∙ full-recode (around at slots)) (length-map slots (recode f))

  -- a name with the ordinal `k` enters
  pub enter-recode : (k : ℕ) (x slots : List ℕ) → enter (suc (f k)) x (map (recode f) slots) ≡ map (recode f) (enter (suc k) x slots)
  unfolding enter recode
  enter-recode k x slots =
      let at : ℕ = first (length slots) x in
      ap (λ m. set (map (recode f) slots) (seat (first m x) (map (recode f) slots)) (suc (f k))) (length-map slots (recode f))
      ∙ ap (λ i. set (map (recode f) slots) i (suc (f k))) (seat-recode at slots) ∙ map-set (recode f) slots (seat at slots) (suc k)

  -- at the same slot
  pub place-recode : (x slots : List ℕ) → seat (first (length (map (recode f) slots)) x) (map (recode f) slots) ≡ seat (first (length slots) x) slots
  place-recode x slots =
      ap (λ m. seat (first m x) (map (recode f) slots)) (length-map slots (recode f)) ∙ seat-recode (first (length slots) x) slots

  pub none-recode : (n : ℕ) → map (recode f) (replicate n 0) ≡ replicate n 0
  unfolding recode
  none-recode zero = refl
  none-recode (suc n) = ap (λ l. 0 ∷ l) (none-recode n)

  path-recode : (x slots : List ℕ) → path x (map (recode f) slots) ≡ map (recode f) (path x slots)
  unfolding path
  path-recode x slots = ap (λ m. around (first m x) (map (recode f) slots)) (length-map slots (recode f)) ∙ around-recode (first (length slots) x) slots

  -- ---- searches that accept the same values

  module _ (hit own : ℕ → Bool) (alike : (k : ℕ) → hit (suc (f k)) ≡ own (suc k)) where
    landing-recode : (n i : ℕ) (ss : List ℕ) → landing hit n i (map (recode f) ss) ≡ landing own n i ss
    unfolding landing recode
    landing-recode n i [] = refl
    landing-recode n i (zero ∷ ss) = refl
    landing-recode n i (suc k ∷ ss) = ap₂ (λ b r. cond b (i % n) r) (alike k) (landing-recode n (i + 1) ss)

    looked-recode : (ss : List ℕ) → looked hit (map (recode f) ss) ≡ looked own ss
    unfolding looked recode
    looked-recode [] = refl
    looked-recode (zero ∷ ss) = refl
    looked-recode (suc k ∷ ss) = ap₂ (λ b r. cond b 1 (suc r)) (alike k) (looked-recode ss)

    pub looks-recode : (slots x : List ℕ) → looked hit (path x (map (recode f) slots)) ≡ looked own (path x slots)
    looks-recode slots x = ap (looked hit) (path-recode x slots) ∙ looked-recode (path x slots)

    pub landed-recode : (slots x : List ℕ) → landed hit (map (recode f) slots) x ≡ landed own slots x
    unfolding landed
    landed-recode slots x =
        ap (λ m. landing hit m (first m x) (path x (map (recode f) slots))) (length-map slots (recode f))
        ∙ ap (landing hit (length slots) (first (length slots) x)) (path-recode x slots)
        ∙ landing-recode (length slots) (first (length slots) x) (path x slots)

-- ---- the slot at which a search ends holds what is found

module _ (hit : ℕ → Bool) (x slots : List ℕ) (some : 0 < length slots) (few : length slots ≤ absent) where
  nothing : ordinal_at slots absent ≡ absent
  unfolding ordinal_at ordinal_of
  nothing = ap ordinal_of (get_or-eq_default slots 0 few)

  landing-holds : (i : ℕ) (ss : List ℕ) → ((r : ℕ) → r < length ss → get_or ss r 0 ≡ get_or slots ((i + r) % length slots) 0)
      → ordinal_at slots (landing hit (length slots) i ss) ≡ ordinal_of (seek hit ss)
  unfolding landing seek ordinal_of ordinal_at
  landing-holds i [] h = nothing
  landing-holds i (zero ∷ ss) h = nothing
  landing-holds i (suc k ∷ ss) h = go (hit (suc k)) (landing-holds (i + 1) ss (λ r l. h (suc r) (omega (arith, l)) ∙ ap (λ j. get_or slots (j % length slots) 0) (next r)))
    where
      next : (r : ℕ) → i + suc r ≡ i + 1 + r
      next r = omega arith

      here : ordinal_at slots (i % length slots) ≡ k
      here = let z : i + 0 ≡ i = omega arith in ap ordinal_of (sym (h 0 (omega arith) ∙ ap (λ j. get_or slots (j % length slots) 0) z))

      go : (t : Bool) → ordinal_at slots (landing hit (length slots) (i + 1) ss) ≡ ordinal_of (seek hit ss)
          → ordinal_at slots (cond t (i % length slots) (landing hit (length slots) (i + 1) ss)) ≡ ordinal_of (cond t (suc k) (seek hit ss))
      go true ih = here
      go false ih = ih

  pub landed-holds : ordinal_at slots (landed hit slots x) ≡ ordinal_of (seek hit (path x slots))
  unfolding landed
  landed-holds = landing-holds (first (length slots) x) (path x slots) (λ r l. path-at slots x some r (omega (arith, l, path-length slots x some)))
