-- The laws of a list of IDs: three numbers for each, one after another.
use Prim.Native.Nat.{ℕ, zero, suc, ◌+◌, ◌-◌, ◌*◌, ◌≤◌, ◌<◌}
use mathlib.Core.Path.{◌≡◌, refl, sym, ap, ap₂, subst, ◌∙◌}
use mathlib.Core.List.{List, [], ◌∷◌, ◌++◌, map}
use native.Mathlib.Omega.{arith}
use native.Mathlib.Numerals.{add-one, add-two}
use lib.ListN.{length, take, drop, get_or, set, length-map}
use lib.Seq.{sets-eq, take_all, take-suc, length-take-le}
use Rattle.byte_slices.specs.Over.{over}
use Rattle.byte_slices.proofs.Over.{over-length, over_none, over-take, over-over}
use Rattle.lists.proofs.Pairs.{each_at}
use Rattle.program_chains.proofs.Walks.{map_at}
use Rattle.catalogue_entries.specs.declared.Place.{Place}
use Rattle.program_ids.specs.Places.{InsideText, bytes_at, nowhere, places_of, PlacesInText}
use Rattle.program_ids.specs.Ids.{id_number, id_list, places_in, ids_at, IdsInText}

-- ---- places by numbers

pub places-length : (ats lens : List ℕ) → length ats ≡ length lens → length (places_of ats lens) ≡ length ats
unfolding places_of
places-length [] lens h = refl
places-length (a ∷ ats) [] h = absurd (omega arith)
places-length (a ∷ ats) (l ∷ lens) h = ap suc (places-length ats lens (omega arith))

places-at : (ats lens : List ℕ) (k : ℕ) (d : Place) → length ats ≡ length lens → k < length ats → get_or (places_of ats lens) k d ≡ record { at = get_or ats k 0; len = get_or lens k 0 }
unfolding places_of
places-at [] lens k d h l = absurd (omega arith)
places-at (a ∷ ats) [] k d h l = absurd (omega arith)
places-at (a ∷ ats) (n ∷ lens) zero d h l = refl
places-at (a ∷ ats) (n ∷ lens) (suc k) d h l = places-at ats lens k d (omega arith) (omega arith)

-- ---- the list of some places

list_length : (t : List ℕ) (ps : List Place) → length (id_list t ps) ≡ length ps * 3
unfolding id_list
list_length t [] = refl
list_length t (p ∷ ps) = omega (arith, list_length t ps)

list-places : (t : List ℕ) (ps : List Place) → places_in (id_list t ps) ≡ ps
unfolding id_list places_in
list-places t [] = refl
list-places t (p ∷ ps) = ap (λ qs. p ∷ qs) (list-places t ps)

list-snoc : (t : List ℕ) (ps : List Place) (p : Place) → id_list t (ps ++ (p ∷ [])) ≡ id_list t ps ++ (p.at ∷ p.len ∷ id_number (bytes_at t p) ∷ [])
unfolding id_list
list-snoc t [] p = refl
list-snoc t (q ∷ ps) p = ap (λ xs. q.at ∷ q.len ∷ id_number (bytes_at t q) ∷ xs) (list-snoc t ps p)

-- the three numbers of one of them
record Row (t ids : List ℕ) (k : ℕ) (p : Place) : Type 0 where
  at : get_or ids (k * 3) 0 ≡ p.at
  len : get_or ids (k * 3 + 1) 0 ≡ p.len
  number : get_or ids (k * 3 + 2) 0 ≡ id_number (bytes_at t p)

list-row : (t : List ℕ) (ps : List Place) (k : ℕ) → k < length ps → Row t (id_list t ps) k (get_or ps k nowhere)
unfolding id_list
list-row t [] k h = absurd (omega arith)
list-row t (p ∷ ps) zero h = record { at = refl; len = refl; number = refl }
list-row t (p ∷ ps) (suc k) h =
    let r = list-row t ps k (omega arith) in
    let a : suc k * 3 ≡ suc (suc (suc (k * 3))) = omega arith in
    let b : suc k * 3 + 1 ≡ suc (suc (suc (k * 3 + 1))) = omega arith in
    let c : suc k * 3 + 2 ≡ suc (suc (suc (k * 3 + 2))) = omega arith in
    record { at = rw a r.at; len = rw b r.len; number = rw c r.number }

-- ---- IDs that are lent

module _ (t ids : List ℕ) (p : IdsInText t ids) where
  ids-places : places_in ids ≡ p.places
  ids-places = ap places_in p.is ∙ list-places t p.places

  places_count : length (ids_at t ids) ≡ length p.places
  unfolding ids_at
  places_count = length-map (places_in ids) (bytes_at t) ∙ ap length ids-places

  pub ids-length : length ids ≡ length (ids_at t ids) * 3
  ids-length = ap length p.is ∙ list_length t p.places ∙ ap (λ n. n * 3) (sym places_count)

  pub ids-few : length (ids_at t ids) ≤ 1024
  ids-few = omega (arith, places_count, p.few)

  module _ (k : ℕ) (h : k < length (ids_at t ids)) where
    abbrev place : Place
    place = get_or p.places k nowhere

    early : k < length p.places
    early = omega (arith, places_count)

    row : Row t ids k place
    row = subst (λ xs. Row t xs k place) (sym p.is) (list-row t p.places k early)

    pub row_fits : k * 3 + 2 < length ids
    row_fits = omega (arith, ids-length)

    pub placed-inside : get_or ids (k * 3) 0 + get_or ids (k * 3 + 1) 0 ≤ length t
    placed-inside = omega (arith, row.at, row.len, each_at (InsideText (length t)) p.places k nowhere p.inside early)

    is-there : get_or (ids_at t ids) k [] ≡ bytes_at t place
    unfolding ids_at
    is-there = ap (λ ps. get_or (map (bytes_at t) ps) k []) ids-places ∙ map_at (bytes_at t) p.places k nowhere [] early

    -- the ID there
    pub ids_at_lem : get_or (ids_at t ids) k [] ≡ take (get_or ids (k * 3 + 1) 0) (drop (get_or ids (k * 3) 0) t)
    unfolding bytes_at
    ids_at_lem = is-there ∙ ap₂ (λ l a. take l (drop a t)) (sym row.len) (sym row.at)

    -- and its number
    pub ids-number : get_or ids (k * 3 + 2) 0 ≡ id_number (get_or (ids_at t ids) k [])
    ids-number = row.number ∙ ap id_number (sym is-there)

-- ---- the list, written

-- the first `k` of the IDs are listed
abbrev pub Listed : List ℕ → List Place → List ℕ → List ℕ → ℕ → Type 0
Listed t ps list₀ list k = (list ≡ over list₀ 0 (id_list t (take k ps))) × (k ≤ length ps)

pub listed-none : (t : List ℕ) (ps : List Place) (list : List ℕ) → Listed t ps list list 0
unfolding id_list
listed-none t ps list = (sym (over_none list 0), omega arith)

over-three : (out : List ℕ) (at a b c : ℕ) → at + 3 ≤ length out → set (set (set out at a) (at + 1) b) (at + 2) c ≡ over out at (a ∷ b ∷ c ∷ [])
unfolding over
over-three out at a b c h = rw (add-one at, add-two at) (sets-eq (a ∷ b ∷ c ∷ []) out at h)

module _ (t ats lens : List ℕ) (p : PlacesInText t ats lens) where
  abbrev ps : List Place
  ps = places_of ats lens

  counts : length ps ≡ length ats
  counts = places-length ats lens p.even

  module _ (list₀ list : List ℕ) (room : length ats * 3 ≤ length list₀) (k : ℕ) (l : Listed t ps list₀ list k) where
    done : length (id_list t (take k ps)) ≡ k * 3
    done = list_length t (take k ps) ∙ ap (λ n. n * 3) (length-take-le k ps l.1)

    pub listing-long : length list ≡ length list₀
    listing-long = ap length l.0 ∙ over-length list₀ 0 (id_list t (take k ps)) (omega (arith, done, counts, l.1))

    pub listing-all : length ats ≤ k → list ≡ over list₀ 0 (id_list t ps)
    listing-all h = l.0 ∙ ap (λ qs. over list₀ 0 (id_list t qs)) (take_all k ps (omega (arith, counts)))

  module _ (k : ℕ) (h : k < length ats) where
    pub listing-inside : get_or ats k 0 + get_or lens k 0 ≤ length t
    listing-inside =
        rw (places-at ats lens k nowhere p.even h) at (each_at (InsideText (length t)) ps k nowhere p.inside (omega (arith, counts)))

    -- one more
    module _ (list₀ list : List ℕ) (room : length ats * 3 ≤ length list₀) (l : Listed t ps list₀ list k) where
      pub listing-more : (n : ℕ) → n ≡ id_number (take (get_or ats k 0 + get_or lens k 0 - get_or ats k 0) (drop (get_or ats k 0) t))
          → Listed t ps list₀ (set (set (set list (k * 3) (get_or ats k 0)) (k * 3 + 1) (get_or lens k 0)) (k * 3 + 2) n) (k + 1)
      unfolding bytes_at
      listing-more n e =
          let q : k < length ps = omega (arith, counts) in
          let z : get_or ats k 0 + get_or lens k 0 - get_or ats k 0 ≡ get_or lens k 0 = omega arith in
          let at : k * 3 ≡ 0 + length (id_list t (take k ps)) = omega (arith, done list₀ list room k l) in
          let row : List ℕ = get_or ats k 0 ∷ get_or lens k 0 ∷ n ∷ [] in
          let before : List ℕ = id_list t (take k ps) in
          let is : (id_list t (take (k + 1) ps)) ≡ before ++ row =
          ap (λ m. id_list t (take m ps)) (add-one k) ∙ ap (id_list t) (take-suc ps k nowhere q) ∙ list-snoc t (take k ps) (get_or ps k nowhere)
          ∙ ap (λ x. before ++ (x.at ∷ x.len ∷ id_number (bytes_at t x) ∷ [])) (places-at ats lens k nowhere p.even h)
          ∙ ap (λ m. before ++ (get_or ats k 0 ∷ get_or lens k 0 ∷ m ∷ [])) (ap (λ m. id_number (take m (drop (get_or ats k 0) t))) (sym z) ∙ sym e) in (
            over-three list (k * 3) (get_or ats k 0) (get_or lens k 0) n (omega (arith, listing-long list₀ list room k l))
                ∙ ap₂ (λ xs m. over xs m row) l.0 at
                ∙ over-over list₀ 0 before row (omega (arith, done list₀ list room k l)) ∙ ap (over list₀ 0) (sym is),
            omega (arith, counts),
          )

  -- ---- the list, as it is lent

  module _ (list₀ list : List ℕ) (room : length ats * 3 ≤ length list₀) (e : list ≡ over list₀ 0 (id_list t ps)) where
    long : length ats * 3 ≡ 0 + length (id_list t ps)
    long = omega (arith, list_length t ps, counts)

    front-is : take (length ats * 3) list ≡ id_list t ps
    front-is = ap₂ take long e ∙ over-take list₀ 0 (id_list t ps) (omega arith)

    pub lent-ids : IdsInText t (take (length ats * 3) list)
    lent-ids = record { places = ps; is = front-is; few = omega (arith, counts, p.few); inside = p.inside }

    pub lent-are : ids_at t (take (length ats * 3) list) ≡ map (bytes_at t) ps
    unfolding ids_at
    lent-are = ap (map (bytes_at t)) (ap places_in front-is ∙ list-places t ps)

    pub lent-inside : length ats * 3 ≤ length list
    lent-inside = omega (arith, ap length e, over-length list₀ 0 (id_list t ps) (omega (arith, long)))

    pub lent_length : length (take (length ats * 3) list) ≡ length ats * 3
    lent_length = length-take-le (length ats * 3) list lent-inside
