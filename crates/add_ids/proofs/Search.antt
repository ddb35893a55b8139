-- The laws of the search among the IDs, and of the IDs that are made: one after another, and what is still ahead decides.
use Prim.Native.Nat.{ℕ, suc, ◌+◌, ◌-◌, ◌*◌, ◌/◌, ◌≤◌, ◌<◌}
use mathlib.Core.Path.{◌≡◌, refl, sym, ap, ◌∙◌}
use mathlib.Core.Bool.{Bool, true, false, ◌||◌, cond}
use mathlib.Core.List.{List, [], ◌∷◌}
use mathlib.Core.Option.{some}
use native.Mathlib.Omega.{arith}
use native.Mathlib.Numerals.{add-one}
use lib.ListN.{length, take, drop, get_or, drop_of_length-le, get_or-eq_default}
use lib.Seq.{drop-cons}
use Rattle.format.specs.Bytes.{same}
use Rattle.format.specs.Adding.{is_known}
use Rattle.program_ids.specs.Ids.{ids_at, IdsInText}
use Rattle.program_ids.specs.Search.{id_ordinal_from}
use Rattle.program_ids.proofs.Ids.{ids-length, ids_at_lem}
use Rattle.add_ids.specs.Taken.{joined, is_among, id_in, id_standing, taken}

-- ---- one ID

module _ (t ids : List ℕ) (p : IdsInText t ids) (k : ℕ) where
  pub id-none : length ids / 3 ≤ k → id_in (ids_at t ids) k ≡ []
  unfolding id_in
  id-none h = get_or-eq_default (ids_at t ids) [] (omega (arith, ids-length t ids p))

  -- as it is lent
  pub id-some : k < length ids / 3 → id_in (ids_at t ids) k ≡ take (get_or ids (k * 3) 0 + get_or ids (k * 3 + 1) 0 - get_or ids (k * 3) 0) (drop (get_or ids (k * 3) 0) t)
  unfolding id_in
  id-some h =
      let z : get_or ids (k * 3 + 1) 0 ≡ get_or ids (k * 3) 0 + get_or ids (k * 3 + 1) 0 - get_or ids (k * 3) 0 = omega arith in
      ids_at_lem t ids p k (omega (arith, ids-length t ids p)) ∙ ap (λ n. take n (drop (get_or ids (k * 3) 0) t)) z

  -- where there are no bytes
  pub standing-none : (text : ℕ × ℕ) → length ids / 3 ≤ k → text ≡ id_standing ids k text
  unfolding id_standing
  standing-none text h =
      let l : length ids ≤ k * 3 = omega (arith, ids-length t ids p) in
      let z : text.1 ≡ get_or ids (k * 3) 0 + text.1 = omega (arith, get_or-eq_default ids 0 l) in
      ap (λ n. (text.0, n)) z

-- ---- one after another

-- from where ordinals are counted does not matter
known_from : (id : List ℕ) (j k : ℕ) (ids : List (List ℕ)) → is_known (id_ordinal_from id j ids) ≡ is_known (id_ordinal_from id k ids)
unfolding id_ordinal_from is_known
known_from id j k [] = refl
known_from id j k (x ∷ ids) = go (same id x) (known_from id (j + 1) (k + 1) ids)
  where
    go : (b : Bool) → is_known (id_ordinal_from id (j + 1) ids) ≡ is_known (id_ordinal_from id (k + 1) ids)
        → is_known (cond b (some j) (id_ordinal_from id (j + 1) ids)) ≡ is_known (cond b (some k) (id_ordinal_from id (k + 1) ids))
    go true ih = refl
    go false ih = ih

known_more : (id x : List ℕ) (ids : List (List ℕ)) → is_among id (x ∷ ids) ≡ same id x || is_among id ids
unfolding is_among id_ordinal_from is_known
known_more id x ids = go (same id x)
  where
    go : (b : Bool) → is_known (cond b (some 0) (id_ordinal_from id (0 + 1) ids)) ≡ b || is_known (id_ordinal_from id 0 ids)
    go true = refl
    go false = known_from id (0 + 1) 0 ids

module _ (id : List ℕ) (ids : List (List ℕ)) (k : ℕ) where
  pub known-end : length ids ≤ k → is_among id (drop k ids) ≡ false
  unfolding is_among id_ordinal_from is_known
  known-end h = ap (is_among id) (drop_of_length-le ids h)

  pub known_step : k < length ids → is_among id (drop k ids) ≡ same id (id_in ids k) || is_among id (drop (k + 1) ids)
  unfolding id_in
  known_step h = ap (is_among id) (drop-cons ids k [] h) ∙ known_more id (get_or ids k []) (drop (suc k) ids) ∙ ap (λ n. same id (get_or ids k []) || is_among id (drop n ids)) (sym (add-one k))

module _ (ids : List (List ℕ)) (prefix ks : List ℕ) (i : ℕ) where
  pub taken-end : length ks ≤ i → taken ids prefix (drop i ks) ≡ false
  unfolding taken
  taken-end h = ap (taken ids prefix) (drop_of_length-le ks h)

  pub taken_step : i < length ks → taken ids prefix (drop i ks) ≡ is_among (joined prefix (id_in ids (get_or ks i 0))) ids || taken ids prefix (drop (i + 1) ks)
  unfolding taken
  taken_step h = rw (drop-cons ks i 0 h, add-one i) refl
