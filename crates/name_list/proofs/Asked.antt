-- The names of a list, one at a time.
use Prim.Native.Nat.{ℕ, suc, ◌+◌, ◌-◌, ◌≤◌, ◌<◌}
use mathlib.Core.Path.{◌≡◌, refl, sym, ap, ◌∙◌}
use mathlib.Core.Bool.{Bool, true, false, cond}
use mathlib.Core.List.{List, [], ◌∷◌}
use native.Mathlib.Omega.{arith}
use lib.ListN.{length, get_or, take, drop, length-drop, drop_of_length-le}
use lib.Seq.{drop-cons, drop-drop, take_all}
use native.Mathlib.Numerals.{add-one}
use lib.Dec.{eqb}
use borrow.Author.Tests.{eq-eqb, ne_eqb}
use Rattle.std.specs.Prelude.{count_by, ◌==◌}
use Rattle.std.proofs.lemmas.List.Recursion.{is_count_by}
use Rattle.format.specs.Lines.{onto}
use Rattle.byte_slices.specs.Upto.{upto}
use Rattle.byte_slices.proofs.Lines.{upto_le}
use Rattle.format.specs.Asked.{asked}
use Rattle.name_list.specs.Ends.{ends}

-- a byte that is not an LF comes before the first name of what follows
onto-asked : (b : ℕ) (s : List ℕ) → ((c : ℕ) (r : List ℕ) → s ≡ c ∷ r → asked s ≡ take (upto 10 s) s ∷ asked (drop (suc (upto 10 s)) s))
    → onto b (asked s) ≡ (b ∷ take (upto 10 s) s) ∷ asked (drop (suc (upto 10 s)) s)
unfolding onto asked upto
onto-asked b [] h = refl
onto-asked b (c ∷ r) h = ap (onto b) (h c r refl)

first-asked : (b : ℕ) (s : List ℕ) → asked (b ∷ s) ≡ take (upto 10 (b ∷ s)) (b ∷ s) ∷ asked (drop (suc (upto 10 (b ∷ s))) (b ∷ s))
unfolding asked upto
first-asked b [] = go (eqb b 10)
  where
    go : (t : Bool) → cond t ([] ∷ asked []) (onto b (asked [])) ≡ take (cond t 0 1) (b ∷ []) ∷ asked (drop (suc (cond t 0 1)) (b ∷ []))
    go true = refl
    go false = refl
first-asked b (c ∷ s) = go (eqb b 10) (onto-asked b (c ∷ s) (λ d r e. first-asked c s))
  where
    go : (t : Bool) → onto b (asked (c ∷ s)) ≡ (b ∷ take (upto 10 (c ∷ s)) (c ∷ s)) ∷ asked (drop (suc (upto 10 (c ∷ s))) (c ∷ s))
        → cond t ([] ∷ asked (c ∷ s)) (onto b (asked (c ∷ s))) ≡ take (cond t 0 (suc (upto 10 (c ∷ s)))) (b ∷ c ∷ s) ∷ asked (drop (suc (cond t 0 (suc (upto 10 (c ∷ s))))) (b ∷ c ∷ s))
    go true h = refl
    go false h = h

pub asked-first : (s : List ℕ) → 0 < length s → asked s ≡ take (upto 10 s) s ∷ asked (drop (suc (upto 10 s)) s)
asked-first [] h = absurd (omega arith)
asked-first (b ∷ s) h = first-asked b s

-- ---- how many there are

onto-length : (b : ℕ) (xs : List (List ℕ)) → 0 < length xs → length (onto b xs) ≡ length xs
unfolding onto
onto-length b [] h = absurd (omega arith)
onto-length b (x ∷ xs) h = refl

-- one for each LF, and one more where the last byte is not an LF
pub asked-count : (b : ℕ) (s : List ℕ) → length (asked (b ∷ s)) ≡ ends (b ∷ s) + cond (eqb (get_or (b ∷ s) (length s) 0) 10) 0 1
unfolding asked ends onto
asked-count b [] = go (eqb b 10)
  where
    go : (t : Bool) → length (cond t ([] ∷ asked []) (onto b (asked []))) ≡ cond t (suc (ends [])) (ends []) + cond t 0 1
    go true = refl
    go false = refl
asked-count b (c ∷ s) = go (eqb b 10) (asked-count c s)
  where
    more : 0 < length (asked (c ∷ s))
    more = omega (arith, ap length (first-asked c s))

    go : (t : Bool) → length (asked (c ∷ s)) ≡ ends (c ∷ s) + cond (eqb (get_or (c ∷ s) (length s) 0) 10) 0 1
        → length (cond t ([] ∷ asked (c ∷ s)) (onto b (asked (c ∷ s)))) ≡ cond t (suc (ends (c ∷ s))) (ends (c ∷ s)) + cond (eqb (get_or (c ∷ s) (length s) 0) 10) 0 1
    go true h = omega (arith, h)
    go false h = onto-length b (asked (c ∷ s)) more ∙ h

-- no more than its bytes
onto-few : (b : ℕ) (ps : List (List ℕ)) → length (onto b ps) ≤ suc (length ps)
unfolding onto
onto-few b [] = omega arith
onto-few b (p ∷ ps) = omega arith

pub asked-few : (s : List ℕ) → length (asked s) ≤ length s
unfolding asked
asked-few [] = omega arith
asked-few (b ∷ s) = go (eqb b 10) (asked-few s)
  where
    go : (t : Bool) → length (asked s) ≤ length s → length (cond t ([] ∷ asked s) (onto b (asked s))) ≤ suc (length s)
    go true h = omega (arith, h)
    go false h = omega (arith, h, onto-few b (asked s))

module _ (list : List ℕ) where
  pub count_none : length list ≡ 0 → length (asked list) ≡ ends list
  unfolding asked ends
  count_none h = go list h
    where
      go : (s : List ℕ) → length s ≡ 0 → length (asked s) ≡ ends s
      go [] h = refl
      go (b ∷ s) h = absurd (omega (arith, h))

  last : (length list ≡ 0 → ⊥) → length (asked list) ≡ ends list + cond (eqb (get_or list (length list - 1) 0) 10) 0 1
  last h = go list h
    where
      go : (s : List ℕ) → (length s ≡ 0 → ⊥) → length (asked s) ≡ ends s + cond (eqb (get_or s (length s - 1) 0) 10) 0 1
      go [] h = absurd (h refl)
      go (b ∷ s) h = let z : suc (length s) - 1 ≡ length s = omega arith in asked-count b s ∙ ap (λ i. ends (b ∷ s) + cond (eqb (get_or (b ∷ s) i 0) 10) 0 1) (sym z)

  pub count-ended : (length list ≡ 0 → ⊥) → get_or list (length list - 1) 0 ≡ 10 → length (asked list) ≡ ends list
  count-ended h q = last h ∙ ap (λ b. ends list + cond b 0 1) (eq-eqb _ 10 q) ∙ omega arith

  pub count_left : (length list ≡ 0 → ⊥) → (get_or list (length list - 1) 0 ≡ 10 → ⊥) → length (asked list) ≡ ends list + 1
  count_left h q = last h ∙ ap (λ b. ends list + cond b 0 1) (ne_eqb _ 10 q)

-- the LFs, counted as std does
pub ends-counted : (s : List ℕ) → ends s ≡ count_by (λ b. b == 10) s
unfolding ends
ends-counted s = is_count_by ends (λ b. b == 10) refl (λ b s. go (eqb b 10) (ends s)) s
  where
    go : (t : Bool) (n : ℕ) → cond t (suc n) n ≡ cond t (1 + n) n
    go true n = omega arith
    go false n = refl

pub ends-few : (s : List ℕ) → ends s ≤ length s
unfolding ends
ends-few [] = omega arith
ends-few (b ∷ s) = go (eqb b 10) (ends-few s)
  where
    go : (t : Bool) → ends s ≤ length s → cond t (suc (ends s)) (ends s) ≤ suc (length s)
    go true h = omega arith
    go false h = omega arith

-- a walk that counts LFs, at `i`
module _ (list : List ℕ) (i : ℕ) where
  pub ends-none : length list ≤ i → ends (drop i list) ≡ 0
  unfolding ends
  ends-none h = ap ends (drop_of_length-le list h)

  module _ (l : i < length list) where
    opened : ends (drop i list) ≡ cond (eqb (get_or list i 0) 10) (suc (ends (drop (i + 1) list))) (ends (drop (i + 1) list))
    unfolding ends
    opened = rw (drop-cons list i 0 l, add-one i) refl

    pub ends-one : get_or list i 0 ≡ 10 → ends (drop i list) ≡ suc (ends (drop (i + 1) list))
    ends-one q = opened ∙ ap (λ b. cond b (suc (ends (drop (i + 1) list))) (ends (drop (i + 1) list))) (eq-eqb (get_or list i 0) 10 q)

    pub ends_on : (get_or list i 0 ≡ 10 → ⊥) → ends (drop i list) ≡ ends (drop (i + 1) list)
    ends_on q = opened ∙ ap (λ b. cond b (suc (ends (drop (i + 1) list))) (ends (drop (i + 1) list))) (ne_eqb (get_or list i 0) 10 q)

-- ---- a step of a walk that is at `at`, with `n` bytes before the next LF

module _ (list : List ℕ) (at : ℕ) where
  pub asked-none : length list ≤ at → asked (drop at list) ≡ []
  unfolding asked
  asked-none h = ap asked (drop_of_length-le list h)

  module _ (n : ℕ) (is : n ≡ upto 10 (take (length list - at) (drop at list))) (l : at < length list) where
    left : take (length list - at) (drop at list) ≡ drop at list
    left = take_all (length list - at) (drop at list) (omega (arith, length-drop at list))

    reach : n ≡ upto 10 (drop at list)
    reach = is ∙ ap (upto 10) left

    pub name-within : at + n ≤ length list
    name-within = omega (arith, reach, upto_le 10 (drop at list), length-drop at list)

    pub asked-on : asked (drop at list) ≡ take n (drop at list) ∷ asked (drop (at + n + 1) list)
    asked-on =
        let z : at + suc n ≡ at + n + 1 = omega arith in
        asked-first (drop at list) (omega (arith, length-drop at list))
        ∙ ap (λ m. take m (drop at list) ∷ asked (drop (suc m) (drop at list))) (sym reach)
        ∙ ap (λ r. take n (drop at list) ∷ asked r) (drop-drop (suc n) at list ∙ ap (λ m. drop m list) z)
