-- What a search along the slots finds of the values that entered.
use Prim.Native.Nat.{ℕ, zero, suc, ◌+◌, ◌/◌, ◌%◌, ◌<◌}
use mathlib.Core.Path.{◌≡◌, refl, sym, ap, ap₂, subst, ◌∙◌}
use mathlib.Core.Bool.{Bool, true, false, ◌&&◌, cond}
use mathlib.Core.List.{List, [], ◌∷◌, ◌++◌}
use native.Mathlib.Omega.{arith}
use native.Mathlib.Nat.{mod-lt, mod-eq_of_lt, mod-add-mod, mul-add-div_right, mul-add-mod_self_right, div-eq_of_lt, div-div-eq-div-mul}
use lib.ListN.{length, drop, set}
use lib.Dec.{ltb, eqb}
use borrow.Author.Tests.{eqb-true, eqb-false, lt-ltb, eq-eqb, ne_eqb}
use Rattle.format.specs.Bytes.{same}
use Rattle.format.specs.Slots.{around, full, seat, seek, pick, Held}
use Rattle.format.proofs.Slots.{around-length, filled_around, full-lt, held-enter}
use Rattle.byte_slices.proofs.Equal.{same-equal}
use Rattle.lists.proofs.Bools.{and_left, and_right}
use Rattle.key_at.specs.Word.{word}
use Rattle.key_look.specs.Seed.{key_number}
use Rattle.key_look.specs.declared.Sought.TheVariants.{Known, Free}
use Rattle.key_look.specs.Sought.{fingerprint, key_told, tells_key, first_slot, look_along, sought}
use Rattle.key_index.specs.KeySlots.{value, start, says_known, after_looking}
use Rattle.key_look.specs.declared.Seed.{Seed}

-- ---- what it finds

pub known-seek : (hit : ℕ → Bool) (n at : ℕ) (ss : List ℕ) → says_known (look_along hit n at ss) ≡ ltb 0 (seek hit ss)
unfolding says_known look_along seek
known-seek hit n at [] = refl
known-seek hit n at (zero ∷ ss) = refl
known-seek hit n at (suc k ∷ ss) = go (hit (suc k)) (known-seek hit n ((at + 1) % n) ss)
  where
    go : (b : Bool) → says_known (look_along hit n ((at + 1) % n) ss) ≡ ltb 0 (seek hit ss) → says_known (cond b (Known at) (look_along hit n ((at + 1) % n) ss)) ≡ ltb 0 (cond b (suc k) (seek hit ss))
    go true ih = sym (lt-ltb 0 (suc k) (omega arith))
    go false ih = ih

free-seat : (hit : ℕ → Bool) (n at : ℕ) (ss : List ℕ) → at < n → full ss < length ss → seek hit ss ≡ 0 → look_along hit n at ss ≡ Free ((at + full ss) % n)
unfolding look_along seek full
free-seat hit n at [] a l e = absurd (omega (arith, l))
free-seat hit n at (zero ∷ ss) a l e = ap Free (sym (mod-eq_of_lt a) ∙ ap (λ m. m % n) (let z : at ≡ at + 0 = omega arith in z))
free-seat hit n at (suc k ∷ ss) a l e = go (hit (suc k)) e (free-seat hit n ((at + 1) % n) ss (mod-lt _ (omega (arith, a))) (omega (arith, l)))
  where
    go : (b : Bool) → cond b (suc k) (seek hit ss) ≡ 0 → (seek hit ss ≡ 0 → look_along hit n ((at + 1) % n) ss ≡ Free (((at + 1) % n + full ss) % n))
        → cond b (Known at) (look_along hit n ((at + 1) % n) ss) ≡ Free ((at + suc (full ss)) % n)
    go true e ih = absurd (omega (arith, e))
    go false e ih = ih e ∙ ap Free (mod-add-mod (at + 1) n (full ss) ∙ ap (λ m. m % n) (let z : at + 1 + full ss ≡ at + suc (full ss) = omega arith in z))

-- the fingerprint of a value's kind
kind-of-value : (v : ℕ) → v / 536870912 ≡ v / 16777216 / 32
kind-of-value v = sym (div-div-eq-div-mul v 16777216 32)

-- ---- values

pub value-fingerprint : (m at : ℕ) → at < 16777216 → value m at / 16777216 ≡ m
unfolding value
value-fingerprint m at h = mul-add-div_right {m = 16777216} (omega arith) m at ∙ ap (λ n. m + n) (div-eq_of_lt h) ∙ omega arith

pub value-place : (m at : ℕ) → at < 16777216 → value m at % 16777216 ≡ at
unfolding value
value-place m at h = mul-add-mod_self_right m 16777216 at ∙ mod-eq_of_lt h

pub value-key : (t : List ℕ) (m at : ℕ) → at < 16777216 → key_told t (value m at) ≡ word (drop at t)
unfolding key_told
value-key t m at h = ap (λ n. word (drop n t)) (value-place m at h)

module _ (seed : Seed) where
  -- ---- marks

  pub fingerprint-kind : (k : ℕ) (id : List ℕ) → fingerprint seed k id / 32 ≡ k
  unfolding fingerprint
  fingerprint-kind k id =
      let f : key_number seed k id / 134217728 % 32 < 32 = mod-lt _ (omega arith) in
      mul-add-div_right {m = 32} (omega arith) k (key_number seed k id / 134217728 % 32) ∙ ap (λ m. k + m) (div-eq_of_lt f) ∙ omega arith

  -- where two keys are equal, their marks tell their kinds apart
  pub fingerprint-same : (k j : ℕ) (id b : List ℕ) → (eqb (fingerprint seed k id) (fingerprint seed j b) && same id b) ≡ (eqb k j && same id b)
  fingerprint-same k j id b = go (same id b) refl
    where
      and_none : (x y : Bool) → (x && false) ≡ (y && false)
      and_none true true = refl
      and_none true false = refl
      and_none false true = refl
      and_none false false = refl

      kinds : (t : Bool) → eqb k j ≡ t → eqb (fingerprint seed k b) (fingerprint seed j b) ≡ t
      kinds true e = eq-eqb (fingerprint seed k b) (fingerprint seed j b) (ap (λ m. fingerprint seed m b) (eqb-true k j e))
      kinds false e = ne_eqb (fingerprint seed k b) (fingerprint seed j b) (λ q. eqb-false k j e (sym (fingerprint-kind k b) ∙ ap (λ m. m / 32) q ∙ fingerprint-kind j b))

      go : (t : Bool) → same id b ≡ t → (eqb (fingerprint seed k id) (fingerprint seed j b) && t) ≡ (eqb k j && t)
      go true e = ap (λ l. eqb (fingerprint seed k l) (fingerprint seed j b) && true) (same-equal id b e) ∙ ap (λ x. x && true) (kinds (eqb k j) refl)
      go false e = and_none (eqb (fingerprint seed k id) (fingerprint seed j b)) (eqb k j)

  -- ---- a key among the values that entered

  module _ (t slots vs : List ℕ) (p : 0 < length slots) (g : Held (start seed t (length slots)) slots vs) (k : ℕ) (id : List ℕ) where
    pub begins-lt : first_slot seed (length slots) k id < length slots
    unfolding first_slot
    begins-lt = mod-lt _ p

    starts : (v : ℕ) → tells_key seed t k id v ≡ true → start seed t (length slots) v ≡ first_slot seed (length slots) k id
    unfolding tells_key start
    starts v e =
        let m : fingerprint seed k id ≡ v / 16777216 = eqb-true (fingerprint seed k id) (v / 16777216) (and_left (eqb (fingerprint seed k id) (v / 16777216)) (same id (key_told t v)) e) in
        ap₂ (λ j w. first_slot seed (length slots) j w) (kind-of-value v ∙ ap (λ n. n / 32) (sym m) ∙ fingerprint-kind k id)
        (sym (same-equal id (key_told t v) (and_right (eqb (fingerprint seed k id) (v / 16777216)) (same id (key_told t v)) e)))

    pub found : seek (tells_key seed t k id) (around (first_slot seed (length slots) k id) slots) ≡ pick (tells_key seed t k id) vs
    found = g.finds (tells_key seed t k id) (first_slot seed (length slots) k id) begins-lt starts

    -- it is known exactly if one of them holds it
    pub sought-known : says_known (sought seed t slots k id) ≡ ltb 0 (pick (tells_key seed t k id) vs)
    unfolding sought
    sought-known = known-seek (tells_key seed t k id) (length slots) (first_slot seed (length slots) k id) (around (first_slot seed (length slots) k id) slots) ∙ ap (ltb 0) found

    -- a new one enters, where an empty slot is left
    pub sought-enters : (v : ℕ) → (v ≡ 0 → ⊥) → start seed t (length slots) v ≡ first_slot seed (length slots) k id → length vs < length slots → pick (tells_key seed t k id) vs ≡ 0
        → Held (start seed t (length slots)) (after_looking true v slots (sought seed t slots k id)) (vs ++ (v ∷ []))
    unfolding sought after_looking seat
    sought-enters zero z e l q = absurd (z refl)
    sought-enters (suc j) z e l q =
        let at : ℕ = first_slot seed (length slots) k id in
        let n = around-length at slots (omega (arith, begins-lt)) in
        let free : look_along (tells_key seed t k id) (length slots) at (around at slots) ≡ Free ((at + full (around at slots)) % length slots) =
        free-seat (tells_key seed t k id) (length slots) at (around at slots) begins-lt (full-lt (around at slots) (omega (arith, n, filled_around at slots, g.few, l))) (found ∙ q) in
        rw free
        (subst (λ m. Held (start seed t (length slots)) (set slots ((m + full (around m slots)) % length slots) (suc j)) (vs ++ (suc j ∷ []))) e
        (held-enter (start seed t (length slots)) slots vs g j l (omega (arith, e, begins-lt))))

  pub value-start : (t : List ℕ) (n k : ℕ) (id : List ℕ) (at : ℕ) → at < 16777216 → start seed t n (value (fingerprint seed k id) at) ≡ first_slot seed n k (word (drop at t))
  unfolding start
  value-start t n k id at h =
      ap₂ (λ j w. first_slot seed n j w) (kind-of-value (value (fingerprint seed k id) at) ∙ ap (λ m. m / 32) (value-fingerprint (fingerprint seed k id) at h) ∙ fingerprint-kind k id) (value-key t (fingerprint seed k id) at h)

  pub value_tells : (t : List ℕ) (j : ℕ) (id : List ℕ) (m at : ℕ) → at < 16777216 → tells_key seed t j id (value m at) ≡ (eqb (fingerprint seed j id) m && same id (word (drop at t)))
  unfolding tells_key
  value_tells t j id m at h = ap₂ (λ n w. eqb (fingerprint seed j id) n && same id w) (value-fingerprint m at h) (value-key t m at h)
