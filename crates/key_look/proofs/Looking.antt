-- A search along the slots: one slot after another, and the slot at which it ends.
use Prim.Native.Nat.{ℕ, zero, suc, ◌+◌, ◌%◌, ◌≤◌, ◌<◌}
use mathlib.Core.Path.{◌≡◌, refl, sym, ap, subst, ◌∙◌}
use mathlib.Core.Bool.{Bool, true, false, cond}
use mathlib.Core.List.{List, [], ◌∷◌}
use native.Mathlib.Omega.{arith}
use native.Mathlib.Numerals.{add-one}
use native.Mathlib.Nat.{mod-lt, mod-add-mod}
use lib.ListN.{length, drop, get_or, drop_of_length-le}
use lib.Seq.{drop-cons}
use Rattle.format.specs.Slots.{around}
use Rattle.format.proofs.Slots.{around-length, around-at}
use Rattle.key_look.specs.declared.Sought.{Sought}
use Rattle.key_look.specs.declared.Sought.TheVariants.{Known, Free, Full}
use Rattle.key_look.specs.Sought.{tells_key, first_slot, look_along, looks_along, sought, looks}
use Rattle.key_look.specs.declared.Seed.{Seed}

-- ---- a slot after another

module _ (hit : ℕ → Bool) (n at : ℕ) (ss : List ℕ) where
  looking-zero : (v : ℕ) → v ≡ 0 → look_along hit n at (v ∷ ss) ≡ Free at
  unfolding look_along
  looking-zero v e = rw e refl

  looking-some : (v : ℕ) → (v ≡ 0 → ⊥) → look_along hit n at (v ∷ ss) ≡ cond (hit v) (Known at) (look_along hit n ((at + 1) % n) ss)
  unfolding look_along
  looking-some zero e = absurd (e refl)
  looking-some (suc k) e = refl

module _ (hit : ℕ → Bool) (ss : List ℕ) where
  looks-zero : (v : ℕ) → v ≡ 0 → looks_along hit (v ∷ ss) ≡ 1
  unfolding looks_along
  looks-zero v e = rw e refl

  looks-some : (v : ℕ) → (v ≡ 0 → ⊥) → looks_along hit (v ∷ ss) ≡ suc (cond (hit v) 0 (looks_along hit ss))
  unfolding looks_along
  looks-some zero e = absurd (e refl)
  looks-some (suc k) e = refl

-- the slot `i` after the first
module _ (slots : List ℕ) (s i : ℕ) (a : s < length slots) where
  pub opened : i < length slots → drop i (around s slots) ≡ get_or slots ((s + i) % length slots) 0 ∷ drop (i + 1) (around s slots)
  opened h =
      rw (drop-cons (around s slots) i 0 (omega (arith, h, around-length s slots (omega (arith, a)))), add-one i)
      (ap (λ v. v ∷ drop (suc i) (around s slots)) (around-at slots s i a h))

  module _ (hit : ℕ → Bool) (at : ℕ) (e : at ≡ (s + i) % length slots) (h : i < length slots) where
    pub at-empty : get_or slots at 0 ≡ 0 → look_along hit (length slots) at (drop i (around s slots)) ≡ Free at
    at-empty z = ap (look_along hit (length slots) at) (opened h) ∙ looking-zero hit (length slots) at (drop (i + 1) (around s slots)) (get_or slots ((s + i) % length slots) 0) (ap (λ j. get_or slots j 0) (sym e) ∙ z)

    at_value : (get_or slots at 0 ≡ 0 → ⊥)
        → look_along hit (length slots) at (drop i (around s slots)) ≡ cond (hit (get_or slots at 0)) (Known at) (look_along hit (length slots) ((at + 1) % length slots) (drop (i + 1) (around s slots)))
    at_value z =
        ap (λ l. look_along hit (length slots) at l) (opened h ∙ ap (λ j. get_or slots j 0 ∷ drop (i + 1) (around s slots)) (sym e))
        ∙ looking-some hit (length slots) at (drop (i + 1) (around s slots)) (get_or slots at 0) z

    pub at-hit : (get_or slots at 0 ≡ 0 → ⊥) → hit (get_or slots at 0) ≡ true → look_along hit (length slots) at (drop i (around s slots)) ≡ Known at
    at-hit z q = at_value z ∙ ap (λ b. cond b (Known at) (look_along hit (length slots) ((at + 1) % length slots) (drop (i + 1) (around s slots)))) q

    pub at_other : (get_or slots at 0 ≡ 0 → ⊥) → hit (get_or slots at 0) ≡ false
        → look_along hit (length slots) at (drop i (around s slots)) ≡ look_along hit (length slots) ((at + 1) % length slots) (drop (i + 1) (around s slots))
    at_other z q = at_value z ∙ ap (λ b. cond b (Known at) (look_along hit (length slots) ((at + 1) % length slots) (drop (i + 1) (around s slots)))) q

    pub looks-empty : get_or slots at 0 ≡ 0 → looks_along hit (drop i (around s slots)) ≡ 1
    looks-empty z = ap (looks_along hit) (opened h) ∙ looks-zero hit (drop (i + 1) (around s slots)) (get_or slots ((s + i) % length slots) 0) (ap (λ j. get_or slots j 0) (sym e) ∙ z)

    looks-value : (get_or slots at 0 ≡ 0 → ⊥) → looks_along hit (drop i (around s slots)) ≡ suc (cond (hit (get_or slots at 0)) 0 (looks_along hit (drop (i + 1) (around s slots))))
    looks-value z =
        ap (looks_along hit) (opened h ∙ ap (λ j. get_or slots j 0 ∷ drop (i + 1) (around s slots)) (sym e)) ∙ looks-some hit (drop (i + 1) (around s slots)) (get_or slots at 0) z

    pub looks-hit : (get_or slots at 0 ≡ 0 → ⊥) → hit (get_or slots at 0) ≡ true → looks_along hit (drop i (around s slots)) ≡ 1
    looks-hit z q = looks-value z ∙ ap (λ b. suc (cond b 0 (looks_along hit (drop (i + 1) (around s slots))))) q

    pub looks-other : (get_or slots at 0 ≡ 0 → ⊥) → hit (get_or slots at 0) ≡ false → looks_along hit (drop i (around s slots)) ≡ suc (looks_along hit (drop (i + 1) (around s slots)))
    looks-other z q = looks-value z ∙ ap (λ b. suc (cond b 0 (looks_along hit (drop (i + 1) (around s slots))))) q

    pub at_next : (at + 1) % length slots ≡ (s + (i + 1)) % length slots
    at_next = ap (λ m. (m + 1) % length slots) e ∙ mod-add-mod (s + i) (length slots) 1 ∙ ap (λ m. m % length slots) (let z : s + i + 1 ≡ s + (i + 1) = omega arith in z)

  pub at-end : (hit : ℕ → Bool) (at : ℕ) → length slots ≤ i → look_along hit (length slots) at (drop i (around s slots)) ≡ Full
  unfolding look_along
  at-end hit at h =
      let l : length (around s slots) ≤ i = omega (arith, h, around-length s slots (omega (arith, a))) in
      rw (drop_of_length-le (around s slots) l) refl

  pub looks-end : (hit : ℕ → Bool) → length slots ≤ i → looks_along hit (drop i (around s slots)) ≡ 0
  unfolding looks_along
  looks-end hit h =
      let l : length (around s slots) ≤ i = omega (arith, h, around-length s slots (omega (arith, a))) in
      rw (drop_of_length-le (around s slots) l) refl

-- no slot is looked at twice
along-few : (hit : ℕ → Bool) (ss : List ℕ) → looks_along hit ss ≤ length ss
unfolding looks_along
along-few hit [] = omega arith
along-few hit (zero ∷ ss) = omega arith
along-few hit (suc k ∷ ss) = go (hit (suc k)) (along-few hit ss)
  where
    go : (b : Bool) → looks_along hit ss ≤ length ss → suc (cond b 0 (looks_along hit ss)) ≤ suc (length ss)
    go true h = omega arith
    go false h = omega (arith, h)

pub looks-few : (seed : Seed) (t slots : List ℕ) (k : ℕ) (id : List ℕ) → 0 < length slots → looks seed t slots k id ≤ length slots
unfolding looks first_slot
looks-few seed t slots k id p =
    let at : ℕ = first_slot seed (length slots) k id in
    let l : at < length slots = mod-lt _ p in
    omega (arith, along-few (tells_key seed t k id) (around at slots), around-length at slots (omega (arith, l)))

-- a slot at which it ends is one of the slots
unfoldable pub Below : ℕ → Sought → Type 0
Below n (Known i) = i < n
Below n (Free i) = i < n
Below n Full = Unit

looking-below : (hit : ℕ → Bool) (n at : ℕ) (ss : List ℕ) → at < n → Below n (look_along hit n at ss)
unfolding Below look_along
looking-below hit n at [] a = tt
looking-below hit n at (zero ∷ ss) a = a
looking-below hit n at (suc k ∷ ss) a = go (hit (suc k)) (looking-below hit n ((at + 1) % n) ss (mod-lt _ (omega (arith, a))))
  where
    go : (b : Bool) → Below n (look_along hit n ((at + 1) % n) ss) → Below n (cond b (Known at) (look_along hit n ((at + 1) % n) ss))
    go true ih = a
    go false ih = ih

pub sought-below : (seed : Seed) (t slots : List ℕ) (k : ℕ) (id : List ℕ) → 0 < length slots → Below (length slots) (sought seed t slots k id)
unfolding sought first_slot
sought-below seed t slots k id p =
    let at : ℕ = first_slot seed (length slots) k id in
    looking-below (tells_key seed t k id) (length slots) at (around at slots) (mod-lt _ p)

pub free-below : (seed : Seed) (t slots : List ℕ) (k : ℕ) (id : List ℕ) (i : ℕ) → 0 < length slots → sought seed t slots k id ≡ Free i → i < length slots
unfolding Below
free-below seed t slots k id i p e = subst (Below (length slots)) e (sought-below seed t slots k id p)

pub sought-lt : (seed : Seed) (t slots : List ℕ) (k : ℕ) (id : List ℕ) (i : ℕ) → 0 < length slots → sought seed t slots k id ≡ Known i → i < length slots
unfolding Below
sought-lt seed t slots k id i p e = subst (Below (length slots)) e (sought-below seed t slots k id p)
