-- Values enter slots, and a search along the slots finds what a plain search of the values finds. Assumes nothing.
use Prim.Native.Nat.{ℕ, zero, suc, ◌+◌, ◌-◌, ◌%◌, ◌≤◌, ◌<◌}
use mathlib.Core.Path.{◌≡◌, refl, sym, ap, ap₂, subst, ◌∙◌}
use mathlib.Core.Bool.{Bool, true, false, cond, false≢true}
use mathlib.Core.List.{List, [], ◌∷◌, ◌++◌}
use native.Mathlib.Omega.{arith}
use native.Mathlib.Nat.{mod-lt, mod-eq_of_lt, mod-eq-sub-mod}
use lib.Seq.{length-take-le, set-append_left, take-set-le, drop-set-lt, take-set-lt, drop-set-add, get_or-take, get_or-drop, get_or-append-add}
use lib.ListN.{length, get_or, take, drop, set, replicate, take-append-drop, length-drop, length-append, length-set, get_or-append}
use lib.Dec.{ltb, leb}
use borrow.Author.Tests.{ltb-true, ltb-false, leb-true, leb-false}
use Rattle.format.specs.Slots.{around, full, seat, filled, seek, pick, Clear, Held}

-- ---- how many slots are filled

filled-append : (s t : List ℕ) → filled (s ++ t) ≡ filled s + filled t
unfolding filled
filled-append [] t = omega arith
filled-append (zero ∷ s) t = filled-append s t
filled-append (suc k ∷ s) t = omega (arith, filled-append s t)

pub filled_around : (at : ℕ) (slots : List ℕ) → filled (around at slots) ≡ filled slots
unfolding around
filled_around at slots =
    omega (arith, filled-append (drop at slots) (take at slots), filled-append (take at slots) (drop at slots), ap filled (take-append-drop at slots))

filled-set : (slots : List ℕ) (i k : ℕ) → filled (set slots i (suc k)) ≤ suc (filled slots)
unfolding filled
filled-set [] i k = omega arith
filled-set (zero ∷ ss) zero k = omega arith
filled-set (suc j ∷ ss) zero k = omega arith
filled-set (zero ∷ ss) (suc i) k = filled-set ss i k
filled-set (suc j ∷ ss) (suc i) k = omega (arith, filled-set ss i k)

filled_none : (n : ℕ) → filled (replicate n 0) ≡ 0
unfolding filled
filled_none zero = refl
filled_none (suc n) = filled_none n

full-empty : (ss : List ℕ) → get_or ss (full ss) 0 ≡ 0
unfolding full
full-empty [] = refl
full-empty (zero ∷ ss) = refl
full-empty (suc k ∷ ss) = full-empty ss

pub full-lt : (ss : List ℕ) → filled ss < length ss → full ss < length ss
unfolding full filled
full-lt [] h = h
full-lt (zero ∷ ss) h = omega arith
full-lt (suc k ∷ ss) h = let r = full-lt ss (omega (arith, h)) in omega (arith, r)

-- ---- slots in the order of a search

pub around-length : (at : ℕ) (slots : List ℕ) → at ≤ length slots → length (around at slots) ≡ length slots
unfolding around
around-length at slots h = omega (arith, length-append (drop at slots) (take at slots), length-drop at slots, h, length-take-le at slots h)

-- the place in that order of the slot `i` of `n`
pos : ℕ → ℕ → ℕ → ℕ
pos n at i = cond (leb at i) (i - at) (n - at + i)

set-append-add : (s t : List ℕ) (i v : ℕ) → set (s ++ t) (length s + i) v ≡ s ++ set t i v
set-append-add [] t i v = ap (λ j. set t j v) (omega arith)
set-append-add (a ∷ s) t i v = let e : suc (length s) + i ≡ suc (length s + i) = omega arith in rw e (ap (λ r. a ∷ r) (set-append-add s t i v))

around-set : (slots : List ℕ) (at i v : ℕ) → i < length slots → around at (set slots i v) ≡ set (around at slots) (pos (length slots) at i) v
unfolding around pos
around-set slots at i v h = go (leb at i) refl
  where
    go : (t : Bool) → leb at i ≡ t → drop at (set slots i v) ++ take at (set slots i v) ≡ set (drop at slots ++ take at slots) (cond t (i - at) (length slots - at + i)) v
    go true q =
        let l : at ≤ i = leb-true at i q in
        ap₂ (λ a b. a ++ b) (ap (λ j. drop at (set slots j v)) (omega (arith, l)) ∙ drop-set-add at slots (i - at) v) (take-set-le at slots i v l)
        ∙ sym (set-append_left (drop at slots) (take at slots) (i - at) v (omega (arith, l, h, length-drop at slots)))
    go false q =
        let l : i < at = leb-false at i q in
        ap₂ (λ a b. a ++ b) (drop-set-lt at slots i v l) (take-set-lt at slots i v l)
        ∙ sym (set-append-add (drop at slots) (take at slots) i v)
        ∙ ap (λ j. set (drop at slots ++ take at slots) (j + i) v) (length-drop at slots)

around-get : (slots : List ℕ) (at i : ℕ) → i < length slots → get_or (around at slots) (pos (length slots) at i) 0 ≡ get_or slots i 0
unfolding around pos
around-get slots at i h = go (leb at i) refl
  where
    go : (t : Bool) → leb at i ≡ t → get_or (drop at slots ++ take at slots) (cond t (i - at) (length slots - at + i)) 0 ≡ get_or slots i 0
    go true q =
        let l : at ≤ i = leb-true at i q in
        get_or-append (drop at slots) (take at slots) 0 (i - at) (omega (arith, l, h, length-drop at slots))
        ∙ get_or-drop at slots (i - at) 0 ∙ ap (λ j. get_or slots j 0) (omega (arith, l))
    go false q =
        let l : i < at = leb-false at i q in
        ap (λ j. get_or (drop at slots ++ take at slots) (j + i) 0) (sym (length-drop at slots))
        ∙ get_or-append-add (drop at slots) (take at slots) i 0 ∙ get_or-take at slots i 0 l

-- the slot `q` places on, round the end
pos_of : (n at q : ℕ) → at < n → q < n → pos n at ((at + q) % n) ≡ q
unfolding pos
pos_of n at q h l = go (ltb (at + q) n) refl
  where
    choose : (t : Bool) (i : ℕ) → leb at i ≡ t → (t ≡ true → i - at ≡ q) → (t ≡ false → n - at + i ≡ q) → cond t (i - at) (n - at + i) ≡ q
    choose true i e f g = f refl
    choose false i e f g = g refl

    go : (t : Bool) → ltb (at + q) n ≡ t → cond (leb at ((at + q) % n)) ((at + q) % n - at) (n - at + (at + q) % n) ≡ q
    go true e =
        let m : (at + q) % n ≡ at + q = mod-eq_of_lt (ltb-true (at + q) n e) in
        choose (leb at ((at + q) % n)) ((at + q) % n) refl (λ r. omega (arith, m)) (λ r. absurd (omega (arith, m, leb-false at ((at + q) % n) (r))))
    go false e =
        let b : n ≤ at + q = ltb-false (at + q) n e in
        let m : (at + q) % n ≡ at + q - n = mod-eq-sub-mod b ∙ mod-eq_of_lt (omega (arith, h, l, b)) in
        choose (leb at ((at + q) % n)) ((at + q) % n) refl (λ r. absurd (omega (arith, m, b, l, h, leb-true at ((at + q) % n) (r)))) (λ r. omega (arith, m, b, h))

-- what is looked at in the `q`th place
pub around-at : (slots : List ℕ) (at q : ℕ) → at < length slots → q < length slots → get_or (around at slots) q 0 ≡ get_or slots ((at + q) % length slots) 0
around-at slots at q h l =
    ap (λ p. get_or (around at slots) p 0) (sym (pos_of (length slots) at q h l)) ∙ around-get slots at ((at + q) % length slots) (mod-lt _ (omega (arith, h)))

-- and after a store there
pub around-put : (slots : List ℕ) (at q v : ℕ) → at < length slots → q < length slots → around at (set slots ((at + q) % length slots) v) ≡ set (around at slots) q v
around-put slots at q v h l =
    around-set slots at ((at + q) % length slots) v (mod-lt _ (omega (arith, h))) ∙ ap (λ p. set (around at slots) p v) (pos_of (length slots) at q h l)

-- ---- no value is accepted

clear-append : (hit : ℕ → Bool) (s t : List ℕ) → Clear hit s → Clear hit t → Clear hit (s ++ t)
unfolding Clear
clear-append hit [] t a b = b
clear-append hit (zero ∷ s) t a b = clear-append hit s t a b
clear-append hit (suc k ∷ s) t a b = (a.0, clear-append hit s t a.1 b)

clear-take : (hit : ℕ → Bool) (n : ℕ) (s : List ℕ) → Clear hit s → Clear hit (take n s)
unfolding Clear
clear-take hit zero s a = tt
clear-take hit (suc n) [] a = tt
clear-take hit (suc n) (zero ∷ s) a = clear-take hit n s a
clear-take hit (suc n) (suc k ∷ s) a = (a.0, clear-take hit n s a.1)

clear-drop : (hit : ℕ → Bool) (n : ℕ) (s : List ℕ) → Clear hit s → Clear hit (drop n s)
unfolding Clear
clear-drop hit zero s a = a
clear-drop hit (suc n) [] a = tt
clear-drop hit (suc n) (zero ∷ s) a = clear-drop hit n s a
clear-drop hit (suc n) (suc k ∷ s) a = clear-drop hit n s a.1

clear-around : (hit : ℕ → Bool) (at : ℕ) (s : List ℕ) → Clear hit s → Clear hit (around at s)
unfolding around
clear-around hit at s a = clear-append hit (drop at s) (take at s) (clear-drop hit at s a) (clear-take hit at s a)

clear-set : (hit : ℕ → Bool) (s : List ℕ) (i k : ℕ) → hit (suc k) ≡ false → Clear hit s → Clear hit (set s i (suc k))
unfolding Clear
clear-set hit [] i k e a = tt
clear-set hit (zero ∷ s) zero k e a = (e, a)
clear-set hit (suc j ∷ s) zero k e a = (e, a.1)
clear-set hit (zero ∷ s) (suc i) k e a = clear-set hit s i k e a
clear-set hit (suc j ∷ s) (suc i) k e a = (a.0, clear-set hit s i k e a.1)

clear_none : (hit : ℕ → Bool) (n : ℕ) → Clear hit (replicate n 0)
unfolding Clear
clear_none hit zero = tt
clear_none hit (suc n) = clear_none hit n

-- ---- what a search finds

seek-clear : (hit : ℕ → Bool) (ss : List ℕ) → Clear hit ss → seek hit ss ≡ 0
unfolding seek Clear
seek-clear hit [] a = refl
seek-clear hit (zero ∷ ss) a = refl
seek-clear hit (suc k ∷ ss) a = rw a.0 (seek-clear hit ss a.1)

-- one more in an empty slot changes nothing of what is found
seek_set : (hit : ℕ → Bool) (ss : List ℕ) (p v k : ℕ) → get_or ss p 0 ≡ 0 → seek hit ss ≡ suc k → seek hit (set ss p v) ≡ suc k
unfolding seek
seek_set hit [] p v k z h = h
seek_set hit (zero ∷ ss) p v k z h = absurd (omega (arith, h))
seek_set hit (suc j ∷ ss) zero v k z h = absurd (omega (arith, z))
seek_set hit (suc j ∷ ss) (suc p) v k z h = go (hit (suc j)) h (seek_set hit ss p v k z)
  where
    go : (t : Bool) → cond t (suc j) (seek hit ss) ≡ suc k → (seek hit ss ≡ suc k → seek hit (set ss p v) ≡ suc k) → cond t (suc j) (seek hit (set ss p v)) ≡ suc k
    go true e ih = e
    go false e ih = ih e

-- a value in the first empty slot is found, where no other is accepted
seek-enter : (hit : ℕ → Bool) (ss : List ℕ) (k : ℕ) → Clear hit ss → full ss < length ss → hit (suc k) ≡ true → seek hit (set ss (full ss) (suc k)) ≡ suc k
unfolding seek Clear full
seek-enter hit [] k a l h = absurd (omega (arith, l))
seek-enter hit (zero ∷ ss) k a l h = rw h refl
seek-enter hit (suc j ∷ ss) k a l h = rw a.0 (seek-enter hit ss k a.1 (omega (arith, l)) h)

-- nor does another value in the place of one change it, where neither is accepted
seek-other : (hit : ℕ → Bool) (ss : List ℕ) (p v : ℕ) → (get_or ss p 0 ≡ 0 → ⊥) → (v ≡ 0 → ⊥) → hit (get_or ss p 0) ≡ false → hit v ≡ false → seek hit (set ss p v) ≡ seek hit ss
unfolding seek
seek-other hit [] p v z y e f = refl
seek-other hit (zero ∷ ss) zero v z y e f = absurd (z refl)
seek-other hit (suc j ∷ ss) zero zero z y e f = absurd (y refl)
seek-other hit (suc j ∷ ss) zero (suc k) z y e f = rw (e, f) refl
seek-other hit (zero ∷ ss) (suc p) v z y e f = refl
seek-other hit (suc j ∷ ss) (suc p) v z y e f = ap (cond (hit (suc j)) (suc j)) (seek-other hit ss p v z y e f)

pub seek-replaced : (hit : ℕ → Bool) (slots : List ℕ) (at i v : ℕ) → i < length slots → (get_or slots i 0 ≡ 0 → ⊥) → (v ≡ 0 → ⊥) → hit (get_or slots i 0) ≡ false → hit v ≡ false
    → seek hit (around at (set slots i v)) ≡ seek hit (around at slots)
seek-replaced hit slots at i v l z y e f =
    let g : get_or (around at slots) (pos (length slots) at i) 0 ≡ get_or slots i 0 = around-get slots at i l in
    ap (seek hit) (around-set slots at i v l) ∙ seek-other hit (around at slots) (pos (length slots) at i) v (λ q. z (sym g ∙ q)) y (ap hit g ∙ e) f

-- one more value
pick-old : (hit : ℕ → Bool) (vs ws : List ℕ) (k : ℕ) → pick hit vs ≡ suc k → pick hit (vs ++ ws) ≡ suc k
unfolding pick
pick-old hit [] ws k e = absurd (omega (arith, e))
pick-old hit (zero ∷ vs) ws k e = pick-old hit vs ws k e
pick-old hit (suc j ∷ vs) ws k e = go (hit (suc j)) e (pick-old hit vs ws k)
  where
    go : (t : Bool) → cond t (suc j) (pick hit vs) ≡ suc k → (pick hit vs ≡ suc k → pick hit (vs ++ ws) ≡ suc k) → cond t (suc j) (pick hit (vs ++ ws)) ≡ suc k
    go true e ih = e
    go false e ih = ih e

pick-new : (hit : ℕ → Bool) (vs ws : List ℕ) → pick hit vs ≡ 0 → pick hit (vs ++ ws) ≡ pick hit ws
unfolding pick
pick-new hit [] ws e = refl
pick-new hit (zero ∷ vs) ws e = pick-new hit vs ws e
pick-new hit (suc j ∷ vs) ws e = go (hit (suc j)) e (pick-new hit vs ws)
  where
    go : (t : Bool) → cond t (suc j) (pick hit vs) ≡ 0 → (pick hit vs ≡ 0 → pick hit (vs ++ ws) ≡ pick hit ws) → cond t (suc j) (pick hit (vs ++ ws)) ≡ pick hit ws
    go true e ih = absurd (omega (arith, e))
    go false e ih = ih e

pick-front : (hit : ℕ → Bool) (vs ws : List ℕ) → pick hit (vs ++ ws) ≡ 0 → pick hit vs ≡ 0
pick-front hit vs ws e = go (pick hit vs) refl
  where
    go : (n : ℕ) → pick hit vs ≡ n → n ≡ 0
    go zero q = refl
    go (suc k) q = absurd (omega (arith, e, pick-old hit vs ws k q))

-- ---- a value enters

-- nothing has entered
pub held_none : (start : ℕ → ℕ) (n : ℕ) → Held start (replicate n 0) []
unfolding pick
held_none start n =
    record {
      few = omega (arith, filled_none n);
      only = λ hit e. clear_none hit n;
      finds = λ hit at l h. seek-clear hit (around at (replicate n 0)) (clear-around hit at (replicate n 0) (clear_none hit n));
    }

module _ (start : ℕ → ℕ) (slots vs : List ℕ) (g : Held start slots vs) (k : ℕ) (l : length vs < length slots) (b : start (suc k) < length slots) where
  i : ℕ
  i = (start (suc k) + full (around (start (suc k)) slots)) % length slots

  i_lt : i < length slots
  unfolding i
  i_lt = mod-lt _ (omega (arith, l))

  room : full (around (start (suc k)) slots) < length slots
  room =
      let n = around-length (start (suc k)) slots (omega (arith, b)) in
      omega (arith, n, full-lt (around (start (suc k)) slots) (omega (arith, n, filled_around (start (suc k)) slots, g.few, l)))

  i-pos : pos (length slots) (start (suc k)) i ≡ full (around (start (suc k)) slots)
  unfolding i
  i-pos = pos_of (length slots) (start (suc k)) (full (around (start (suc k)) slots)) b room

  empty : get_or slots i 0 ≡ 0
  empty = sym (around-get slots (start (suc k)) i i_lt) ∙ ap (λ p. get_or (around (start (suc k)) slots) p 0) i-pos ∙ full-empty (around (start (suc k)) slots)

  module _ (hit : ℕ → Bool) (at : ℕ) (h : (v : ℕ) → hit v ≡ true → start v ≡ at) (a : at < length slots) where
    -- what was found is found still
    old : (j : ℕ) → pick hit vs ≡ suc j → seek hit (around at (set slots i (suc k))) ≡ pick hit (vs ++ (suc k ∷ []))
    old j e =
        ap (seek hit) (around-set slots at i (suc k) i_lt)
        ∙ seek_set hit (around at slots) (pos (length slots) at i) (suc k) j (around-get slots at i i_lt ∙ empty) (g.finds hit at a h ∙ e)
        ∙ sym (pick-old hit vs (suc k ∷ []) j e)

    new : pick hit vs ≡ 0 → seek hit (around at (set slots i (suc k))) ≡ pick hit (vs ++ (suc k ∷ []))
    unfolding pick
    new e = go (hit (suc k)) refl ∙ sym (pick-new hit vs (suc k ∷ []) e)
      where
        go : (t : Bool) → hit (suc k) ≡ t → seek hit (around at (set slots i (suc k))) ≡ cond (hit (suc k)) (suc k) 0
        go true q =
            let s : start (suc k) ≡ at = h (suc k) q in
            rw q
            (subst (λ m. seek hit (around m (set slots i (suc k))) ≡ suc k) s
            (ap (seek hit) (around-set slots (start (suc k)) i (suc k) i_lt ∙ ap (λ p. set (around (start (suc k)) slots) p (suc k)) i-pos)
            ∙ seek-enter hit (around (start (suc k)) slots) k (clear-around hit (start (suc k)) slots (g.only hit e)) (omega (arith, room, around-length (start (suc k)) slots (omega (arith, b)))) q))
        go false q = rw q (seek-clear hit (around at (set slots i (suc k))) (clear-around hit at (set slots i (suc k)) (clear-set hit slots i k q (g.only hit e))))

    still : seek hit (around at (set slots i (suc k))) ≡ pick hit (vs ++ (suc k ∷ []))
    still = go (pick hit vs) refl
      where
        go : (n : ℕ) → pick hit vs ≡ n → seek hit (around at (set slots i (suc k))) ≡ pick hit (vs ++ (suc k ∷ []))
        go zero e = new e
        go (suc j) e = old j e

  none-else : (hit : ℕ → Bool) → pick hit (vs ++ (suc k ∷ [])) ≡ 0 → Clear hit (set slots i (suc k))
  unfolding pick
  none-else hit e = go (hit (suc k)) refl
    where
      before : pick hit vs ≡ 0
      before = pick-front hit vs (suc k ∷ []) e

      go : (t : Bool) → hit (suc k) ≡ t → Clear hit (set slots i (suc k))
      go true q = absurd (let z : cond (hit (suc k)) (suc k) 0 ≡ 0 = sym (pick-new hit vs (suc k ∷ []) before) ∙ e in let y : suc k ≡ 0 = rw q at z in omega (arith, y))
      go false q = clear-set hit slots i k q (g.only hit before)

  pub held-enter : Held start (set slots (seat (start (suc k)) slots) (suc k)) (vs ++ (suc k ∷ []))
  unfolding seat i
  held-enter =
      record {
        few = omega (arith, filled-set slots i k, g.few, length-append vs (suc k ∷ []));
        only = none-else;
        finds = λ hit at a h. still hit at h (omega (arith, a, length-set slots i (suc k)));
      }
