-- Marks say what the definitions of the lists ask: which ordinals are met, whether one comes again, and which are hit.
use Prim.Native.Nat.{ℕ, zero, suc, ◌+◌, ◌-◌, ◌≤◌, ◌<◌}
use mathlib.Core.Path.{◌≡◌, refl, sym, ap, ap₂, ◌∙◌}
use mathlib.Core.Bool.{Bool, true, false, not, ◌&&◌, ◌||◌, cond}
use mathlib.Core.List.{List, [], ◌∷◌}
use native.Mathlib.Omega.{arith}
use native.Mathlib.Numerals.{add-one}
use lib.ListN.{length, get_or, set, drop, replicate, length-set, drop_of_length-le, get_or-replicate, length-replicate, get_or-eq_default}
use lib.Seq.{drop-cons, get_or-set_same, get_or-set_other}
use lib.Dec.{eqb, ltb}
use borrow.Author.Tests.{eqb-true, eqb-false, eq-eqb, ne_eqb, ltb-true, ltb-false, lt-ltb, le-ltb}
use Rattle.format.specs.Bytes.{all, any, distinct}
use Rattle.format.specs.Programs.{numbers_from}
use Rattle.lists.proofs.Bools.{never, split, eqb-sym, or_assoc, or_comm, or-false}
use Rattle.format.specs.Merge.{assigns, covers, assigned}
use Rattle.merge_lists.specs.Marks.{fresh_by, marked_by, hit_from}

-- ---- a step of each walk

module _ (m : ℕ) (hits : List Bool) (ks : List ℕ) (i : ℕ) where
  fresh-turn : i < length ks → fresh_by m hits (drop i ks) ≡ cond (ltb (get_or ks i 0) m) (cond (get_or hits (get_or ks i 0) false) false (fresh_by m (set hits (get_or ks i 0) true) (drop (i + 1) ks))) false
  unfolding fresh_by
  fresh-turn h = rw (drop-cons ks i 0 h) (ap (λ n. cond (ltb (get_or ks i 0) m) (cond (get_or hits (get_or ks i 0) false) false (fresh_by m (set hits (get_or ks i 0) true) (drop n ks))) false) (sym (add-one i)))

  pub too-high : i < length ks → m ≤ get_or ks i 0 → fresh_by m hits (drop i ks) ≡ false
  too-high h g = fresh-turn h ∙ rw (le-ltb (get_or ks i 0) m g) refl

  pub met-again : i < length ks → get_or ks i 0 < m → get_or hits (get_or ks i 0) false ≡ true → fresh_by m hits (drop i ks) ≡ false
  met-again h g e = fresh-turn h ∙ rw (lt-ltb (get_or ks i 0) m g, e) refl

  pub met-first : i < length ks → get_or ks i 0 < m → get_or hits (get_or ks i 0) false ≡ false → fresh_by m hits (drop i ks) ≡ fresh_by m (set hits (get_or ks i 0) true) (drop (i + 1) ks)
  met-first h g e = fresh-turn h ∙ rw (lt-ltb (get_or ks i 0) m g, e) refl

  pub marked-first : i < length ks → marked_by hits (drop i ks) ≡ marked_by (set hits (get_or ks i 0) true) (drop (i + 1) ks)
  unfolding marked_by
  marked-first h = rw (drop-cons ks i 0 h) (ap (λ n. marked_by (set hits (get_or ks i 0) true) (drop n ks)) (sym (add-one i)))

  pub fresh-end : length ks ≤ i → fresh_by m hits (drop i ks) ≡ true
  unfolding fresh_by
  fresh-end h = rw drop_of_length-le refl

  pub marked-end : length ks ≤ i → marked_by hits (drop i ks) ≡ hits
  unfolding marked_by
  marked-end h = rw drop_of_length-le refl

-- ---- what the marks say

-- after one mark
get_d-mark : (hits : List Bool) (k j : ℕ) → k < length hits → get_or (set hits k true) j false ≡ eqb j k || get_or hits j false
get_d-mark hits k j h = split (eqb j k)
    (λ e. ap (λ n. get_or (set hits k true) n false) (eqb-true j k e) ∙ get_or-set_same hits k true false h ∙ sym (ap (λ t. t || get_or hits j false) e))
    (λ e. get_or-set_other hits k j true false (eqb-false j k e) ∙ sym (ap (λ t. t || get_or hits j false) e))

any-or : (p q : ℕ → Bool) (ks : List ℕ) → any (λ k. p k || q k) ks ≡ any p ks || any q ks
unfolding any
any-or p q [] = refl
any-or p q (k ∷ ks) = ap (λ t. p k || q k || t) (any-or p q ks) ∙ go (p k) (q k) (any p ks) (any q ks)
  where
    go : (a b c d : Bool) → a || b || (c || d) ≡ (a || c) || (b || d)
    go true b c d = refl
    go false true c d = sym (or_comm c true)
    go false false c d = refl

any_same : (p q : ℕ → Bool) (ks : List ℕ) → ((k : ℕ) → p k ≡ q k) → any p ks ≡ any q ks
unfolding any
any_same p q [] e = refl
any_same p q (k ∷ ks) e = ap₂ (λ t u. t || u) (e k) (any_same p q ks e)

-- one of some ordinals is marked
abbrev meets : List Bool → List ℕ → Bool
meets hits ks = any (λ k. get_or hits k false) ks

meets-mark : (hits : List Bool) (k : ℕ) (ks : List ℕ) → k < length hits → meets (set hits k true) ks ≡ any (eqb k) ks || meets hits ks
meets-mark hits k ks h =
    any_same (λ j. get_or (set hits k true) j false) (λ j. eqb j k || get_or hits j false) ks (λ j. get_d-mark hits k j h)
    ∙ any-or (λ j. eqb j k) (λ j. get_or hits j false) ks
    ∙ ap (λ t. t || meets hits ks) (any_same (λ j. eqb j k) (eqb k) ks (λ j. eqb-sym j k))

pub fresh-is : (m : ℕ) (hits : List Bool) (ks : List ℕ) → m ≤ length hits → fresh_by m hits ks ≡ all (λ k. ltb k m) ks && distinct ks && not (meets hits ks)
unfolding fresh_by all distinct any
fresh-is m hits [] h = refl
fresh-is m hits (k ∷ ks) h =
    split (ltb k m)
    (λ e. let l = ltb-true k m e in
    ap (λ t. cond (ltb k m) (cond (get_or hits k false) false t) false) (fresh-is m (set hits k true) ks (rw length-set h) ∙ ap (λ t. all (λ k. ltb k m) ks && distinct ks && not t) (meets-mark hits k ks (omega arith)))
    ∙ go (ltb k m) (get_or hits k false) (all (λ k. ltb k m) ks) (distinct ks) (any (eqb k) ks) (meets hits ks))
    (λ e. rw e refl)
  where
    go : (t g a d n s : Bool) → cond t (cond g false (a && d && not (n || s))) false ≡ t && a && (not n && d) && not (g || s)
    go false g a d n s = refl
    go true true false d n s = refl
    go true true true d true s = refl
    go true true true true false s = refl
    go true true true false false s = refl
    go true false false d n s = refl
    go true false true false true s = refl
    go true false true true true s = refl
    go true false true false false s = refl
    go true false true true false s = refl

pub marked-is : (m : ℕ) (hits : List Bool) (ks : List ℕ) (j : ℕ) → m ≤ length hits → fresh_by m hits ks ≡ true → get_or (marked_by hits ks) j false ≡ any (eqb j) ks || get_or hits j false
unfolding fresh_by marked_by any
marked-is m hits [] j h f = refl
marked-is m hits (k ∷ ks) j h f = go (ltb k m) refl (get_or hits k false) f (λ g. marked-is m (set hits k true) ks j (rw length-set h) g)
  where
    go : (t : Bool) → ltb k m ≡ t → (g : Bool) → cond t (cond g false (fresh_by m (set hits k true) ks)) false ≡ true
        → (fresh_by m (set hits k true) ks ≡ true → get_or (marked_by (set hits k true) ks) j false ≡ any (eqb j) ks || get_or (set hits k true) j false)
        → get_or (marked_by (set hits k true) ks) j false ≡ eqb j k || any (eqb j) ks || get_or hits j false
    go false e g f ih = absurd (never (cc))
    go true e true f ih = absurd (never (cc))
    go true e false f ih =
        let l = ltb-true k m e in
        ih f ∙ ap (λ t. any (eqb j) ks || t) (get_d-mark hits k j (omega arith)) ∙ sym (or_assoc (any (eqb j) ks) (eqb j k) (get_or hits j false))
        ∙ ap (λ t. t || get_or hits j false) (or_comm (any (eqb j) ks) (eqb j k))

-- ---- every ordinal is hit

module _ (a b : List Bool) (i m : ℕ) where
  hit-turn : i < m → hit_from a b i (m - i) ≡ (get_or a i false || get_or b i false) && hit_from a b (i + 1) (m - (i + 1))
  unfolding hit_from
  hit-turn h = let e : m - i ≡ suc (m - (i + 1)) = omega arith in rw e refl

  pub hit-neither : i < m → get_or a i false ≡ false → get_or b i false ≡ false → hit_from a b i (m - i) ≡ false
  hit-neither h p q = hit-turn h ∙ ap₂ (λ t u. (t || u) && hit_from a b (i + 1) (m - (i + 1))) p q

  pub hit-first : i < m → get_or a i false ≡ true → hit_from a b i (m - i) ≡ hit_from a b (i + 1) (m - (i + 1))
  hit-first h p = hit-turn h ∙ ap (λ t. (t || get_or b i false) && hit_from a b (i + 1) (m - (i + 1))) p

  pub hit-second : i < m → get_or b i false ≡ true → hit_from a b i (m - i) ≡ hit_from a b (i + 1) (m - (i + 1))
  hit-second h p = hit-turn h ∙ ap (λ t. (get_or a i false || t) && hit_from a b (i + 1) (m - (i + 1))) p ∙ ap (λ t. t && hit_from a b (i + 1) (m - (i + 1))) (or_comm (get_or a i false) true)

  pub hit-end : m ≤ i → hit_from a b i (m - i) ≡ true
  unfolding hit_from
  hit-end h = let e : m - i ≡ 0 = omega arith in rw e refl

all_same : (p q : ℕ → Bool) (ks : List ℕ) → ((k : ℕ) → p k ≡ q k) → all p ks ≡ all q ks
unfolding all
all_same p q [] e = refl
all_same p q (k ∷ ks) e = ap₂ (λ t u. t && u) (e k) (all_same p q ks e)

hit-is : (a b : List Bool) (i n : ℕ) → hit_from a b i n ≡ all (λ k. get_or a k false || get_or b k false) (numbers_from i n)
unfolding hit_from all numbers_from
hit-is a b i zero = refl
hit-is a b i (suc n) = ap (λ t. (get_or a i false || get_or b i false) && t) (hit-is a b (i + 1) n)

-- ---- the lists

abbrev none : List Bool
none = replicate 1024 false

none-hit : (k : ℕ) → get_or none k false ≡ false
none-hit k = split (ltb k 1024) (λ e. get_or-replicate 1024 k false false (ltb-true k 1024 e)) (λ e. get_or-eq_default none false {n = k} (omega (arith, ltb-false k 1024 e, length-replicate 1024 false)))

none-met : (ks : List ℕ) → meets none ks ≡ false
unfolding any
none-met [] = refl
none-met (k ∷ ks) = ap₂ (λ t u. t || u) (none-hit k) (none-met ks)

module _ (m : ℕ) (h : m ≤ 1024) where
  pub assigns-is : (n : ℕ) (ks : List ℕ) → assigns n m ks ≡ eqb (length ks) n && fresh_by m none ks
  unfolding assigns
  assigns-is n ks = go (eqb (length ks) n) (all (λ k. ltb k m) ks) (distinct ks) ∙ ap (λ t. eqb (length ks) n && t) (sym (fresh-is m none ks (omega (arith, length-replicate 1024 false)) ∙ ap (λ t. all (λ k. ltb k m) ks && distinct ks && not t) (none-met ks)))
    where
      go : (t a d : Bool) → t && a && d ≡ t && (a && d && true)
      go true true true = refl
      go true true false = refl
      go true false d = refl
      go false a d = refl

  marks-are : (ks : List ℕ) → fresh_by m none ks ≡ true → (j : ℕ) → get_or (marked_by none ks) j false ≡ any (eqb j) ks
  marks-are ks f j = marked-is m none ks j (omega (arith, length-replicate 1024 false)) f ∙ ap (λ t. any (eqb j) ks || t) (none-hit j) ∙ or-false (any (eqb j) ks)

  pub covers-is : (a b : List ℕ) → fresh_by m none a ≡ true → fresh_by m none b ≡ true → hit_from (marked_by none a) (marked_by none b) 0 m ≡ covers m a b
  unfolding covers
  covers-is a b f g = hit-is (marked_by none a) (marked_by none b) 0 m ∙ all_same _ _ (numbers_from 0 m) (λ k. ap₂ (λ t u. t || u) (marks-are a f k) (marks-are b g k))

module _ (a b m : ℕ) (h : m ≤ 1024) (la lb : List ℕ) where
  abbrev whole : Bool
  whole = eqb (length la) a && fresh_by m none la && (eqb (length lb) b && fresh_by m none lb) && covers m la lb

  opened : assigned a b m la lb ≡ whole
  unfolding assigned
  opened = ap₂ (λ t u. t && u && covers m la lb) (assigns-is m h a la) (assigns-is m h b lb)

  pub short-a : (length la ≡ a → ⊥) → assigned a b m la lb ≡ false
  short-a n = opened ∙ rw (ne_eqb (length la) a n) refl

  pub short-b : (length lb ≡ b → ⊥) → assigned a b m la lb ≡ false
  short-b n = opened ∙ rw (ne_eqb (length lb) b n) (go (eqb (length la) a && fresh_by m none la) (covers m la lb))
    where
      go : (t u : Bool) → t && false && u ≡ false
      go true u = refl
      go false u = refl

  pub bad-a : fresh_by m none la ≡ false → assigned a b m la lb ≡ false
  bad-a e = opened ∙ rw e (go (eqb (length la) a) (eqb (length lb) b && fresh_by m none lb) (covers m la lb))
    where
      go : (s t u : Bool) → s && false && t && u ≡ false
      go true t u = refl
      go false t u = refl

  pub bad-b : fresh_by m none lb ≡ false → assigned a b m la lb ≡ false
  bad-b e = opened ∙ rw e (go (eqb (length la) a && fresh_by m none la) (eqb (length lb) b) (covers m la lb))
    where
      go : (s t u : Bool) → s && (t && false) && u ≡ false
      go true true u = refl
      go true false u = refl
      go false t u = refl

  pub both : length la ≡ a → length lb ≡ b → fresh_by m none la ≡ true → fresh_by m none lb ≡ true → assigned a b m la lb ≡ hit_from (marked_by none la) (marked_by none lb) 0 m
  both p q f g = opened ∙ rw (eq-eqb (length la) a p, eq-eqb (length lb) b q, f, g) (sym (covers-is m h la lb f g))
