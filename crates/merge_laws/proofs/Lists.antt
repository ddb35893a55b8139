-- 31: the condition on the lists.
use Prim.Native.Nat.{ℕ, zero, suc, ◌+◌, ◌<◌}
use mathlib.Core.Path.{◌≡◌, refl, sym, ap, ◌∙◌}
use mathlib.Core.Logic.{◌⊎◌, inl, inr, ◌↔◌}
use mathlib.Core.Bool.{Bool, true, false, not, ◌||◌, false≢true}
use mathlib.Core.List.{List, [], ◌∷◌}
use native.Mathlib.Omega.{arith}
use lib.ListN.{length, get_or}
use lib.Dec.{eqb, ltb}
use borrow.Author.Tests.{eq-eqb, eqb-true, lt-ltb, ltb-true, not-true}
use Rattle.format.specs.Bytes.{all, any, distinct}
use Rattle.format.specs.Programs.{numbers_from}
use Rattle.format.specs.Merge.{assigns, covers, assigned}
use Rattle.lists.proofs.Bools.{or-true, or_split, and_left, and_right}
use Rattle.program_chains.proofs.Leaf.{counting-length}
use Rattle.merge_laws.specs.IsMerge.{image_in, Hits, Assigns, Lists}
use Rattle.merge_laws.proofs.Members.{three, all_three, is_false, all-at, at_all}

-- ---- images

pub any-hits : (i : ℕ) (list : List ℕ) → any (eqb i) list ≡ true → Hits list i
unfolding any Hits image_in
any-hits i [] e = absurd (false≢true e)
any-hits i (x ∷ list) e = go (eqb i x) refl e (any-hits i list)
  where
    go : (t : Bool) → eqb i x ≡ t → t || any (eqb i) list ≡ true → (any (eqb i) list ≡ true → Hits list i) → Hits (x ∷ list) i
    go true q e ih = (0, omega arith, sym (eqb-true i x q))
    go false q e ih = let r = ih e in (suc r.0, omega (arith, r.1), r.2)

pub hits-any : (i : ℕ) (list : List ℕ) → Hits list i → any (eqb i) list ≡ true
unfolding any Hits image_in
hits-any i [] (k, h, e) = absurd (omega arith)
hits-any i (x ∷ list) (zero, h, e) = rw (eq-eqb i x (sym e)) refl
hits-any i (x ∷ list) (suc k, h, e) = rw (hits-any i list (k, omega arith, e)) (or-true (eqb i x))

-- ---- none twice

distinct-once : (xs : List ℕ) → distinct xs ≡ true → (j k : ℕ) → j < length xs → k < length xs → get_or xs j 0 ≡ get_or xs k 0 → j ≡ k
unfolding distinct Hits image_in
distinct-once [] d j k g h e = absurd (omega arith)
distinct-once (x ∷ xs) d zero zero g h e = refl
distinct-once (x ∷ xs) d zero (suc k) g h e =
    absurd (false≢true (sym (not-true (any (eqb x) xs) (and_left (not (any (eqb x) xs)) (distinct xs) d)) ∙ hits-any x xs (k, omega arith, sym e)))
distinct-once (x ∷ xs) d (suc j) zero g h e =
    absurd (false≢true (sym (not-true (any (eqb x) xs) (and_left (not (any (eqb x) xs)) (distinct xs) d)) ∙ hits-any x xs (j, omega arith, e)))
distinct-once (x ∷ xs) d (suc j) (suc k) g h e = ap suc (distinct-once xs (and_right (not (any (eqb x) xs)) (distinct xs) d) j k (omega arith) (omega arith) e)

once-distinct : (xs : List ℕ) → ((j k : ℕ) → j < length xs → k < length xs → get_or xs j 0 ≡ get_or xs k 0 → j ≡ k) → distinct xs ≡ true
unfolding distinct Hits image_in
once-distinct [] f = refl
once-distinct (x ∷ xs) f =
    let gone : any (eqb x) xs ≡ false = is_false (any (eqb x) xs) (λ e. let r = any-hits x xs e in let z : 0 ≡ suc r.0 = f 0 (suc r.0) (omega arith) (omega (arith, r.1)) (sym r.2) in omega arith) in
    rw gone (once-distinct xs (λ j k g h e. let z : suc j ≡ suc k = f (suc j) (suc k) (omega arith) (omega arith) e in omega arith))

-- ---- one list

assigns-is : (n m : ℕ) (list : List ℕ) → (assigns n m list ≡ true) ↔ Assigns n m list
unfolding assigns image_in
assigns-is n m list = (to, from)
  where
    to : assigns n m list ≡ true → Assigns n m list
    to e =
        let h = three (eqb (length list) n) (all (λ i. ltb i m) list) (distinct list) e in
        let l : length list ≡ n = eqb-true (length list) n h.0 in
        record {
          count = l;
          valid = λ k g. ltb-true (get_or list k 0) m (all-at (λ i. ltb i m) list k h.1 (omega arith));
          once = λ j k f g e. distinct-once list h.2 j k (omega arith) (omega arith) e;
        }

    from : Assigns n m list → assigns n m list ≡ true
    from x =
        let l : length list ≡ n = x.count in
        all_three (eqb (length list) n) (all (λ i. ltb i m) list) (distinct list) (eq-eqb (length list) n l)
        (at_all (λ i. ltb i m) list (λ k h. lt-ltb (get_or list k 0) m (x.valid k (omega arith))))
        (once-distinct list (λ j k g h e. x.once j k (omega arith) (omega arith) e))

-- ---- every merged program

number-from : (i n k : ℕ) → k < n → get_or (numbers_from i n) k 0 ≡ i + k
unfolding numbers_from
number-from i zero k h = absurd (omega arith)
number-from i (suc n) zero h = omega arith
number-from i (suc n) (suc k) h = omega (arith, number-from (i + 1) n k (omega arith))

pub number-at : (n k : ℕ) → k < n → get_or (numbers_from 0 n) k 0 ≡ k
number-at n k h = omega (arith, number-from 0 n k h)

module _ (m : ℕ) (list_a list_b : List ℕ) where
  abbrev hit : ℕ → Bool
  hit i = any (eqb i) list_a || any (eqb i) list_b

  covers-every : covers m list_a list_b ≡ true → (i : ℕ) → i < m → Hits list_a i ⊎ Hits list_b i
  unfolding covers
  covers-every e i h =
      or_split (any (eqb i) list_a) (any (eqb i) list_b)
      (sym (ap hit (number-at m i h)) ∙ all-at hit (numbers_from 0 m) i e (omega (arith, counting-length 0 m)))
      (λ x. inl (any-hits i list_a x)) (λ x. inr (any-hits i list_b x))

  is-hit : (i : ℕ) → Hits list_a i ⊎ Hits list_b i → hit i ≡ true
  is-hit i (inl x) = rw (hits-any i list_a x) refl
  is-hit i (inr x) = rw (hits-any i list_b x) (or-true (any (eqb i) list_a))

  every-covers : ((i : ℕ) → i < m → Hits list_a i ⊎ Hits list_b i) → covers m list_a list_b ≡ true
  unfolding covers
  every-covers f =
      at_all hit (numbers_from 0 m) (λ k h. let l : k < m = omega (arith, counting-length 0 m) in ap hit (number-at m k l) ∙ is-hit k (f k l))

-- ---- both lists

pub lists-are : (a b m : ℕ) (list_a list_b : List ℕ) → (assigned a b m list_a list_b ≡ true) ↔ Lists a b m list_a list_b
unfolding assigned
lists-are a b m list_a list_b = (
  λ e.
      let h = three (assigns a m list_a) (assigns b m list_b) (covers m list_a list_b) e in
      record { of_a = (assigns-is a m list_a).0 h.0; of_b = (assigns-is b m list_b).0 h.1; every = covers-every m list_a list_b h.2 },
  λ x. all_three (assigns a m list_a) (assigns b m list_b) (covers m list_a list_b) ((assigns-is a m list_a).1 x.of_a) ((assigns-is b m list_b).1 x.of_b)
      (every-covers m list_a list_b x.every),
)
