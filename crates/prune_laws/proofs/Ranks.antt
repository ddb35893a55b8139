-- Elements of a list that are chosen by their places, and the places that they then have. Assumes nothing.
use Prim.Native.Nat.{ℕ, zero, suc, ◌+◌, ◌≤◌, ◌<◌}
use mathlib.Core.Path.{◌≡◌, refl, ap, ◌∙◌}
use mathlib.Core.Bool.{Bool, true, false, cond}
use mathlib.Core.List.{List, [], ◌∷◌, map}
use native.Mathlib.Omega.{arith}
use lib.ListN.{length, get_or}
use lib.Dec.{ltb}
use borrow.Author.Tests.{ltb-true, ltb-false}
use Rattle.lists.proofs.Bools.{split}
use Rattle.format.specs.Prune.{chosen}

-- how many of the `d` numbers from `b` on pass
unfoldable pub rank : (ℕ → Bool) → ℕ → ℕ → ℕ
rank p b zero = 0
rank p b (suc d) = cond (p b) (suc (rank p (b + 1) d)) (rank p (b + 1) d)

module _ (p : ℕ → Bool) where
  here : (b : ℕ) → p (b + 0) ≡ true → p b ≡ true
  here b e = ap p (omega arith) ∙ e

  later : (b d : ℕ) → p (b + suc d) ≡ true → p (b + 1 + d) ≡ true
  later b d e = ap p (omega arith) ∙ e

  pub chosen_at : {A : Type 0} (b : ℕ) (xs : List A) (d : ℕ) (x : A) → d < length xs → p (b + d) ≡ true → get_or (chosen p b xs) (rank p b d) x ≡ get_or xs d x
  unfolding chosen rank
  chosen_at b [] d x h e = absurd (omega arith)
  chosen_at b (y ∷ ys) zero x h e = rw (here b e) refl
  chosen_at b (y ∷ ys) (suc d) x h e = go (p b) (chosen_at (b + 1) ys d x (omega arith) (later b d e))
    where
      go : (t : Bool) → get_or (chosen p (b + 1) ys) (rank p (b + 1) d) x ≡ get_or ys d x
          → get_or (cond t (y ∷ chosen p (b + 1) ys) (chosen p (b + 1) ys)) (cond t (suc (rank p (b + 1) d)) (rank p (b + 1) d)) x ≡ get_or ys d x
      go true ih = ih
      go false ih = ih

  pub chosen-inside : {A : Type 0} (b : ℕ) (xs : List A) (d : ℕ) → d < length xs → p (b + d) ≡ true → rank p b d < length (chosen p b xs)
  unfolding chosen rank
  chosen-inside b [] d h e = absurd (omega arith)
  chosen-inside b (y ∷ ys) zero h e = rw (here b e) (omega arith)
  chosen-inside b (y ∷ ys) (suc d) h e = go (p b) (chosen-inside (b + 1) ys d (omega arith) (later b d e))
    where
      go : (t : Bool) → rank p (b + 1) d < length (chosen p (b + 1) ys)
          → cond t (suc (rank p (b + 1) d)) (rank p (b + 1) d) < length (cond t (y ∷ chosen p (b + 1) ys) (chosen p (b + 1) ys))
      go true ih = omega arith
      go false ih = ih

  -- which place of `xs` the place `i` was
  pub record Was {A : Type 0} (b : ℕ) (xs : List A) (i : ℕ) : Type 0 where
    pub place : ℕ
    pub inside : place < length xs
    pub passes : p (b + place) ≡ true
    pub is : rank p b place ≡ i

  pub chosen-was : {A : Type 0} (b : ℕ) (xs : List A) (i : ℕ) → i < length (chosen p b xs) → Was b xs i
  unfolding chosen rank
  chosen-was b [] i h = absurd (omega arith)
  chosen-was b (y ∷ ys) i h = go (p b) refl i h (chosen-was (b + 1) ys)
    where
      go : (t : Bool) → p b ≡ t → (i : ℕ) → i < length (cond t (y ∷ chosen p (b + 1) ys) (chosen p (b + 1) ys)) → ((i : ℕ) → i < length (chosen p (b + 1) ys) → Was (b + 1) ys i) → Was b (y ∷ ys) i
      go true q zero h ih = record { place = 0; inside = omega arith; passes = ap p (omega arith) ∙ q; is = unfold rank in refl }
      go true q (suc i) h ih =
          let w = ih i (omega arith) in
          record { place = suc w.place; inside = omega (arith, w.inside); passes = ap p (omega arith) ∙ w.passes; is = unfold rank in rw q (ap suc w.is) }
      go false q i h ih =
          let w = ih i h in
          record { place = suc w.place; inside = omega (arith, w.inside); passes = ap p (omega arith) ∙ w.passes; is = unfold rank in rw q w.is }

  rank_less : (b d e : ℕ) → d < e → p (b + d) ≡ true → rank p b d < rank p b e
  unfolding rank
  rank_less b d zero h q = absurd (omega arith)
  rank_less b zero (suc e) h q = rw (here b q) (omega arith)
  rank_less b (suc d) (suc e) h q = go (p b) (rank_less (b + 1) d e (omega arith) (later b d q))
    where
      go : (t : Bool) → rank p (b + 1) d < rank p (b + 1) e → cond t (suc (rank p (b + 1) d)) (rank p (b + 1) d) < cond t (suc (rank p (b + 1) e)) (rank p (b + 1) e)
      go true ih = omega arith
      go false ih = ih

  -- two that pass have one rank only if they are one
  pub rank-one : (b d e : ℕ) → p (b + d) ≡ true → p (b + e) ≡ true → rank p b d ≡ rank p b e → d ≡ e
  rank-one b d e q r s = split (ltb d e)
      (λ l. absurd (omega (arith, rank_less b d e (ltb-true d e l) q)))
      (λ l. split (ltb e d) (λ m. absurd (omega (arith, rank_less b e d (ltb-true e d m) r))) (λ m. omega (arith, ltb-false d e l, ltb-false e d m)))

  pub chosen-le : {A : Type 0} (b : ℕ) (xs : List A) → length (chosen p b xs) ≤ length xs
  unfolding chosen
  chosen-le b [] = omega arith
  chosen-le b (y ∷ ys) = go (p b) (chosen-le (b + 1) ys)
    where
      go : (t : Bool) → length (chosen p (b + 1) ys) ≤ length ys → length (cond t (y ∷ chosen p (b + 1) ys) (chosen p (b + 1) ys)) ≤ suc (length ys)
      go true ih = omega arith
      go false ih = omega arith

  pub chosen-map : {A B : Type 0} (f : A → B) (b : ℕ) (xs : List A) → map f (chosen p b xs) ≡ chosen p b (map f xs)
  unfolding chosen
  chosen-map f b [] = refl
  chosen-map f b (y ∷ ys) = go (p b) (chosen-map f (b + 1) ys)
    where
      go : (t : Bool) → map f (chosen p (b + 1) ys) ≡ chosen p (b + 1) (map f ys) → map f (cond t (y ∷ chosen p (b + 1) ys) (chosen p (b + 1) ys)) ≡ cond t (f y ∷ chosen p (b + 1) (map f ys)) (chosen p (b + 1) (map f ys))
      go true ih = ap (λ zs. f y ∷ zs) ih
      go false ih = ih

  -- all pass
  pub chosen-all : {A : Type 0} (b : ℕ) (xs : List A) → ((d : ℕ) → d < length xs → p (b + d) ≡ true) → chosen p b xs ≡ xs
  unfolding chosen
  chosen-all b [] h = refl
  chosen-all b (y ∷ ys) h = rw (here b (h 0 (omega arith))) (ap (λ zs. y ∷ zs) (chosen-all (b + 1) ys (λ d l. later b d (h (suc d) (omega arith)))))

  -- none passes
  pub chosen_none : {A : Type 0} (b : ℕ) (xs : List A) → ((d : ℕ) → p d ≡ false) → chosen p b xs ≡ []
  unfolding chosen
  chosen_none b [] h = refl
  chosen_none b (y ∷ ys) h = rw (h b) (chosen_none (b + 1) ys h)
