-- A search along a path, slot by slot: where it ends, and how many slots it looks at.
use Prim.Native.Nat.{ℕ, zero, suc, ◌+◌, ◌%◌, ◌≤◌, ◌<◌}
use mathlib.Core.Path.{◌≡◌, refl, ap, ◌∙◌}
use mathlib.Core.Bool.{Bool, true, false, cond}
use mathlib.Core.List.{List, [], ◌∷◌}
use native.Mathlib.Omega.{arith}
use lib.ListN.{length, get_or, drop, drop_of_length-le}
use Rattle.format.specs.NameIndex.{absent, path, looked}
use Rattle.name_index.proofs.Passing.{opened}
use Rattle.name_index.proofs.Path.{path-length}
use Rattle.name_lookup.specs.Looking.{says, landing, looks_of}

-- the slots `ss` of a path, of which `i` have been passed; the next one is `at`, of `n`
module _ (ss : List ℕ) (i : ℕ) (hit : ℕ → Bool) (n at : ℕ) where
  pub ended : length ss ≤ i → (landing hit n at (drop i ss) ≡ absent) × (looked hit (drop i ss) ≡ 0)
  unfolding landing looked
  ended h = (rw drop_of_length-le refl, rw drop_of_length-le refl)

  module _ (l : i < length ss) where
    pub missed : get_or ss i 0 ≡ 0 → (landing hit n at (drop i ss) ≡ absent) × (looked hit (drop i ss) ≡ 1)
    unfolding landing looked
    missed e = (rw (opened ss i l, e) refl, rw (opened ss i l, e) refl)

    module _ (v : ℕ) (is : get_or ss i 0 ≡ v) (some : v ≡ 0 → ⊥) where
      -- a slot that is not empty
      landing-one : landing hit n at (drop i ss) ≡ cond (hit v) (at % n) (landing hit n (at + 1) (drop (i + 1) ss))
      unfolding landing
      landing-one = rw (opened ss i l, is) (go v some)
        where
          go : (v : ℕ) → (v ≡ 0 → ⊥) → landing hit n at (v ∷ drop (i + 1) ss) ≡ cond (hit v) (at % n) (landing hit n (at + 1) (drop (i + 1) ss))
          go zero n = absurd (n refl)
          go (suc v) n = refl

      looked-one : looked hit (drop i ss) ≡ cond (hit v) 1 (suc (looked hit (drop (i + 1) ss)))
      unfolding looked
      looked-one = rw (opened ss i l, is) (go v some)
        where
          go : (v : ℕ) → (v ≡ 0 → ⊥) → looked hit (v ∷ drop (i + 1) ss) ≡ cond (hit v) 1 (suc (looked hit (drop (i + 1) ss)))
          go zero n = absurd (n refl)
          go (suc v) n = refl

      pub found : hit v ≡ true → (landing hit n at (drop i ss) ≡ at % n) × (looked hit (drop i ss) ≡ 1)
      found h =
          (landing-one ∙ ap (λ b. cond b (at % n) (landing hit n (at + 1) (drop (i + 1) ss))) h, looked-one ∙ ap (λ b. cond b 1 (suc (looked hit (drop (i + 1) ss)))) h)

      pub passed : hit v ≡ false → (landing hit n at (drop i ss) ≡ landing hit n (at + 1) (drop (i + 1) ss)) × (looked hit (drop i ss) ≡ suc (looked hit (drop (i + 1) ss)))
      passed h =
          (landing-one ∙ ap (λ b. cond b (at % n) (landing hit n (at + 1) (drop (i + 1) ss))) h, looked-one ∙ ap (λ b. cond b 1 (suc (looked hit (drop (i + 1) ss)))) h)

-- ---- no slot is looked at twice

looked-most : (hit : ℕ → Bool) (ss : List ℕ) → looked hit ss ≤ length ss
unfolding looked
looked-most hit [] = omega arith
looked-most hit (zero ∷ ss) = omega arith
looked-most hit (suc v ∷ ss) = go (hit (suc v)) (looked-most hit ss)
  where
    go : (t : Bool) → looked hit ss ≤ length ss → cond t 1 (suc (looked hit ss)) ≤ suc (length ss)
    go true h = omega arith
    go false h = omega arith

pub looks-most : (t slots x : List ℕ) → 0 < length slots → looks_of t slots x ≤ length slots
unfolding looks_of
looks-most t slots x some = omega (arith, looked-most (says t x) (path x slots), path-length slots x some)
