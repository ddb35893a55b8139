-- A test that an element of a list passes, and the element.
use Prim.Native.Nat.{ℕ, zero, suc, ◌<◌}
use mathlib.Core.Path.{◌≡◌, refl, sym, ap, ◌∙◌}
use mathlib.Core.Logic.{◌⊎◌, ⊎_elim}
use mathlib.Core.Bool.{Bool, true, false, ◌&&◌, ◌||◌, false≢true}
use mathlib.Core.List.Memᴰ
use mathlib.Core.List.{List, [], ◌∷◌, Memᴰ}
use native.Mathlib.Omega.{arith}
use lib.ListN.{length, get_or}
use Rattle.format.specs.Bytes.{all, any}
use Rattle.lists.proofs.Bools.{or-true, and_left, and_right}

pub both : (a b : Bool) → a ≡ true → b ≡ true → a && b ≡ true
both a b p q = rw (p, q) refl

pub three : (a b c : Bool) → a && b && c ≡ true → (a ≡ true) × (b ≡ true) × (c ≡ true)
three a b c e = let h = and_left (a && b) c e in (and_left a b h, and_right a b h, and_right (a && b) c e)

pub all_three : (a b c : Bool) → a ≡ true → b ≡ true → c ≡ true → a && b && c ≡ true
all_three a b c p q r = rw (p, q, r) refl

-- what is not true is false
pub is_false : (t : Bool) → (t ≡ true → ⊥) → t ≡ false
is_false true h = absurd (h refl)
is_false false h = refl

module _ {A : Type 0} (p : A → Bool) where
  pub any_found : (xs : List A) → any p xs ≡ true → (x : A) × Memᴰ x xs × (p x ≡ true)
  unfolding any
  any_found [] e = absurd (false≢true e)
  any_found (x ∷ xs) e = go (p x) refl e (any_found xs)
    where
      go : (t : Bool) → p x ≡ t → t || any p xs ≡ true → (any p xs ≡ true → (y : A) × Memᴰ y xs × (p y ≡ true))
          → (y : A) × Memᴰ y (x ∷ xs) × (p y ≡ true)
      go true q e ih = (x, Memᴰ.head refl, q)
      go false q e ih = let r = ih e in (r.0, Memᴰ.tail r.1, r.2)

  pub found-any : (xs : List A) (x : A) → Memᴰ x xs → p x ≡ true → any p xs ≡ true
  unfolding any
  found-any [] x h e = absurd (Memᴰ.not-nil h)
  found-any (y ∷ xs) x h e =
      ⊎_elim (λ q. let h : p y ≡ true = sym (ap p q) ∙ e in rw h refl) (λ h. rw (found-any xs x h e) (or-true (p y))) (Memᴰ.cases_cons h)

-- ---- by places

module _ (p : ℕ → Bool) where
  pub all-at : (xs : List ℕ) (k : ℕ) → all p xs ≡ true → k < length xs → p (get_or xs k 0) ≡ true
  unfolding all
  all-at [] k e h = absurd (omega arith)
  all-at (x ∷ xs) zero e h = and_left (p x) (all p xs) e
  all-at (x ∷ xs) (suc k) e h = all-at xs k (and_right (p x) (all p xs) e) (omega arith)

  pub at_all : (xs : List ℕ) → ((k : ℕ) → k < length xs → p (get_or xs k 0) ≡ true) → all p xs ≡ true
  unfolding all
  at_all [] f = refl
  at_all (x ∷ xs) f = both (p x) (all p xs) (f 0 (omega arith)) (at_all xs (λ k h. f (suc k) (omega arith)))
