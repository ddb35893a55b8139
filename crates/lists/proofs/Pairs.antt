-- Two lists that belong together one by one: what holds of the one list holds of the other, and their lengths agree.
use Prim.Native.Nat.{ℕ, zero, suc, ◌<◌}
use mathlib.Core.Path.{◌≡◌, refl, ap}
use mathlib.Core.List.{List, [], ◌∷◌}
use native.Mathlib.Omega.{arith}
use lib.ListN.{length, get_or}
use Rattle.byte_slices.specs.Stands.{Each}
use Rattle.lists.specs.Pairs.{Pairs}

-- what holds of all holds of each
pub each_all : {A : Type 0} (P : A → Type 0) → ((x : A) → P x) → (xs : List A) → Each P xs
unfolding Each
each_all P f [] = tt
each_all P f (x ∷ xs) = (f x, each_all P f xs)

-- of one, by its place
pub each_at : {A : Type 0} (P : A → Type 0) (xs : List A) (i : ℕ) (x : A) → Each P xs → i < length xs → P (get_or xs i x)
unfolding Each
each_at P [] i x h l = absurd (omega arith)
each_at P (y ∷ xs) zero x h l = h.0
each_at P (y ∷ xs) (suc i) x h l = each_at P xs i x h.1 (omega arith)

pub each_both : {A : Type 0} (P Q : A → Type 0) (xs : List A) → Each P xs → Each Q xs → Each (λ x. P x × Q x) xs
unfolding Each
each_both P Q [] p q = tt
each_both P Q (x ∷ xs) p q = ((p.0, q.0), each_both P Q xs p.1 q.1)

module _ {A B : Type 0} (R : A → B → Type 0) where
  pub pairs-left : (Q : A → Type 0) → ((x : A) (y : B) → R x y → Q x) → (xs : List A) (ys : List B) → Pairs R xs ys → Each Q xs
  unfolding Pairs Each
  pairs-left Q f [] [] h = tt
  pairs-left Q f [] (y ∷ ys) h = tt
  pairs-left Q f (x ∷ xs) [] h = absurd h
  pairs-left Q f (x ∷ xs) (y ∷ ys) h = (f x y h.0, pairs-left Q f xs ys h.1)

  pub pairs-right : (P : A → Type 0) (Q : B → Type 0) → ((x : A) (y : B) → P x → R x y → Q y) → (xs : List A) (ys : List B) → Each P xs → Pairs R xs ys → Each Q ys
  unfolding Pairs Each
  pairs-right P Q f [] [] p h = tt
  pairs-right P Q f [] (y ∷ ys) p h = absurd h
  pairs-right P Q f (x ∷ xs) [] p h = tt
  pairs-right P Q f (x ∷ xs) (y ∷ ys) p h = (f x y p.0 h.0, pairs-right P Q f xs ys p.1 h.1)

  pub pairs-map : (S : A → B → Type 0) → ((x : A) (y : B) → R x y → S x y) → (xs : List A) (ys : List B) → Pairs R xs ys → Pairs S xs ys
  unfolding Pairs
  pairs-map S f [] [] h = tt
  pairs-map S f [] (y ∷ ys) h = h
  pairs-map S f (x ∷ xs) [] h = h
  pairs-map S f (x ∷ xs) (y ∷ ys) h = (f x y h.0, pairs-map S f xs ys h.1)

  pub pairs-length : (xs : List A) (ys : List B) → Pairs R xs ys → length xs ≡ length ys
  unfolding Pairs
  pairs-length [] [] h = refl
  pairs-length [] (y ∷ ys) h = absurd h
  pairs-length (x ∷ xs) [] h = absurd h
  pairs-length (x ∷ xs) (y ∷ ys) h = ap suc (pairs-length xs ys h.1)

  pub pairs-at : (xs : List A) (ys : List B) (i : ℕ) (x : A) (y : B) → i < length xs → Pairs R xs ys → R (get_or xs i x) (get_or ys i y)
  unfolding Pairs
  pairs-at [] ys i x y l h = absurd (omega arith)
  pairs-at (a ∷ xs) [] i x y l h = absurd h
  pairs-at (a ∷ xs) (b ∷ ys) zero x y l h = h.0
  pairs-at (a ∷ xs) (b ∷ ys) (suc i) x y l h = pairs-at xs ys i x y (omega arith) h.1
