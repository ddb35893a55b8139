-- The table of classes: one test that antt computes over all of its entries, and what a class says. `Class` has the rule at each byte.
use Prim.Native.Nat.{ℕ, zero, suc, ◌+◌, ◌<◌}
use mathlib.Core.Path.{◌≡◌, refl, sym, subst, ◌∙◌}
use mathlib.Core.Bool.{Bool, true, false, not, ◌&&◌, cond}
use mathlib.Core.List.{List, [], ◌∷◌}
use native.Mathlib.Omega.{arith}
use native.Mathlib.Nat.{add-zero, add-suc, suc-add}
use lib.Dec.{eqb}
use lib.ListN.{length, get_or}
use Rattle.format.specs.Tidy.{name_first, name_later}
use Rattle.tidy_name.specs.Classes.{class_of}

-- the test `f` passes at each entry of the list and its place, counted from `i`
abbrev pub every : (ℕ → ℕ → Bool) → ℕ → List ℕ → Bool
every f i [] = true
every f i (x ∷ xs) = f i x && every f (suc i) xs

pub from : (f : ℕ → ℕ → Bool) (xs : List ℕ) (i k : ℕ) → every f i xs ≡ true → k < length xs → f (i + k) (get_or xs k 0) ≡ true
from f [] i k e h = absurd (omega arith)
from f (x ∷ xs) i k e h = go (f i x) refl e k h (from f xs (suc i))
  where
    go : (t : Bool) → f i x ≡ t → (t && every f (suc i) xs) ≡ true → (k : ℕ) → k < suc (length xs)
        → ((k : ℕ) → every f (suc i) xs ≡ true → k < length xs → f (suc i + k) (get_or xs k 0) ≡ true) → f (i + k) (get_or (x ∷ xs) k 0) ≡ true
    go false q r k h ih = cc
    go true q r zero h ih = subst (λ m. f m x ≡ true) (sym (add-zero i)) q
    go true q r (suc k) h ih = subst (λ m. f m (get_or xs k 0) ≡ true) (suc-add i k ∙ sym (add-suc i k)) (ih k r (omega arith))

-- ---- the classes

-- the table, entry by entry
unfoldable pub classes : List ℕ
classes =
    0 ∷ 0 ∷ 0 ∷ 0 ∷ 0 ∷ 0 ∷ 0 ∷ 0 ∷ 0 ∷ 0 ∷ 0 ∷ 0 ∷ 0 ∷ 0 ∷ 0 ∷ 0
    ∷ 0 ∷ 0 ∷ 0 ∷ 0 ∷ 0 ∷ 0 ∷ 0 ∷ 0 ∷ 0 ∷ 0 ∷ 0 ∷ 0 ∷ 0 ∷ 0 ∷ 0 ∷ 0
    ∷ 0 ∷ 2 ∷ 0 ∷ 2 ∷ 2 ∷ 2 ∷ 2 ∷ 0 ∷ 0 ∷ 0 ∷ 1 ∷ 2 ∷ 0 ∷ 2 ∷ 2 ∷ 2
    ∷ 2 ∷ 2 ∷ 2 ∷ 2 ∷ 2 ∷ 2 ∷ 2 ∷ 2 ∷ 2 ∷ 2 ∷ 2 ∷ 2 ∷ 0 ∷ 1 ∷ 0 ∷ 2
    ∷ 2 ∷ 2 ∷ 2 ∷ 2 ∷ 2 ∷ 2 ∷ 2 ∷ 2 ∷ 2 ∷ 2 ∷ 2 ∷ 2 ∷ 2 ∷ 2 ∷ 2 ∷ 2
    ∷ 2 ∷ 2 ∷ 2 ∷ 2 ∷ 2 ∷ 2 ∷ 2 ∷ 2 ∷ 2 ∷ 2 ∷ 2 ∷ 0 ∷ 0 ∷ 0 ∷ 2 ∷ 2
    ∷ 0 ∷ 2 ∷ 2 ∷ 2 ∷ 2 ∷ 2 ∷ 2 ∷ 2 ∷ 2 ∷ 2 ∷ 2 ∷ 2 ∷ 2 ∷ 2 ∷ 2 ∷ 2
    ∷ 2 ∷ 2 ∷ 2 ∷ 2 ∷ 2 ∷ 2 ∷ 2 ∷ 2 ∷ 2 ∷ 2 ∷ 2 ∷ 0 ∷ 2 ∷ 0 ∷ 2 ∷ 0
    ∷ 0 ∷ 0 ∷ 0 ∷ 0 ∷ 0 ∷ 0 ∷ 0 ∷ 0 ∷ 0 ∷ 0 ∷ 0 ∷ 0 ∷ 0 ∷ 0 ∷ 0 ∷ 0
    ∷ 0 ∷ 0 ∷ 0 ∷ 0 ∷ 0 ∷ 0 ∷ 0 ∷ 0 ∷ 0 ∷ 0 ∷ 0 ∷ 0 ∷ 0 ∷ 0 ∷ 0 ∷ 0
    ∷ 0 ∷ 0 ∷ 0 ∷ 0 ∷ 0 ∷ 0 ∷ 0 ∷ 0 ∷ 0 ∷ 0 ∷ 0 ∷ 0 ∷ 0 ∷ 0 ∷ 0 ∷ 0
    ∷ 0 ∷ 0 ∷ 0 ∷ 0 ∷ 0 ∷ 0 ∷ 0 ∷ 0 ∷ 0 ∷ 0 ∷ 0 ∷ 0 ∷ 0 ∷ 0 ∷ 0 ∷ 0
    ∷ 0 ∷ 0 ∷ 0 ∷ 0 ∷ 0 ∷ 0 ∷ 0 ∷ 0 ∷ 0 ∷ 0 ∷ 0 ∷ 0 ∷ 0 ∷ 0 ∷ 0 ∷ 0
    ∷ 0 ∷ 0 ∷ 0 ∷ 0 ∷ 0 ∷ 0 ∷ 0 ∷ 0 ∷ 0 ∷ 0 ∷ 0 ∷ 0 ∷ 0 ∷ 0 ∷ 0 ∷ 0
    ∷ 0 ∷ 0 ∷ 0 ∷ 0 ∷ 0 ∷ 0 ∷ 0 ∷ 0 ∷ 0 ∷ 0 ∷ 0 ∷ 0 ∷ 0 ∷ 0 ∷ 0 ∷ 0
    ∷ 0 ∷ 0 ∷ 0 ∷ 0 ∷ 0 ∷ 0 ∷ 0 ∷ 0 ∷ 0 ∷ 0 ∷ 0 ∷ 0 ∷ 0 ∷ 0 ∷ 0 ∷ 0
    ∷ []

-- the entry at `b` is that byte's class
unfoldable pub is_class : ℕ → ℕ → Bool
unfolding class_of
is_class b x = eqb x (class_of b)

-- the test over the whole table
pub right : every is_class 0 classes ≡ true
unfolding classes is_class
right = refl

pub class-first : (b : ℕ) → eqb (class_of b) 2 ≡ name_first b
unfolding class_of
class-first b = go (name_first b) (name_later b)
  where
    go : (t u : Bool) → eqb (cond t 2 (cond u 1 0)) 2 ≡ t
    go true u = refl
    go false true = refl
    go false false = refl

first-later : (b : ℕ) → name_first b ≡ true → name_later b ≡ true
unfolding name_later
first-later b e = rw e refl

pub class-later : (b : ℕ) → not (eqb (class_of b) 0) ≡ name_later b
unfolding class_of
class-later b = go (name_first b) (name_later b) (first-later b)
  where
    go : (t u : Bool) → (t ≡ true → u ≡ true) → not (eqb (cond t 2 (cond u 1 0)) 0) ≡ u
    go true u h = sym (h refl)
    go false true h = refl
    go false false h = refl
