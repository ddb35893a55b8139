-- Whole characters hold no byte below 32 and no 127: a test over the whole table, and what it says of every byte.
use Prim.Native.Nat.{ℕ, ◌≤◌}
use mathlib.Core.Path.{◌≡◌, refl, sym, ap, ◌∙◌}
use mathlib.Core.Bool.{Bool, true, false, ◌&&◌, ◌||◌, cond, false≢true, and-eq-true_iff}
use mathlib.Core.List.{List, [], ◌∷◌}
use native.Mathlib.Omega.{arith}
use lib.Dec.{leb, ltb}
use borrow.Author.Tests.{le-leb, leb-true, ltb-true, ne_eqb}
use Rattle.format.specs.Bytes.{all}
use Rattle.format.specs.Utf8.{within, trail, forms, due, characters}
use Rattle.utf8.specs.Shown.{shown}
use Rattle.utf8.proofs.Step.{never-whole}

-- ---- ranges

-- a range all of whose bytes are shown: it starts after 127, is empty, or ends before 127
unfoldable is_safe : ℕ × ℕ → Bool
is_safe r = leb 128 r.0 || (ltb r.1 r.0 || (leb 32 r.0 && leb r.1 126))

unfoldable are_safe : List (ℕ × ℕ) → Bool
unfolding is_safe
are_safe [] = true
are_safe (r ∷ rs) = is_safe r && are_safe rs

pub shown-byte : (b : ℕ) → 32 ≤ b → (b ≡ 127 → ⊥) → shown b ≡ true
unfolding shown
shown-byte b l n = rw (le-leb 32 b l, ne_eqb b 127 n) refl

bounds : (r : ℕ × ℕ) (b : ℕ) → within r b ≡ true → (r.0 ≤ b) × (b ≤ r.1)
unfolding within
bounds r b h = let x = (and-eq-true_iff (leb r.0 b) (leb b r.1)).0 h in (leb-true r.0 b x.0, leb-true b r.1 x.1)

safe-shown : (r : ℕ × ℕ) (b : ℕ) → is_safe r ≡ true → within r b ≡ true → shown b ≡ true
unfolding is_safe
safe-shown r b h w = go (leb 128 r.0) refl (ltb r.1 r.0) refl (bounds r b w) h
  where
    go : (t : Bool) → leb 128 r.0 ≡ t → (u : Bool) → ltb r.1 r.0 ≡ u → (r.0 ≤ b) × (b ≤ r.1)
        → t || (u || (leb 32 r.0 && leb r.1 126)) ≡ true → shown b ≡ true
    go true e u f x h = shown-byte b (omega (arith, leb-true 128 r.0 e)) (λ q. omega (arith, leb-true 128 r.0 e))
    go false e true f x h = absurd (omega (arith, ltb-true r.1 r.0 f))
    go false e false f x h =
        let y = (and-eq-true_iff (leb 32 r.0) (leb r.1 126)).0 h in
        shown-byte b (omega (arith, leb-true 32 r.0 y.0)) (λ q. omega (arith, leb-true r.1 126 y.1))

-- ---- all forms

unfoldable forms_safe : List ((ℕ × ℕ) × List (ℕ × ℕ)) → Bool
unfolding is_safe are_safe
forms_safe [] = true
forms_safe (f ∷ fs) = is_safe f.0 && (are_safe f.1 && forms_safe fs)

table-safe : forms_safe forms ≡ true
unfolding forms_safe forms trail
table-safe = refl

-- so is what is due after any byte, and no character starts with a byte that is not shown
module _ (b : ℕ) where
  due-safe : (fs : List ((ℕ × ℕ) × List (ℕ × ℕ))) → forms_safe fs ≡ true → are_safe (due b fs) ≡ true
  unfolding due forms_safe
  due-safe [] h = refl
  due-safe (f ∷ fs) h =
      let x = (and-eq-true_iff (is_safe f.0) (are_safe f.1 && forms_safe fs)).0 h in
      let y = (and-eq-true_iff (are_safe f.1) (forms_safe fs)).0 x.1 in
      go (within f.0 b) y.0 (due-safe fs y.1)
    where
      go : (t : Bool) → are_safe f.1 ≡ true → are_safe (due b fs) ≡ true → are_safe (cond t f.1 (due b fs)) ≡ true
      go true k ih = k
      go false k ih = ih

  due-none : shown b ≡ false → (fs : List ((ℕ × ℕ) × List (ℕ × ℕ))) → forms_safe fs ≡ true → due b fs ≡ (1, 0) ∷ []
  unfolding due forms_safe
  due-none e [] h = refl
  due-none e (f ∷ fs) h =
      let x = (and-eq-true_iff (is_safe f.0) (are_safe f.1 && forms_safe fs)).0 h in
      go (within f.0 b) refl (safe-shown f.0 b x.0) (due-none e fs ((and-eq-true_iff (are_safe f.1) (forms_safe fs)).0 x.1).1)
    where
      go : (t : Bool) → within f.0 b ≡ t → (within f.0 b ≡ true → shown b ≡ true) → due b fs ≡ (1, 0) ∷ [] → cond t f.1 (due b fs) ≡ (1, 0) ∷ []
      go true k s ih = absurd (false≢true (sym e ∙ s k))
      go false k s ih = ih

  first-shown : (s : List ℕ) → characters (due b forms) s ≡ true → shown b ≡ true
  first-shown s h = go (shown b) refl
    where
      go : (t : Bool) → shown b ≡ t → shown b ≡ true
      go true e = e
      go false e = absurd (false≢true (sym (never-whole s) ∙ ap (λ rs. characters rs s) (sym (due-none e forms table-safe)) ∙ h))

-- ---- characters

characters-shown : (rs : List (ℕ × ℕ)) (s : List ℕ) → are_safe rs ≡ true → characters rs s ≡ true → all shown s ≡ true
unfolding characters all are_safe
characters-shown [] [] z h = refl
characters-shown [] (b ∷ s) z h = rw (first-shown b s h) (characters-shown (due b forms) s (due-safe b forms table-safe) h)
characters-shown (r ∷ rs) [] z h = absurd (false≢true h)
characters-shown (r ∷ rs) (b ∷ s) z h =
    let x = (and-eq-true_iff (within r b) (characters rs s)).0 h in
    let y = (and-eq-true_iff (is_safe r) (are_safe rs)).0 z in
    rw (safe-shown r b y.0 x.0) (characters-shown rs s y.1 x.1)

pub whole-shown : (s : List ℕ) → characters [] s ≡ true → all shown s ≡ true
unfolding are_safe
whole-shown s h = characters-shown [] s refl h
