-- One byte of a character after another: what is due before it and what is due after it, in ranges and in plain numbers.
use Prim.Native.Nat.{ℕ, zero, suc, ◌-◌, ◌≤◌, ◌<◌}
use mathlib.Core.Path.{◌≡◌, refl, sym, ap, ◌∙◌}
use mathlib.Core.Bool.{Bool, true, false, ◌&&◌, cond, and-false}
use mathlib.Core.List.{List, [], ◌∷◌}
use native.Mathlib.Omega.{arith}
use lib.ListN.{length}
use lib.Dec.{leb}
use borrow.Author.Tests.{le-leb, lt-leb}
use Rattle.format.specs.Utf8.{within, forms, due, characters}
use Rattle.byte_slices.specs.Stands.{Each}
use Rattle.utf8.specs.Pending.{pending_of, trails, ranges, due_of, due_after}
use Rattle.utf8.specs.declared.Pending.{Pending}

-- ---- a byte and a range

pub inside : (lo hi b : ℕ) → lo ≤ b → b ≤ hi → within (lo, hi) b ≡ true
unfolding within
inside lo hi b l u = rw (le-leb lo b l, le-leb b hi u) refl

pub under : (lo hi b : ℕ) → b < lo → within (lo, hi) b ≡ false
unfolding within
under lo hi b l = rw (lt-leb lo b l) refl

pub beyond : (lo hi b : ℕ) → hi < b → within (lo, hi) b ≡ false
unfolding within
beyond lo hi b u = rw (lt-leb b hi u) (and-false (leb lo b))

-- ---- ranges

-- no byte is in this one
pub never-whole : (s : List ℕ) → characters ((1, 0) ∷ []) s ≡ false
unfolding characters
never-whole [] = refl
never-whole (zero ∷ s) = refl
never-whole (suc b ∷ s) = rw (beyond 1 0 (suc b) (omega arith)) refl

-- what holds of what follows in each form holds of what is due after any byte
pub due-each : (P : List (ℕ × ℕ) → Type 0) (b : ℕ) → P ((1, 0) ∷ []) → (fs : List ((ℕ × ℕ) × List (ℕ × ℕ))) → Each (λ f. P f.1) fs → P (due b fs)
unfolding due Each
due-each P b n [] h = n
due-each P b n (f ∷ fs) h = go (within f.0 b) (due-each P b n fs h.1)
  where
    go : (t : Bool) → P (due b fs) → P (cond t f.1 (due b fs))
    go true ih = h.0
    go false ih = ih

characters-after : (rs : List (ℕ × ℕ)) (b : ℕ) (s : List ℕ) → characters rs (b ∷ s) ≡ characters (due_after rs b) s
unfolding characters due_after
characters-after [] b s = refl
characters-after (r ∷ rs) b s = go (within r b)
  where
    go : (t : Bool) → t && characters rs s ≡ characters (cond t rs ((1, 0) ∷ [])) s
    go true = refl
    go false = sym (never-whole s)

-- ---- in plain numbers

trails-length : (n : ℕ) → length (trails n) ≡ n
unfolding trails
trails-length zero = refl
trails-length (suc n) = ap suc (trails-length n)

pub trails-pending : (n : ℕ) → pending_of (trails n) ≡ record { left = n; lo = 128; hi = 191 }
unfolding pending_of trails
trails-pending zero = refl
trails-pending (suc n) = rw (trails-length n) refl

-- the ranges that the numbers mean
unfoldable Told : List (ℕ × ℕ) → Type 0
Told rs = due_of (pending_of rs) ≡ rs

trails-told : (n : ℕ) → Told (trails n)
unfolding Told due_of ranges trails pending_of
trails-told zero = refl
trails-told (suc n) = ap due_of (trails-pending (suc n))

due-told : (b : ℕ) → Told (due b forms)
unfolding Told forms Each due_of ranges trails pending_of
due-told b = due-each Told b refl forms (refl, (refl, (refl, (refl, (refl, (refl, (refl, (refl, (refl, tt)))))))))

next-told : (t : Bool) (n : ℕ) → Told (cond t (trails n) ((1, 0) ∷ []))
unfolding Told due_of ranges trails pending_of
next-told true n = trails-told n
next-told false n = refl

after-told : (p : Pending) (b : ℕ) → Told (due_after (due_of p) b)
unfolding due_after due_of ranges
after-told p b = go p.left
  where
    go : (n : ℕ) → Told (due_after (ranges n p.lo p.hi) b)
    go zero = due-told b
    go (suc n) = next-told (within (p.lo, p.hi) b) n

-- one more byte
pub step : (p : Pending) (b : ℕ) (s : List ℕ) → characters (due_of p) (b ∷ s) ≡ characters (due_of (pending_of (due_after (due_of p) b))) s
unfolding Told
step p b s = characters-after (due_of p) b s ∙ ap (λ rs. characters rs s) (sym (after-told p b))

-- ---- the first byte of a character, and a later one

module _ (p : Pending) (b : ℕ) where
  pub after_none : p.left ≡ 0 → due_after (due_of p) b ≡ due b forms
  unfolding due_after due_of ranges
  after_none e = rw e refl

  module _ (h : p.left ≡ 0 → ⊥) where
    pub after-miss : within (p.lo, p.hi) b ≡ false → due_after (due_of p) b ≡ (1, 0) ∷ []
    unfolding due_after due_of ranges
    after-miss e = go p.left refl
      where
        go : (n : ℕ) → p.left ≡ n → due_after (ranges n p.lo p.hi) b ≡ (1, 0) ∷ []
        go zero q = absurd (h q)
        go (suc n) q = rw e refl

    pub after_next : within (p.lo, p.hi) b ≡ true → pending_of (due_after (due_of p) b) ≡ record { left = p.left - 1; lo = 128; hi = 191 }
    unfolding due_after due_of ranges
    after_next e = go p.left refl
      where
        go : (n : ℕ) → p.left ≡ n → pending_of (due_after (ranges n p.lo p.hi) b) ≡ record { left = n - 1; lo = 128; hi = 191 }
        go zero q = absurd (h q)
        go (suc n) q = let d : suc n - 1 ≡ n = omega arith in rw (e, d) (trails-pending n)
