-- The schedule, word by word. Assumes nothing.
use Prim.Native.Nat.{ℕ, suc, ◌+◌, ◌-◌, ◌≤◌, ◌<◌}
use mathlib.Core.Path.{◌≡◌, refl, sym, ◌∙◌}
use mathlib.Core.List.{List}
use native.Mathlib.Omega.{arith}
use native.Mathlib.Numerals.{add-one}
use lib.ListN.{length, take, get_or, set}
use lib.Seq.{get_or-take, length-take-le, take-suc-set, take_all}
use Rattle.format.specs.Sha256.{sum32, σ0, σ1, back, next, extend}

back_at : (w : List ℕ) (t j : ℕ) → 0 < j → j ≤ t → t ≤ length w → back j (take t w) ≡ get_or w (t - j) 0
unfolding back
back_at w t j p h l = rw (length-take-le t w l) (get_or-take t w (t - j) 0 (omega arith))

pub next-at : (w : List ℕ) (t : ℕ) → 16 ≤ t → t ≤ length w
    → next (take t w) ≡ sum32 (sum32 (sum32 (σ1 (get_or w (t - 2) 0)) (get_or w (t - 7) 0)) (σ0 (get_or w (t - 15) 0))) (get_or w (t - 16) 0)
unfolding next
next-at w t h l =
    rw (
      back_at w t 2 (omega arith) (omega arith) l,
      back_at w t 7 (omega arith) (omega arith) l,
      back_at w t 15 (omega arith) (omega arith) l,
      back_at w t 16 (omega arith) (omega arith) l,
    )
    refl

-- what a loop has: `w` has the first `t` words of the schedule after `m`
unfoldable pub Extended : List ℕ → List ℕ → ℕ → Type 0
Extended m w t = take t w ≡ extend (t - 16) m

pub extended_none : (w : List ℕ) → Extended (take 16 w) w 16
unfolding Extended extend
extended_none w = refl

pub extended-more : (m w : List ℕ) (t v : ℕ) → 16 ≤ t → t < length w → v ≡ next (take t w) → Extended m w t → Extended m (set w t v) (t + 1)
unfolding Extended extend
extended-more m w t v h l n e =
    let k : t + 1 - 16 ≡ suc (t - 16) = omega arith in
    rw (k, add-one t, take-suc-set w t v l, n, e) refl

pub extended-all : (m w : List ℕ) (t : ℕ) → t ≡ 64 → length w ≡ 64 → Extended m w t → w ≡ extend 48 m
unfolding Extended
extended-all m w t e l inv = sym (take_all 64 w (omega arith)) ∙ (rw e at inv)
