-- The zero byte that closes a name, and the name before it.
use Prim.Native.Nat.{ℕ, suc, ◌+◌, ◌-◌, ◌≤◌, ◌<◌}
use mathlib.Core.Path.{◌≡◌, refl, ap, ◌∙◌}
use mathlib.Core.Bool.{true, false, false≢true}
use mathlib.Core.List.{List, [], ◌∷◌}
use mathlib.Core.Option.{none, some}
use native.Mathlib.Omega.{arith}
use lib.ListN.{length, take, drop, get_or, length-drop}
use lib.Seq.{take-take, length-take-le}
use lib.Dec.{eqb}
use Rattle.format.specs.Programs.{last_or, but_last}
use Rattle.format.specs.Binary.{closed_name}

pub closed_none : (s : List ℕ) → length s ≡ 0 → false ≡ eqb (last_or 1 s) 0
unfolding last_or
closed_none [] h = refl
closed_none (b ∷ s) h = absurd (omega arith)

last-at : (d b : ℕ) (s : List ℕ) → get_or (b ∷ s) (length s) 0 ≡ last_or d (b ∷ s)
unfolding last_or
last-at d b [] = refl
last-at d b (c ∷ s) = last-at b c s

pub closed-last : (s : List ℕ) → (length s ≡ 0 → ⊥) → eqb (get_or s (length s - 1) 0) 0 ≡ eqb (last_or 1 s) 0
closed-last [] h = absurd (h refl)
closed-last (b ∷ s) h =
    let z : suc (length s) - 1 ≡ length s = omega arith in
    ap (λ n. eqb (get_or (b ∷ s) n 0) 0) z ∙ ap (λ x. eqb x 0) (last-at 1 b s)

but_last_lem : (b : ℕ) (s : List ℕ) → but_last (b ∷ s) ≡ take (length s) (b ∷ s)
unfolding but_last
but_last_lem b [] = refl
but_last_lem b (c ∷ s) = ap {B = List ℕ} (λ r. b ∷ r) (but_last_lem c s)

pub closed_some : (s : List ℕ) → eqb (last_or 1 s) 0 ≡ true → 0 < length s
unfolding last_or
closed_some [] h = absurd (false≢true h)
closed_some (b ∷ s) h = omega arith

pub closed-name : (s : List ℕ) → eqb (last_or 1 s) 0 ≡ true → closed_name s ≡ some (take (length s - 1) s)
unfolding closed_name
closed-name s h = rw h (ap some (go s (closed_some s h)))
  where
    go : (s : List ℕ) → 0 < length s → but_last s ≡ take (length s - 1) s
    go [] k = absurd (omega arith)
    go (b ∷ s) k = let z : length s ≡ suc (length s) - 1 = omega arith in but_last_lem b s ∙ ap (λ n. take n (b ∷ s)) z

pub open-name : (s : List ℕ) → eqb (last_or 1 s) 0 ≡ false → closed_name s ≡ none
unfolding closed_name
open-name s h = rw h refl

-- ---- a run of bytes from a place on

module _ (s : List ℕ) (at len : ℕ) (h : at + len ≤ length s) where
  run_length : length (take len (drop at s)) ≡ len
  run_length = length-take-le len (drop at s) (omega (arith, length-drop at s))

  pub run-some : eqb (last_or 1 (take len (drop at s))) 0 ≡ true → 1 ≤ len
  run-some t = omega (arith, closed_some (take len (drop at s)) t, run_length)

  pub run-name : eqb (last_or 1 (take len (drop at s))) 0 ≡ true → closed_name (take len (drop at s)) ≡ some (take (len - 1) (drop at s))
  run-name t =
      closed-name (take len (drop at s)) t ∙ ap (λ n. some (take (n - 1) (take len (drop at s)))) run_length
      ∙ ap some (take-take (len - 1) len (drop at s) (omega arith))
