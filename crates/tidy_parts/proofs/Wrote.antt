-- Writes one after another are one.
use Prim.Native.Nat.{ℕ, ◌+◌, ◌≤◌, ◌<◌}
use mathlib.Core.Path.{◌≡◌, sym, ap, ◌∙◌}
use mathlib.Core.List.{List, [], ◌∷◌, ◌++◌}
use native.Mathlib.Omega.{arith}
use native.Mathlib.Numerals.{add-one, add-two}
use lib.ListN.{length, set, length-append}
use lib.Seq.{sets-eq}
use Rattle.byte_slices.specs.Over.{over}
use Rattle.byte_slices.proofs.Over.{over-over}

-- what a writer leaves of `out`, and the place that it answers: `xs` is from `at` on
abbrev pub Wrote : List ℕ → ℕ → List ℕ → ℕ → List ℕ → Type 0
Wrote out at last next xs = (next ≡ at + length xs) × (last ≡ over out at xs)

pub wrote_then : (out : List ℕ) (at : ℕ) (mid : List ℕ) (n : ℕ) (last : List ℕ) (m : ℕ) (xs ys : List ℕ)
    → Wrote out at mid n xs → Wrote mid n last m ys → at + length (xs ++ ys) ≤ length out → Wrote out at last m (xs ++ ys)
wrote_then out at mid n last m xs ys (e, w) (f, v) h =
    let l : length (xs ++ ys) ≡ length xs + length ys = length-append xs ys in
    (omega arith, v ∙ ap (λ k. over mid k ys) e ∙ ap (λ l. over l (at + length xs) ys) w ∙ over-over out at xs ys (omega arith))

-- what is still to come, written after it
pub wrote-onward : (out last : List ℕ) (n m : ℕ) (all xs ys : List ℕ) → all ≡ xs ++ ys → Wrote out n last m xs → n + length xs + length ys ≤ length out → over last m ys ≡ over out n all
wrote-onward out last n m all xs ys e w h =
    ap (λ k. over last k ys) w.0 ∙ ap (λ l. over l (n + length xs) ys) w.1 ∙ over-over out n xs ys h ∙ ap (over out n) (sym e)

-- one store, and three
pub wrote_one : (out : List ℕ) (at a : ℕ) → at < length out → set out at a ≡ over out at (a ∷ [])
unfolding over
wrote_one out at a h = sets-eq (a ∷ []) out at (omega arith)

pub wrote-three : (out : List ℕ) (at a b c : ℕ) → at + 3 ≤ length out → set (set (set out at a) (at + 1) b) (at + 2) c ≡ over out at (a ∷ b ∷ c ∷ [])
unfolding over
wrote-three out at a b c h = rw (add-one at, add-two at) (sets-eq (a ∷ b ∷ c ∷ []) out at h)
