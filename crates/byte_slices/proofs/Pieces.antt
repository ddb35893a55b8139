-- The laws of `cut` and `placed`: a text is the piece before the first `d`, and then the pieces of what follows that `d`.
use Prim.Native.Nat.{ℕ, suc, ◌+◌, ◌<◌}
use mathlib.Core.Path.{◌≡◌, refl, ap}
use mathlib.Core.Bool.{Bool, true, false, cond}
use mathlib.Core.List.{List, [], ◌∷◌}
use native.Mathlib.Omega.{arith}
use lib.ListN.{length, take, drop}
use lib.Dec.{eqb}
use Rattle.format.specs.Lines.{onto, cut, placed}
use Rattle.byte_slices.specs.Upto.{upto, before}
use Rattle.byte_slices.proofs.Before.{before-length}

pub cut-last : (d : ℕ) (s : List ℕ) → upto d s ≡ length s → cut d s ≡ before d s ∷ []
unfolding cut upto before onto
cut-last d [] h = refl
cut-last d (b ∷ s) h = go (eqb b d) (cut-last d s) h
  where
    go : (t : Bool) → (upto d s ≡ length s → cut d s ≡ take (upto d s) s ∷ []) → cond t 0 (suc (upto d s)) ≡ suc (length s)
        → cond t ([] ∷ cut d s) (onto b (cut d s)) ≡ take (cond t 0 (suc (upto d s))) (b ∷ s) ∷ []
    go true ih k = absurd (omega arith)
    go false ih k = ap (onto b) (ih (omega arith))

pub cut-more : (d : ℕ) (s : List ℕ) → upto d s < length s → cut d s ≡ before d s ∷ cut d (drop (suc (upto d s)) s)
unfolding cut upto before onto
cut-more d [] h = absurd (omega arith)
cut-more d (b ∷ s) h = go (eqb b d) (cut-more d s) h
  where
    go : (t : Bool) → (upto d s < length s → cut d s ≡ take (upto d s) s ∷ cut d (drop (suc (upto d s)) s))
        → cond t 0 (suc (upto d s)) < suc (length s)
        → cond t ([] ∷ cut d s) (onto b (cut d s))
        ≡ take (cond t 0 (suc (upto d s))) (b ∷ s) ∷ cut d (drop (suc (cond t 0 (suc (upto d s)))) (b ∷ s))
    go true ih k = refl
    go false ih k = ap (onto b) (ih (omega arith))

pub placed-last : (d at : ℕ) (s : List ℕ) → upto d s ≡ length s → placed at (cut d s) ≡ record { at = at; bytes = before d s } ∷ []
unfolding placed
placed-last d at s h = rw (cut-last d s h) refl

pub placed-more : (d at : ℕ) (s : List ℕ) → upto d s < length s
    → placed at (cut d s)
    ≡ record { at = at; bytes = before d s } ∷ placed (at + upto d s + 1) (cut d (drop (suc (upto d s)) s))
unfolding placed
placed-more d at s h = rw (cut-more d s h, before-length d s) refl
