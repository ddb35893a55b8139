-- The laws of `upto`, `cut` and `lines_from`: a text is its first piece, and then the pieces of what follows.
use Prim.Native.Nat.{ℕ, suc, ◌+◌, ◌≤◌, ◌<◌}
use mathlib.Core.Path.{◌≡◌, refl, sym, ap}
use mathlib.Core.Bool.{Bool, true, false, cond}
use mathlib.Core.List.{List, [], ◌∷◌}
use native.Mathlib.Omega.{arith}
use lib.ListN.{length, take, drop}
use lib.Seq.{length-take-le}
use lib.Dec.{eqb}
use borrow.Author.Tests.{eqb-true}
use Rattle.format.specs.Lines.{broken, onto, chomp, lines_from}
use Rattle.byte_slices.specs.Upto.{upto}

pub upto_le : (d : ℕ) (s : List ℕ) → upto d s ≤ length s
unfolding upto
upto_le d [] = omega arith
upto_le d (b ∷ s) = go (eqb b d) (upto_le d s)
  where
    go : (t : Bool) → upto d s ≤ length s → cond t 0 (suc (upto d s)) ≤ suc (length s)
    go true h = omega arith
    go false h = omega arith

-- an LF in reach: a line with its LF, and the rest
broken-more : (s : List ℕ) → upto 10 s < length s → broken s ≡ take (suc (upto 10 s)) s ∷ broken (drop (suc (upto 10 s)) s)
unfolding upto broken onto
broken-more [] h = absurd (omega arith)
broken-more (b ∷ s) h = go (eqb b 10) refl (broken-more s) h
  where
    go : (t : Bool) → eqb b 10 ≡ t → (upto 10 s < length s → broken s ≡ take (suc (upto 10 s)) s ∷ broken (drop (suc (upto 10 s)) s))
        → cond t 0 (suc (upto 10 s)) < suc (length s)
        → cond t ((10 ∷ []) ∷ broken s) (onto b (broken s))
        ≡ take (suc (cond t 0 (suc (upto 10 s)))) (b ∷ s) ∷ broken (drop (suc (cond t 0 (suc (upto 10 s)))) (b ∷ s))
    go true e ih k = ap (λ x. (x ∷ []) ∷ broken s) (sym (eqb-true _ _ e))
    go false e ih k = ap (onto b) (ih (omega arith))

-- no LF: the rest is one line, whatever byte comes before it
onto-last : (s : List ℕ) → upto 10 s ≡ length s → (b : ℕ) → onto b (broken s) ≡ (b ∷ s) ∷ []
unfolding upto broken onto
onto-last [] h b = refl
onto-last (c ∷ s) h b = ap (onto b) (go (eqb c 10) (onto-last s) h)
  where
    go : (t : Bool) → (upto 10 s ≡ length s → (b : ℕ) → onto b (broken s) ≡ (b ∷ s) ∷ [])
        → cond t 0 (suc (upto 10 s)) ≡ suc (length s)
        → cond t ((10 ∷ []) ∷ broken s) (onto c (broken s)) ≡ (c ∷ s) ∷ []
    go true ih k = absurd (omega arith)
    go false ih k = ih (omega arith) c

broken-last : (s : List ℕ) → upto 10 s ≡ length s → 0 < length s → broken s ≡ s ∷ []
unfolding upto broken
broken-last [] h p = absurd (omega arith)
broken-last (b ∷ s) h p = go (eqb b 10) h
  where
    go : (t : Bool) → cond t 0 (suc (upto 10 s)) ≡ suc (length s) → cond t ((10 ∷ []) ∷ broken s) (onto b (broken s)) ≡ (b ∷ s) ∷ []
    go true k = absurd (omega arith)
    go false k = onto-last s (omega arith) b

-- ---- the same of lines

pub lines_none : (at : ℕ) → lines_from at [] ≡ []
unfolding lines_from
lines_none at = refl

pub lines_more : (at : ℕ) (s : List ℕ) → upto 10 s < length s
    → lines_from at s
    ≡ record { at = at; bytes = chomp (take (suc (upto 10 s)) s) } ∷ lines_from (at + suc (upto 10 s)) (drop (suc (upto 10 s)) s)
unfolding lines_from
lines_more at s h = rw (broken-more s h, length-take-le (suc (upto 10 s)) s h) refl

pub lines-last : (at : ℕ) (s : List ℕ) → upto 10 s ≡ length s → 0 < length s → lines_from at s ≡ record { at = at; bytes = chomp s } ∷ []
unfolding lines_from
lines-last at s h p = rw (broken-last s h p) refl
