-- The laws of `first_line`: what it is by the place of the first LF, its bounds, and a text as its first line and the lines that follow.
use Prim.Native.Nat.{ℕ, zero, suc, ◌+◌, ◌-◌, ◌≤◌, ◌<◌}
use mathlib.Core.Path.{◌≡◌, refl, ap, ◌∙◌}
use mathlib.Core.Bool.{Bool, true, false, cond}
use mathlib.Core.Logic.{⊎_elim}
use mathlib.Core.List.{List, [], ◌∷◌}
use native.Mathlib.Omega.{arith}
use lib.ListN.{length, take, drop, get_or, length-take}
use lib.Seq.{length-take-le, take_all, take-take, take-length, drop-length}
use lib.Dec.{eqb}
use borrow.Author.Tests.{eq-eqb}
use Rattle.format.specs.Lines.{chomp, lines_from}
use Rattle.byte_slices.specs.Upto.{upto}
use Rattle.byte_slices.specs.First.{first_line}
use Rattle.byte_slices.proofs.Lines.{lines_none, lines_more, lines-last}
use Rattle.byte_slices.proofs.Before.{upto-at, upto-cases}

-- ---- `chomp`

-- the front of what is chomped, no longer than it
pub chomp-front : (p : List ℕ) → (length (chomp p) ≤ length p) × (chomp p ≡ take (length (chomp p)) p)
unfolding chomp
chomp-front [] = (omega arith, refl)
chomp-front (b ∷ []) = go (eqb b 10)
  where
    go : (t : Bool) → (length (cond t [] (b ∷ [])) ≤ 1) × (cond t [] (b ∷ []) ≡ take (length (cond t [] (b ∷ []))) (b ∷ []))
    go true = (omega arith, refl)
    go false = (omega arith, refl)
chomp-front (b ∷ c ∷ []) = go (eqb c 10) (eqb b 13)
  where
    go : (t u : Bool) → (length (cond t (cond u [] (b ∷ [])) (b ∷ c ∷ [])) ≤ 2)
        × (cond t (cond u [] (b ∷ [])) (b ∷ c ∷ []) ≡ take (length (cond t (cond u [] (b ∷ [])) (b ∷ c ∷ []))) (b ∷ c ∷ []))
    go true true = (omega arith, refl)
    go true false = (omega arith, refl)
    go false u = (omega arith, refl)
chomp-front (b ∷ c ∷ d ∷ s) =
    let h = chomp-front (c ∷ d ∷ s) in
    (omega (arith, h.0), ap (λ p. b ∷ p) h.1)

-- nothing to chomp
pub chomp-none : (s : List ℕ) → upto 10 s ≡ length s → chomp s ≡ s
unfolding chomp upto
chomp-none [] h = refl
chomp-none (b ∷ []) h = go (eqb b 10) h
  where
    go : (t : Bool) → cond t 0 (suc (upto 10 [])) ≡ length (b ∷ []) → cond t [] (b ∷ []) ≡ b ∷ []
    go true k = absurd (omega arith)
    go false k = refl
chomp-none (b ∷ c ∷ []) h = go (eqb b 10) (eqb c 10) h
  where
    go : (t u : Bool) → cond t 0 (suc (cond u 0 (suc (upto 10 [])))) ≡ length (b ∷ c ∷ []) → cond u (cond (eqb b 13) [] (b ∷ [])) (b ∷ c ∷ []) ≡ b ∷ c ∷ []
    go true u k = absurd (omega arith)
    go false true k = absurd (omega arith)
    go false false k = refl
chomp-none (b ∷ c ∷ d ∷ s) h = ap (λ p. b ∷ p) (chomp-none (c ∷ d ∷ s) (go (eqb b 10) h))
  where
    go : (t : Bool) → cond t 0 (suc (upto 10 (c ∷ d ∷ s))) ≡ suc (length (c ∷ d ∷ s)) → upto 10 (c ∷ d ∷ s) ≡ length (c ∷ d ∷ s)
    go true k = absurd (omega arith)
    go false k = omega arith

-- a line that is only its LF
pub chomp-one : (s : List ℕ) → 0 < length s → get_or s 0 0 ≡ 10 → chomp (take 1 s) ≡ []
unfolding chomp
chomp-one [] h e = absurd (omega arith)
chomp-one (b ∷ s) h e = rw (eq-eqb b 10 e) refl

-- an LF, and what comes before it
chomp-more : (m : ℕ) (s : List ℕ) → suc m < length s → get_or s (suc m) 0 ≡ 10
    → chomp (take (suc (suc m)) s) ≡ cond (eqb (get_or s m 0) 13) (take m s) (take (suc m) s)
unfolding chomp
chomp-more m [] h e = absurd (omega arith)
chomp-more m (b ∷ []) h e = absurd (omega arith)
chomp-more zero (b ∷ c ∷ s) h e = rw (eq-eqb c 10 e) refl
chomp-more (suc m) (b ∷ c ∷ []) h e = absurd (omega arith)
chomp-more (suc m) (b ∷ c ∷ d ∷ s) h e = ap (λ p. b ∷ p) (chomp-more m (c ∷ d ∷ s) (omega arith) e) ∙ go (eqb (get_or (c ∷ d ∷ s) m 0) 13)
  where
    go : (t : Bool) → b ∷ cond t (take m (c ∷ d ∷ s)) (take (suc m) (c ∷ d ∷ s)) ≡ cond t (b ∷ take m (c ∷ d ∷ s)) (b ∷ take (suc m) (c ∷ d ∷ s))
    go true = refl
    go false = refl

pub chomp-at : (s : List ℕ) (n : ℕ) → n < length s → get_or s n 0 ≡ 10 → (n ≡ 0 → ⊥)
    → chomp (take (suc n) s) ≡ cond (eqb (get_or s (n - 1) 0) 13) (take (n - 1) s) (take n s)
chomp-at s zero h e k = absurd (k refl)
chomp-at s (suc m) h e k = let q : suc m - 1 ≡ m = omega arith in rw q (chomp-more m s h e)

-- the LF goes, and maybe more
chomp-lf : (s : List ℕ) (n : ℕ) → n < length s → get_or s n 0 ≡ 10 → length (chomp (take (suc n) s)) ≤ n
chomp-lf s zero h e = rw (chomp-one s h e) (omega arith)
chomp-lf s (suc m) h e = rw (chomp-more m s h e) (go (eqb (get_or s m 0) 13))
  where
    go : (t : Bool) → length (cond t (take m s) (take (suc m) s)) ≤ suc m
    go true = omega (arith, length-take m s)
    go false = omega (arith, length-take (suc m) s)

-- ---- `first_line`

-- no LF: the whole text
pub first-whole : (s : List ℕ) → upto 10 s ≡ length s → first_line s ≡ record { len = length s; next = length s }
unfolding first_line
first-whole s h = rw (take_all (suc (upto 10 s)) s (omega arith), chomp-none s h) refl

-- an LF at `upto 10 s`
pub first_more : (s : List ℕ) → upto 10 s < length s
    → first_line s ≡ record { len = length (chomp (take (suc (upto 10 s)) s)); next = suc (upto 10 s) }
unfolding first_line
first_more s h = rw (length-take-le (suc (upto 10 s)) s h) refl

pub first-le : (s : List ℕ) → (first_line s).len ≤ (first_line s).next
unfolding first_line
first-le s = (chomp-front (take (suc (upto 10 s)) s)).0

pub first-within : (s : List ℕ) → (first_line s).next ≤ length s
unfolding first_line
first-within s = omega (arith, length-take (suc (upto 10 s)) s)

pub first_some : (s : List ℕ) → 0 < length s → 0 < (first_line s).next
unfolding first_line
first_some s h = omega (arith, length-take (suc (upto 10 s)) s)

-- no LF in the line
pub first-before : (s : List ℕ) → (first_line s).len ≤ upto 10 s
first-before s = ⊎_elim
    (λ h. rw (first_more s h) (chomp-lf s (upto 10 s) h (upto-at 10 s h)))
    (λ h. rw (first-whole s h) (omega arith))
    (upto-cases 10 s)

-- the bytes of the line
pub first-bytes : (s : List ℕ) → chomp (take (suc (upto 10 s)) s) ≡ take (first_line s).len s
unfolding first_line
first-bytes s =
    let n : ℕ = suc (upto 10 s) in
    let h = chomp-front (take n s) in
    h.1 ∙ take-take (length (chomp (take n s))) n s (omega (arith, h.0, length-take n s))

module _ (at : ℕ) (s : List ℕ) where
  with-lf : upto 10 s < length s
      → lines_from at s
      ≡ record { at = at; bytes = take (first_line s).len s } ∷ lines_from (at + (first_line s).next) (drop (first_line s).next s)
  with-lf h =
      let e : (first_line s).next ≡ suc (upto 10 s) = ap (λ c. c.next) (first_more s h) in
      lines_more at s h ∙ rw (first-bytes s, e) refl

  without-lf : upto 10 s ≡ length s → 0 < length s
      → lines_from at s
      ≡ record { at = at; bytes = take (first_line s).len s } ∷ lines_from (at + (first_line s).next) (drop (first_line s).next s)
  without-lf h p =
      let e : first_line s ≡ record { len = length s; next = length s } = first-whole s h in
      lines-last at s h p ∙ rw (chomp-none s h, e, take-length s, drop-length s, lines_none (at + length s)) refl

  -- a text is its first line, and the lines of what follows
  pub lines-first : 0 < length s
      → lines_from at s
      ≡ record { at = at; bytes = take (first_line s).len s } ∷ lines_from (at + (first_line s).next) (drop (first_line s).next s)
  lines-first p = ⊎_elim with-lf (λ h. without-lf h p) (upto-cases 10 s)
