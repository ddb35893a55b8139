-- One line at a time: a line that starts with `@` is passed, and any other ends the header.
use Prim.Native.Nat.{ℕ, suc, ◌+◌, ◌<◌}
use mathlib.Core.Path.{◌≡◌, refl, sym, ap, ◌∙◌}
use mathlib.Core.Bool.{Bool, true, false, cond}
use mathlib.Core.List.{List, [], ◌∷◌}
use native.Mathlib.Omega.{arith}
use lib.ListN.{length, take, drop, get_or, length-take, length-drop}
use lib.Seq.{take-take, drop-drop, drop-cons}
use lib.Dec.{eqb}
use borrow.Author.Tests.{eqb-true, eq-eqb, ne_eqb}
use Rattle.format.specs.Lines.{chomp, lines_from}
use Rattle.byte_slices.specs.Upto.{upto}
use Rattle.byte_slices.specs.First.{first_line}
use Rattle.byte_slices.proofs.First.{chomp-front, lines-first}
use Rattle.format.specs.TextLen.{headed, other_line}

-- ---- an `@` belongs to no ending

headed-chomp : (p : List ℕ) → headed (chomp p) ≡ headed p
unfolding headed chomp
headed-chomp [] = refl
headed-chomp (b ∷ []) = go (eqb b 10) refl
  where
    go : (t : Bool) → eqb b 10 ≡ t → headed (cond t [] (b ∷ [])) ≡ eqb b 64
    go true e = rw (eqb-true b 10 e) refl
    go false e = refl
headed-chomp (b ∷ c ∷ []) = go (eqb c 10) (eqb b 13) refl
  where
    go : (t u : Bool) → eqb b 13 ≡ u → headed (cond t (cond u [] (b ∷ [])) (b ∷ c ∷ [])) ≡ eqb b 64
    go true true e = rw (eqb-true b 13 e) refl
    go true false e = refl
    go false u e = refl
headed-chomp (b ∷ c ∷ d ∷ s) = refl

headed-front : (n : ℕ) (s : List ℕ) → headed (take (suc n) s) ≡ headed s
unfolding headed
headed-front n [] = refl
headed-front n (b ∷ s) = refl

first-bytes : (s : List ℕ) → take (first_line s).len s ≡ chomp (take (suc (upto 10 s)) s)
unfolding first_line
first-bytes s =
    let n : ℕ = suc (upto 10 s) in
    let h = chomp-front (take n s) in
    sym (h.1 ∙ take-take (length (chomp (take n s))) n s (omega (arith, h.0, length-take n s)))

pub headed-first : (s : List ℕ) → headed (take (first_line s).len s) ≡ headed s
headed-first s = ap headed (first-bytes s) ∙ headed-chomp (take (suc (upto 10 s)) s) ∙ headed-front (upto 10 s) s

-- ---- the line at `at`

module _ (s : List ℕ) (at : ℕ) (h : at < length s) (end : ℕ) where
  headed-at : headed (drop at s) ≡ eqb (get_or s at 0) 64
  unfolding headed
  headed-at = ap headed (drop-cons s at 0 h)

  turn : other_line end (lines_from at (drop at s))
      ≡ cond (eqb (get_or s at 0) 64) (other_line end (lines_from (at + (first_line (drop at s)).next) (drop (at + (first_line (drop at s)).next) s))) at
  unfolding other_line
  turn =
      let n : ℕ = (first_line (drop at s)).next in
      ap (other_line end) (lines-first at (drop at s) (omega (arith, length-drop at s)))
      ∙ rw (headed-first (drop at s), headed-at, drop-drop n at s) refl

  pub line-passed : get_or s at 0 ≡ 64
      → other_line end (lines_from at (drop at s)) ≡ other_line end (lines_from (at + (first_line (drop at s)).next) (drop (at + (first_line (drop at s)).next) s))
  line-passed e = turn ∙ rw (eq-eqb (get_or s at 0) 64 e) refl

  pub line_other : (get_or s at 0 ≡ 64 → ⊥) → other_line end (lines_from at (drop at s)) ≡ at
  line_other e = turn ∙ rw (ne_eqb (get_or s at 0) 64 e) refl
