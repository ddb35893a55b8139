-- A field judged in place: a tab is no letter, no digit and no colon, so the bytes after the piece change nothing.
use Prim.Native.Nat.{ℕ, suc, ◌+◌, ◌≤◌, ◌<◌}
use mathlib.Core.Path.{◌≡◌, refl, sym, ap, ◌∙◌}
use mathlib.Core.Bool.{Bool, true, false, cond, and-false}
use mathlib.Core.List.{List, [], ◌∷◌}
use native.Mathlib.Omega.{arith}
use lib.ListN.{length, get_or, take, drop, drop_of_length-le}
use lib.Seq.{drop-cons}
use lib.Dec.{eqb}
use borrow.Author.Tests.{eq-eqb, ne_eqb, eqb-true}
use Rattle.format.specs.Bytes.{letter}
use Rattle.format.specs.Fields.{JudgedPiece, refused_piece, field, value_field, is_tag}
use Rattle.format.specs.declared.Kind.{Kind}
use Rattle.byte_slices.specs.Upto.{upto, before}
use Rattle.byte_slices.proofs.Before.{before-stop, before-pass}

-- what is due after the tag `a`, `b`
unfoldable pub colon_at : Kind → ℕ → ℕ → ℕ → List ℕ → JudgedPiece
colon_at k a b at [] = refused_piece 9
colon_at k a b at (c ∷ v) = cond (eqb c 58) (value_field k a b at (before 9 v)) (refused_piece 9)

unfoldable pub in_place : Kind → ℕ → List ℕ → JudgedPiece
unfolding colon_at
in_place k at [] = refused_piece 8
in_place k at (a ∷ []) = refused_piece 8
in_place k at (a ∷ b ∷ w) = cond (is_tag a b) (colon_at k a b (at + 3) w) (refused_piece 8)

tab-first : (a b : ℕ) → eqb a 9 ≡ true → is_tag a b ≡ false
unfolding is_tag
tab-first a b e = rw (eqb-true a 9 e) refl

tab-second : (a b : ℕ) → eqb b 9 ≡ true → is_tag a b ≡ false
unfolding is_tag
tab-second a b e = rw (eqb-true b 9 e) (and-false (letter a))

-- so no tab comes before the value
pub upto-value : (a b c : ℕ) (v : List ℕ) → is_tag a b ≡ true → eqb c 58 ≡ true → upto 9 (a ∷ b ∷ c ∷ v) ≡ 3 + upto 9 v
unfolding upto
upto-value a b c v t e = go (eqb a 9) refl (eqb b 9) refl (eqb c 9) refl
  where
    go : (x : Bool) → eqb a 9 ≡ x → (y : Bool) → eqb b 9 ≡ y → (z : Bool) → eqb c 9 ≡ z
        → cond x 0 (suc (cond y 0 (suc (cond z 0 (suc (upto 9 v)))))) ≡ 3 + upto 9 v
    go true p y q z r = cc (tab-first a b p)
    go false p true q z r = cc (tab-second a b q)
    go false p false q true r = absurd (omega (arith, eqb-true c 9 r, eqb-true c 58 e))
    go false p false q false r = omega arith

after_tag : (k : Kind) (at a b : ℕ) (w : List ℕ) → field k at (a ∷ b ∷ before 9 w) ≡ in_place k at (a ∷ b ∷ w)
unfolding field in_place before
after_tag k at a b [] = refl
after_tag k at a b (c ∷ v) = go (eqb c 9) refl
  where
    go : (t : Bool) → eqb c 9 ≡ t → field k at (a ∷ b ∷ before 9 (c ∷ v)) ≡ in_place k at (a ∷ b ∷ c ∷ v)
    go true e = rw (before-stop 9 c v e, ne_eqb c 58 (λ n. omega (arith, eqb-true c 9 e, n))) refl
    go false e = ap (λ p. field k at (a ∷ b ∷ p)) (before-pass 9 c v e)

pub field-in-place : (k : Kind) (at : ℕ) (s : List ℕ) → field k at (before 9 s) ≡ in_place k at s
unfolding field in_place before
field-in-place k at [] = refl
field-in-place k at (a ∷ []) = go (eqb a 9)
  where
    go : (t : Bool) → field k at (take (cond t 0 1) (a ∷ [])) ≡ refused_piece 8
    go true = refl
    go false = refl
field-in-place k at (a ∷ b ∷ w) = go (eqb a 9) refl (eqb b 9) refl
  where
    no-tag : is_tag a b ≡ false → refused_piece 8 ≡ in_place k at (a ∷ b ∷ w)
    no-tag e = sym (rw e refl)

    go : (t : Bool) → eqb a 9 ≡ t → (u : Bool) → eqb b 9 ≡ u → field k at (before 9 (a ∷ b ∷ w)) ≡ in_place k at (a ∷ b ∷ w)
    go true e u f = ap (field k at) (before-stop 9 a (b ∷ w) e) ∙ no-tag (tab-first a b e)
    go false e true f =
        ap (field k at) (before-pass 9 a (b ∷ w) e ∙ ap (λ p. a ∷ p) (before-stop 9 b w f)) ∙ no-tag (tab-second a b f)
    go false e false f =
        ap (field k at) (before-pass 9 a (b ∷ w) e ∙ ap (λ p. a ∷ p) (before-pass 9 b w f)) ∙ after_tag k at a b w

-- ---- as the bytes are looked at, one after the other

module _ (k : Kind) (at : ℕ) where
  pub place_short : (s : List ℕ) → length s < 2 → in_place k at s ≡ refused_piece 8
  unfolding in_place
  place_short [] h = refl
  place_short (a ∷ []) h = refl
  place_short (a ∷ b ∷ w) h = absurd (omega arith)

  pub place-tag : (s : List ℕ) → 2 ≤ length s → is_tag (get_or s 0 0) (get_or s 1 0) ≡ false → in_place k at s ≡ refused_piece 8
  unfolding in_place
  place-tag [] h e = absurd (omega arith)
  place-tag (a ∷ []) h e = absurd (omega arith)
  place-tag (a ∷ b ∷ w) h e = rw e refl

  pub place-colon : (s : List ℕ) → 2 ≤ length s → is_tag (get_or s 0 0) (get_or s 1 0) ≡ true
      → in_place k at s ≡ colon_at k (get_or s 0 0) (get_or s 1 0) (at + 3) (drop 2 s)
  unfolding in_place
  place-colon [] h e = absurd (omega arith)
  place-colon (a ∷ []) h e = absurd (omega arith)
  place-colon (a ∷ b ∷ w) h e = rw e refl

module _ (k : Kind) (a b at : ℕ) (s : List ℕ) where
  pub colon-none : length s ≡ 2 → colon_at k a b at (drop 2 s) ≡ refused_piece 9
  unfolding colon_at
  colon-none h = let g : length s ≤ 2 = omega arith in rw (drop_of_length-le s g) refl

  pub colon-other : 2 < length s → (get_or s 2 0 ≡ 58 → ⊥) → colon_at k a b at (drop 2 s) ≡ refused_piece 9
  unfolding colon_at
  colon-other h n = rw (drop-cons s 2 0 h, ne_eqb _ _ n) refl

  pub colon-value : 2 < length s → get_or s 2 0 ≡ 58 → colon_at k a b at (drop 2 s) ≡ value_field k a b at (before 9 (drop 3 s))
  unfolding colon_at
  colon-value h e = rw (drop-cons s 2 0 h, eq-eqb _ _ e) refl
