-- The number of a key: by words while four bytes are left, then byte by byte.
use Prim.Native.Nat.{ℕ, ◌+◌, ◌-◌, ◌≤◌, ◌<◌}
use mathlib.Core.Path.{◌≡◌, refl, ap, ◌∙◌}
use mathlib.Core.List.{List, [], ◌∷◌}
use native.Mathlib.Omega.{arith}
use native.Mathlib.Numerals.{add-one}
use native.Mathlib.Nat.{mod-lt}
use lib.ListN.{length, take, drop, get_or, length-drop, drop_of_length-le}
use lib.Seq.{drop-cons, drop-drop}
use Rattle.format.specs.Little.{of_little}
use Rattle.key_look.specs.Hash.{folded, mixed, words_from, bytes_from}

pub mixed-lt : (h w : ℕ) → mixed h w < 4294967296
unfolding mixed folded
mixed-lt h w = mod-lt _ (omega arith)

-- ---- words

words-front : (h : ℕ) (s : List ℕ) → 4 ≤ length s → words_from h s ≡ words_from (mixed h (of_little (take 4 s))) (drop 4 s)
unfolding words_from
words-front h [] l = absurd (omega (arith, l))
words-front h (a ∷ []) l = absurd (omega (arith, l))
words-front h (a ∷ b ∷ []) l = absurd (omega (arith, l))
words-front h (a ∷ b ∷ c ∷ []) l = absurd (omega (arith, l))
words-front h (a ∷ b ∷ c ∷ d ∷ s) l = refl

words-few : (h : ℕ) (s : List ℕ) → length s < 4 → words_from h s ≡ h
unfolding words_from
words-few h [] l = refl
words-few h (a ∷ []) l = refl
words-few h (a ∷ b ∷ []) l = refl
words-few h (a ∷ b ∷ c ∷ []) l = refl
words-few h (a ∷ b ∷ c ∷ d ∷ s) l = absurd (omega (arith, l))

pub words-lt : (h : ℕ) (s : List ℕ) → h < 4294967296 → words_from h s < 4294967296
unfolding words_from
words-lt h [] l = l
words-lt h (a ∷ []) l = l
words-lt h (a ∷ b ∷ []) l = l
words-lt h (a ∷ b ∷ c ∷ []) l = l
words-lt h (a ∷ b ∷ c ∷ d ∷ s) l = words-lt (mixed h (of_little (a ∷ b ∷ c ∷ d ∷ []))) s (mixed-lt h (of_little (a ∷ b ∷ c ∷ d ∷ [])))

module _ (h : ℕ) (s : List ℕ) (i : ℕ) where
  pub words-on : 4 ≤ length s - i → words_from h (drop i s) ≡ words_from (mixed h (of_little (take 4 (drop i s)))) (drop (i + 4) s)
  words-on l = words-front h (drop i s) (omega (arith, l, length-drop i s)) ∙ ap (words_from (mixed h (of_little (take 4 (drop i s))))) (drop-drop 4 i s)

  pub words-end : length s - i < 4 → words_from h (drop i s) ≡ h
  words-end l = words-few h (drop i s) (omega (arith, l, length-drop i s))

  -- ---- bytes

  pub bytes_on : i < length s → bytes_from h (drop i s) ≡ bytes_from (mixed h (get_or s i 0)) (drop (i + 1) s)
  unfolding bytes_from
  bytes_on l = rw (drop-cons s i 0 l, add-one i) refl

  pub bytes-end : length s ≤ i → bytes_from h (drop i s) ≡ h
  unfolding bytes_from
  bytes-end l = rw drop_of_length-le refl
