-- Bytes in hex, digit by digit.
use Prim.Native.Nat.{ℕ, suc, ◌+◌, ◌*◌, ◌/◌, ◌%◌, ◌≤◌, ◌<◌}
use mathlib.Core.Path.{◌≡◌, refl, sym, ap, ap₂, ◌∙◌}
use mathlib.Core.Bool.{Bool, true, false, ◌&&◌}
use mathlib.Core.List.{List, [], ◌∷◌}
use native.Mathlib.Omega.{arith}
use native.Mathlib.Numerals.{add-one}
use lib.ListN.{length, drop, get_or, drop_of_length-le}
use lib.Seq.{drop-cons}
use lib.Dec.{eqb}
use borrow.Author.Tests.{ne_eqb}
use Rattle.format.specs.Bytes.{same, none?}
use Rattle.byte_slices.proofs.Equal.{same-other}
use Rattle.replay_answers.specs.Answers.{hex_digit, hex_of, hex_word}

hex-length : (bs : List ℕ) → length (hex_of bs) ≡ 2 * length bs
unfolding hex_of
hex-length [] = refl
hex-length (b ∷ bs) = omega (arith, hex-length bs)

-- bytes that are there have no `-`
pub hex-some : (bs : List ℕ) → 0 < length bs → hex_word bs ≡ hex_of bs
unfolding hex_word
hex-some [] h = absurd (omega arith)
hex-some (b ∷ bs) h = refl

-- a word of another length is another word
pub hex-other : (s bs : List ℕ) → 0 < length bs → (length s ≡ 2 * length bs → ⊥) → false ≡ same s (hex_word bs)
hex-other s bs h n = sym (ap (same s) (hex-some bs h) ∙ same-other s (hex_of bs) (λ e. n (ap length e ∙ hex-length bs)))

pub hex-none : (s bs : List ℕ) → length bs ≡ 0 → same s (45 ∷ []) ≡ same s (hex_word bs)
unfolding hex_word
hex-none s [] h = refl
hex-none s (b ∷ bs) h = absurd (omega arith)

joined : (a b c : Bool) → (a && (b && c)) ≡ ((a && b) && c)
joined true b c = refl
joined false b c = refl

module _ (s bs : List ℕ) (i : ℕ) (e : length s ≡ 2 * length bs) where
  -- two digits are one byte's
  pub hex-step : i < length bs
      → same (drop (2 * i) s) (hex_of (drop i bs))
      ≡ ((eqb (get_or s (2 * i) 0) (hex_digit (get_or bs i 0 / 16)) && eqb (get_or s (2 * i + 1) 0) (hex_digit (get_or bs i 0 % 16))) && same (drop (2 * (i + 1)) s) (hex_of (drop (i + 1) bs)))
  unfolding same hex_of
  hex-step h =
      let z : suc (suc (2 * i)) ≡ 2 * (i + 1) = omega arith in
      let o : suc (2 * i) ≡ 2 * i + 1 = omega arith in
      let j : suc i ≡ i + 1 = omega arith in
      ap₂ same (drop-cons s (2 * i) 0 (omega arith) ∙ ap (λ l. get_or s (2 * i) 0 ∷ l) (drop-cons s (suc (2 * i)) 0 (omega arith))) (ap hex_of (drop-cons bs i 0 h))
      ∙ joined (eqb (get_or s (2 * i) 0) (hex_digit (get_or bs i 0 / 16))) (eqb (get_or s (suc (2 * i)) 0) (hex_digit (get_or bs i 0 % 16))) (same (drop (suc (suc (2 * i))) s) (hex_of (drop (suc i) bs)))
      ∙ ap (λ k. (eqb (get_or s (2 * i) 0) (hex_digit (get_or bs i 0 / 16)) && eqb (get_or s k 0) (hex_digit (get_or bs i 0 % 16))) && same (drop (suc (suc (2 * i))) s) (hex_of (drop (suc i) bs))) o
      ∙ ap₂ (λ k l. (eqb (get_or s (2 * i) 0) (hex_digit (get_or bs i 0 / 16)) && eqb (get_or s (2 * i + 1) 0) (hex_digit (get_or bs i 0 % 16))) && same (drop k s) (hex_of (drop l bs))) z j

  pub hex-end : length bs ≤ i → same (drop (2 * i) s) (hex_of (drop i bs)) ≡ true
  unfolding same hex_of
  hex-end h =
      let k : length s ≤ 2 * i = omega arith in
      ap₂ (λ x y. same x (hex_of y)) (drop_of_length-le s k) (drop_of_length-le bs h)

-- a word that has no bytes
pub empty : (s : List ℕ) → eqb (length s) 0 ≡ none? s
unfolding none?
empty [] = refl
empty (a ∷ s) = ne_eqb (length (a ∷ s)) 0 (λ e. omega (arith, e))
