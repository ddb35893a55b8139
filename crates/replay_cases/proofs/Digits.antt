-- Digits one by one: what each is worth, and a step of the numbers and of the bytes that they spell.
use Prim.Native.Nat.{ℕ, zero, suc, ◌+◌, ◌-◌, ◌*◌, ◌%◌, ◌/◌, ◌≤◌, ◌<◌}
use mathlib.Core.Path.{◌≡◌, refl, sym, ap, ap₂, ◌∙◌}
use mathlib.Core.List.{List, [], ◌∷◌, ◌++◌}
use native.Mathlib.Omega.{arith}
use native.Mathlib.Numerals.{add-one}
use lib.ListN.{length, get_or, set, take, drop, drop_of_length-le}
use lib.Seq.{drop-cons, paste, paste-suc, length-take-le}
use borrow.Author.Tests.{lt-ltb, le-ltb}
use Rattle.byte_slices.specs.Over.{over}
use Rattle.replay_cases.specs.Cases.{digit_value, number_from, decoded}

-- ---- a digit

pub below-digits : (b : ℕ) → b < 48 → digit_value b ≡ 0
unfolding digit_value
below-digits b h = rw (lt-ltb b 48 h) refl

pub decimal_digit : (b : ℕ) → 48 ≤ b → b < 58 → digit_value b ≡ b - 48
unfolding digit_value
decimal_digit b l h = rw (le-ltb b 48 l, lt-ltb b 58 h) refl

pub between-digits : (b : ℕ) → 58 ≤ b → b < 97 → digit_value b ≡ 0
unfolding digit_value
between-digits b l h = rw (le-ltb b 48 (omega (arith, l)), le-ltb b 58 l, lt-ltb b 97 h) refl

pub hex-digit : (b : ℕ) → 97 ≤ b → b < 103 → digit_value b ≡ b - 87
unfolding digit_value
hex-digit b l h = rw (le-ltb b 48 (omega (arith, l)), le-ltb b 58 (omega (arith, l)), le-ltb b 97 l, lt-ltb b 103 h) refl

pub above-digits : (b : ℕ) → 103 ≤ b → digit_value b ≡ 0
unfolding digit_value
above-digits b l = rw (le-ltb b 48 (omega (arith, l)), le-ltb b 58 (omega (arith, l)), le-ltb b 97 (omega (arith, l)), le-ltb b 103 l) refl

-- ---- a number

pub number-turn : (n : ℕ) (s : List ℕ) (i : ℕ) → i < length s
    → number_from n (drop i s) ≡ number_from (n % 1000000000 * 10 + digit_value (get_or s i 0)) (drop (i + 1) s)
unfolding number_from
number-turn n s i h = rw (drop-cons s i 0 h, add-one i) refl

pub number-ends : (n : ℕ) (s : List ℕ) (i : ℕ) → length s ≤ i → number_from n (drop i s) ≡ n
unfolding number_from
number-ends n s i h = rw (drop_of_length-le s h) refl

-- ---- bytes

-- two digits for each byte
pub decoded-long : (s : List ℕ) (i : ℕ) → 2 * i + 1 < length s → i < length (decoded s)
unfolding decoded
decoded-long [] i h = absurd (omega (arith, h))
decoded-long (a ∷ []) i h = absurd (omega (arith, h))
decoded-long (a ∷ b ∷ s) zero h = omega arith
decoded-long (a ∷ b ∷ s) (suc i) h = omega (arith, decoded-long s i (omega (arith, h)))

pub decoded-room : (s : List ℕ) (n : ℕ) → n ≤ length s / 2 → n ≤ length (decoded s)
decoded-room s zero h = omega arith
decoded-room s (suc i) h = decoded-long s i (omega (arith, h))

pub decoded-at : (s : List ℕ) (i : ℕ) → 2 * i + 1 < length s
    → get_or (decoded s) i 0 ≡ digit_value (get_or s (2 * i) 0) * 16 + digit_value (get_or s (2 * i + 1) 0)
unfolding decoded
decoded-at [] i h = absurd (omega (arith, h))
decoded-at (a ∷ []) i h = absurd (omega (arith, h))
decoded-at (a ∷ b ∷ s) zero h = refl
decoded-at (a ∷ b ∷ s) (suc i) h =
    let first : 2 * suc i ≡ suc (suc (2 * i)) = omega arith in
    let second : 2 * suc i + 1 ≡ suc (suc (2 * i + 1)) = omega arith in
    decoded-at s i (omega (arith, h)) ∙ sym (ap₂ (λ j k. digit_value (get_or (a ∷ b ∷ s) j 0) * 16 + digit_value (get_or (a ∷ b ∷ s) k 0)) first second)

-- one more byte is pasted
pub decoded-turn : (out s : List ℕ) (i : ℕ) → i < length out → 2 * i + 1 < length s
    → set (paste out 0 (decoded s) i) i (get_or (decoded s) i 0) ≡ paste out 0 (decoded s) (i + 1)
decoded-turn out s i h two =
    let here : i ≡ 0 + i = omega arith in
    let room : 0 + i < length out = omega (arith, h) in
    ap (λ k. set (paste out 0 (decoded s) i) k (get_or (decoded s) i 0)) here
    ∙ paste-suc out 0 (decoded s) i 0 room (decoded-long s i two)
    ∙ ap (paste out 0 (decoded s)) (sym (add-one i))

-- as many as are pasted are written over what was there
pub decoded-over : (out s : List ℕ) (n : ℕ) → n ≤ length (decoded s) → paste out 0 (decoded s) n ≡ over out 0 (take n (decoded s))
unfolding over
decoded-over out s n h = ap (λ m. take n (decoded s) ++ drop (0 + m) out) (sym (length-take-le n (decoded s) h))
