-- The laws of reading digit by digit: what the rest of a slice adds to a number read so far. Assumes nothing.
use Prim.Native.Nat.{ℕ, suc, ◌+◌, ◌-◌, ◌*◌, ◌≤◌, ◌<◌}
use mathlib.Core.Path.{◌≡◌, refl, ◌∙◌}
use mathlib.Core.Bool.{Bool, true, false, ◌&&◌, cond}
use mathlib.Core.List.{List, [], ◌∷◌}
use native.Mathlib.Omega.{arith}
use native.Mathlib.Numerals.{add-one}
use native.Mathlib.Nat.{add-zero, zero-add}
use lib.ListN.{length, drop, get_or, drop_of_length-le}
use lib.Seq.{drop-cons}
use lib.Dec.{eqb, leb, ltb}
use borrow.Author.Tests.{leb-true, le-leb, lt-leb, lt-ltb, le-ltb, ne_eqb}
use Rattle.format.specs.Bytes.{digit, none?}
use Rattle.format.specs.Decimal.{worth, worth_from}
use Rattle.format.specs.Decimal.{span}
use Rattle.decimal.specs.Number.{number_of, digits_number, number_at_front}
use Rattle.decimal.specs.declared.Number.{Number}
use Rattle.decimal.specs.declared.NumberError.{NumberError}
use Rattle.decimal.specs.declared.NumberError.TheVariants.{NoDigit, TooLarge}
use Rattle.std.specs.Prelude.{Result, Ok, Err}

-- ---- digits

pub digit-yes : (b : ℕ) → 48 ≤ b → b ≤ 57 → digit b ≡ true
unfolding digit
digit-yes b h k = rw (le-leb 48 b h, le-leb b 57 k)

pub digit_low : (b : ℕ) → b < 48 → digit b ≡ false
unfolding digit
digit_low b h = rw (lt-leb 48 b h)

pub digit-high : (b : ℕ) → 57 < b → digit b ≡ false
unfolding digit
digit-high b h = rw (le-leb 48 b (omega arith), lt-leb b 57 h)

pub both : (a b : Bool) → a && b ≡ true → (a ≡ true) × (b ≡ true)
both true b e = (refl, e)
both false b e = (e, absurd (let z : ◌≡◌ {A = ℕ} 0 1 = cc in omega arith))

pub digit-top : (b : ℕ) → digit b ≡ true → b ≤ 57
unfolding digit
digit-top b e = leb-true b 57 (both (leb 48 b) (leb b 57) e).1

pub span-digit : (b : ℕ) (s : List ℕ) → digit b ≡ true → (span (b ∷ s)).0 ≡ b ∷ (span s).0
unfolding span
span-digit b s e = rw e

pub span-stop : (b : ℕ) (s : List ℕ) → digit b ≡ false → (span (b ∷ s)).0 ≡ []
unfolding span
span-stop b s e = rw e

-- more digits never make a number smaller
pub worth-grows : (n : ℕ) (ds : List ℕ) → n ≤ worth_from n ds
unfolding worth_from
worth-grows n [] = omega arith
worth-grows n (b ∷ ds) = omega (arith, worth-grows (n * 10 + (b - 48)) ds)

-- ---- a number read so far

-- a number `n` of `i` digits, read below `limit`
unfoldable pub done : ℕ → ℕ → ℕ → Result Number NumberError
done limit n i = cond (eqb i 0) (Err NoDigit) (cond (ltb n limit) (Ok (number_of n i)) (Err TooLarge))

-- the same, once the digits at the front of `s` are read too
unfoldable pub front_from : ℕ → ℕ → ℕ → List ℕ → Result Number NumberError
unfolding done worth_from span
front_from limit n i s = done limit (worth_from n (span s).0) (i + length (span s).0)

counted-done : (limit : ℕ) (ds : List ℕ) → digits_number limit ds ≡ done limit (worth_from 0 ds) (0 + length ds)
unfolding digits_number done worth none?
counted-done limit [] = refl
counted-done limit (b ∷ ds) = rw (zero-add (suc (length ds)), ne_eqb (suc (length ds)) 0 (λ e. omega arith))

pub front-start : (limit : ℕ) (s : List ℕ) → number_at_front limit s ≡ front_from limit 0 0 s
unfolding number_at_front front_from
front-start limit s = counted-done limit (span s).0

pub done_none : (limit n : ℕ) → done limit n 0 ≡ Err NoDigit
unfolding done
done_none limit n = refl

pub done-is : (limit n i : ℕ) → n < limit → 0 < i → done limit n i ≡ Ok (number_of n i)
unfolding done
done-is limit n i h p = rw (ne_eqb i 0 (λ e. omega arith), lt-ltb n limit h)

pub done-large : (limit n i : ℕ) → limit ≤ n → 0 < i → done limit n i ≡ Err TooLarge
unfolding done
done-large limit n i h p = rw (ne_eqb i 0 (λ e. omega arith), le-ltb n limit h)

module _ (limit n i : ℕ) where
  -- nothing more to read
  pub front-stop : (s : List ℕ) → (span s).0 ≡ [] → front_from limit n i s ≡ done limit n i
  unfolding front_from
  front-stop s e = rw (e, add-zero)

  pub front-digit : (b : ℕ) (s : List ℕ) → digit b ≡ true → front_from limit n i (b ∷ s) ≡ front_from limit (n * 10 + (b - 48)) (i + 1) s
  unfolding front_from
  front-digit b s e =
      let k : i + suc (length (span s).0) ≡ i + 1 + length (span s).0 = omega arith in
      rw (span-digit b s e, k)

  -- once too large, too large whatever follows
  pub front-large : (s : List ℕ) → limit ≤ n → 0 < i → front_from limit n i s ≡ Err TooLarge
  unfolding front_from
  front-large s h p =
      let w : n ≤ worth_from n (span s).0 = worth-grows n (span s).0 in
      done-large limit (worth_from n (span s).0) (i + length (span s).0) (omega arith) (omega arith)

-- ---- one step, at the place `i` of `s`

module _ (limit : ℕ) (s : List ℕ) (n i : ℕ) where
  pub turn_end : length s ≤ i → front_from limit n i (drop i s) ≡ done limit n i
  unfolding span
  turn_end h = front-stop limit n i (drop i s) (rw drop_of_length-le)

  pub turn-stop : i < length s → digit (get_or s i 0) ≡ false → front_from limit n i (drop i s) ≡ done limit n i
  turn-stop h e = front-stop limit n i (drop i s) (rw (drop-cons s i 0 h) (span-stop _ _ e))

  pub turn : i < length s → digit (get_or s i 0) ≡ true
      → front_from limit n i (drop i s) ≡ front_from limit (n * 10 + (get_or s i 0 - 48)) (i + 1) (drop (i + 1) s)
  turn h e = rw (drop-cons s i 0 h, ← add-one i) (front-digit limit n i _ _ e)

  pub turn-large : i < length s → digit (get_or s i 0) ≡ true → limit ≤ n * 10 + (get_or s i 0 - 48) → front_from limit n i (drop i s) ≡ Err TooLarge
  turn-large h e k = turn h e ∙ front-large limit _ (i + 1) _ k (omega arith)
