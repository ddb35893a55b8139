-- The laws of `written`: digit by digit from the last, its length, and that it reads back. Assumes nothing.
use Prim.Native.Nat.{ℕ, zero, suc, ◌+◌, ◌/◌, ◌%◌, ◌^◌, ◌≤◌, ◌<◌}
use mathlib.Core.Path.{◌≡◌, refl, sym, ap, ◌∙◌}
use mathlib.Core.Bool.{Bool, true, false, cond}
use mathlib.Core.List.{List, [], ◌∷◌, ◌++◌}
use mathlib.Core.Logic.{◌⊎◌, inl, inr, ⊎_elim}
use native.Mathlib.Omega.{arith}
use native.Mathlib.Numerals.{add-one}
use native.Mathlib.Nat.{pow-suc}
use lib.ListN.{length, length-append}
use lib.Seq.{append_snoc}
use lib.Dec.{ltb}
use borrow.Author.Tests.{lt-ltb, le-ltb, ltb-true, ltb-false}
use Rattle.format.specs.Decimal.{written_f, written}

-- ---- one digit, or the digits of a tenth and one more

-- is `n` one digit?
pub one-digit : (n : ℕ) → (n < 10) ⊎ (10 ≤ n)
one-digit n = go (ltb n 10) refl
  where
    go : (t : Bool) → ltb n 10 ≡ t → (n < 10) ⊎ (10 ≤ n)
    go true e = inl (ltb-true n 10 e)
    go false e = inr (ltb-false n 10 e)

-- a tenth of a number of `suc f` digits has `f` digits
record Tenth (f n : ℕ) : Type 0 where
  fits : n / 10 < 10 ^ f
  left : 0 < f

tenth : (f n : ℕ) → n < 10 ^ suc f → 10 ≤ n → Tenth f n
tenth zero n h k = absurd (omega (arith, h))
tenth (suc f) n h k = record { fits = omega (arith, pow-suc 10 (suc f)); left = omega arith }

none : (n : ℕ) (rest : List ℕ) → written_f 0 n rest ≡ rest
unfolding written_f
none n rest = refl

module _ (f n : ℕ) (rest : List ℕ) where
  small : n < 10 → written_f (suc f) n rest ≡ (48 + n) ∷ rest
  unfolding written_f
  small h = rw (lt-ltb n 10 h)

  large : 10 ≤ n → written_f (suc f) n rest ≡ written_f f (n / 10) ((48 + n % 10) ∷ rest)
  unfolding written_f
  large h = rw (le-ltb n 10 h)

-- what follows stays after it
pub written-rest : (f n : ℕ) (rest : List ℕ) → written_f f n rest ≡ written_f f n [] ++ rest
unfolding written_f
written-rest zero n rest = refl
written-rest (suc f) n rest = go (ltb n 10) (written-rest f (n / 10))
  where
    go : (t : Bool) → ((r : List ℕ) → written_f f (n / 10) r ≡ written_f f (n / 10) [] ++ r)
        → cond t ((48 + n) ∷ rest) (written_f f (n / 10) ((48 + n % 10) ∷ rest))
        ≡ cond t ((48 + n) ∷ []) (written_f f (n / 10) ((48 + n % 10) ∷ [])) ++ rest
    go true ih = refl
    go false ih =
        ih ((48 + n % 10) ∷ rest) ∙ sym (append_snoc (written_f f (n / 10) []) (48 + n % 10) rest) ∙ ap (λ l. l ++ rest) (sym (ih ((48 + n % 10) ∷ [])))

pub length-snoc : (xs : List ℕ) (d : ℕ) → length (xs ++ (d ∷ [])) ≡ suc (length xs)
length-snoc xs d = length-append xs (d ∷ []) ∙ add-one _

-- the last digit comes last
last : (f n : ℕ) → 10 ≤ n → written_f (suc f) n [] ≡ written_f f (n / 10) [] ++ ((48 + n % 10) ∷ [])
last f n h = large f n [] h ∙ written-rest f (n / 10) ((48 + n % 10) ∷ [])

length_last : (f n : ℕ) → 10 ≤ n → length (written_f (suc f) n []) ≡ suc (length (written_f f (n / 10) []))
length_last f n h = ap length (last f n h) ∙ length-snoc (written_f f (n / 10) []) (48 + n % 10)

-- ---- how many steps are asked for

-- as many steps as there are digits are enough
pub written-turns : (f n : ℕ) → written_f (length (written_f f n [])) n [] ≡ written_f f n []
unfolding written_f
written-turns zero n = refl
written-turns (suc f) n =
    ⊎_elim
    (λ h. ap (λ l. written_f (length l) n []) (small f n [] h) ∙ small 0 n [] h ∙ sym (small f n [] h))
    (λ h. ap (λ k. written_f k n []) (length_last f n h)
    ∙ last (length (written_f f (n / 10) [])) n h
    ∙ ap (λ l. l ++ ((48 + n % 10) ∷ [])) (written-turns f (n / 10))
    ∙ sym (last f n h))
    (one-digit n)

-- a step that writes the last digit
pub written-turn : (i n : ℕ) → length (written_f (suc i) n []) ≡ suc i → written_f (suc i) n [] ≡ written_f i (n / 10) [] ++ ((48 + n % 10) ∷ [])
written-turn i n e = ⊎_elim one (last i n) (one-digit n)
  where
    one : n < 10 → written_f (suc i) n [] ≡ written_f i (n / 10) [] ++ ((48 + n % 10) ∷ [])
    one h =
        let z : i ≡ 0 = omega (arith, ap length (small i n [] h)) in
        let m : n % 10 ≡ n = omega arith in
        small i n [] h ∙ rw (m, z, none (n / 10) [])

-- more steps than digits change nothing
fuel : (f n : ℕ) (rest : List ℕ) → n < 10 ^ f → 0 < f → written_f (suc f) n rest ≡ written_f f n rest
fuel zero n rest h p = absurd (omega arith)
fuel (suc f) n rest h p =
    ⊎_elim
    (λ k. small (suc f) n rest k ∙ sym (small f n rest k))
    (λ k. let t : Tenth f n = tenth f n h k in large (suc f) n rest k ∙ fuel f (n / 10) _ t.fits t.left ∙ sym (large f n rest k))
    (one-digit n)

-- ---- the number as it is written

pub written_one : (n : ℕ) → n < 10 → written n ≡ (48 + n) ∷ []
unfolding written
written_one n h = small 19 n [] h

pub written_step : (n : ℕ) → n < 10 ^ 20 → 10 ≤ n → written n ≡ written (n / 10) ++ ((48 + n % 10) ∷ [])
unfolding written
written_step n h k = last 19 n k ∙ ap (λ l. l ++ ((48 + n % 10) ∷ [])) (sym (fuel 19 (n / 10) [] (omega arith) (omega arith)))

pub length-step : (n : ℕ) → n < 10 ^ 20 → 10 ≤ n → length (written n) ≡ suc (length (written (n / 10)))
length-step n h k = ap length (written_step n h k) ∙ length-snoc (written (n / 10)) (48 + n % 10)

-- no longer than the steps asked for, nor than the digits that the number fits in
length-turns : (f n : ℕ) → length (written_f f n []) ≤ f
length-turns zero n = omega (arith, ap length (none n []))
length-turns (suc f) n =
    ⊎_elim
    (λ h. omega (arith, ap length (small f n [] h)))
    (λ h. omega (arith, length_last f n h, length-turns f (n / 10)))
    (one-digit n)

length-fits : (f n k : ℕ) → n < 10 ^ k → 0 < k → length (written_f f n []) ≤ k
length-fits zero n k h p = omega (arith, ap length (none n []))
length-fits (suc f) n zero h p = absurd (omega arith)
length-fits (suc f) n (suc k) h p =
    ⊎_elim
    (λ o. omega (arith, ap length (small f n [] o)))
    (λ o. let t : Tenth k n = tenth k n h o in omega (arith, length_last f n o, length-fits f (n / 10) k t.fits t.left))
    (one-digit n)

pub written-short : (n : ℕ) → length (written n) ≤ 20
unfolding written
written-short n = length-turns 20 n

pub written-fits : (n k : ℕ) → n < 10 ^ k → 0 < k → length (written n) ≤ k
unfolding written
written-fits n k h p = length-fits 20 n k h p

pub written-some : (n : ℕ) → 1 ≤ length (written n)
unfolding written
written-some n = ⊎_elim (λ h. omega (arith, ap length (small 19 n [] h))) (λ h. omega (arith, length_last 19 n h)) (one-digit n)
