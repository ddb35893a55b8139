-- A number at the front of a slice, and a number that is a whole slice. Assumes nothing.
use Prim.Native.Nat.{ℕ, suc, ◌≤◌, ◌<◌}
use mathlib.Core.Path.{◌≡◌, refl, sym, ap, ◌∙◌}
use mathlib.Core.Bool.{Bool, true, false, not, ◌&&◌, cond, and-true, and-false}
use mathlib.Core.List.{List, [], ◌∷◌}
use mathlib.Core.Option.{Option, none, some}
use native.Mathlib.Omega.{arith}
use lib.ListN.{length}
use lib.Dec.{eqb, ltb}
use borrow.Author.Tests.{eq-eqb, ne_eqb, ltb-true}
use Rattle.format.specs.Bytes.{digit, all, none?}
use Rattle.format.specs.Decimal.{worth, digits, number}
use Rattle.format.specs.Decimal.{span}
use Rattle.decimal.specs.Number.{number_of, digits_number, number_at_front}
use Rattle.decimal.specs.declared.Number.{Number}
use Rattle.decimal.specs.declared.NumberError.{NumberError}
use Rattle.decimal.specs.declared.NumberError.TheVariants.{TooLarge}
use Rattle.std.specs.Prelude.{Result, Ok, Err}
use Rattle.decimal.proofs.Front.{both, span-digit}

-- ---- the digits at the front

pub span-le : (s : List ℕ) → length (span s).0 ≤ length s
unfolding span
span-le [] = omega arith
span-le (b ∷ s) = go (digit b) (span-le s)
  where
    go : (t : Bool) → length (span s).0 ≤ length s → length (cond {A = List ℕ × List ℕ} t (b ∷ (span s).0, (span s).1) ([], b ∷ s)).0 ≤ suc (length s)
    go true h = omega arith
    go false h = omega arith

pub span-all : (s : List ℕ) → all digit s ≡ true → (span s).0 ≡ s
unfolding span all
span-all [] e = refl
span-all (b ∷ s) e =
    let d : (digit b ≡ true) × (all digit s ≡ true) = both (digit b) (all digit s) e in
    span-digit b s d.0 ∙ ap (λ ds. b ∷ ds) (span-all s d.1)

pub span-short : (s : List ℕ) → all digit s ≡ false → length (span s).0 < length s
unfolding span all
span-short [] e = absurd (let z : ◌≡◌ {A = ℕ} 0 1 = cc in omega arith)
span-short (b ∷ s) e = go (digit b) (span-short s) e
  where
    go : (t : Bool) → (all digit s ≡ false → length (span s).0 < length s) → t && all digit s ≡ false
        → length (cond {A = List ℕ × List ℕ} t (b ∷ (span s).0, (span s).1) ([], b ∷ s)).0 < suc (length s)
    go true ih e = let h : length (span s).0 < length s = ih e in omega arith
    go false ih e = omega arith

-- ---- what a number at the front is

-- what was read is below the limit, has a digit, and is within the slice
pub record Within (limit k v n : ℕ) : Type 0 where
  pub below : v < limit
  pub some-digit : 0 < n
  pub inside : n ≤ k

counted-within : (limit v n : ℕ) (ds : List ℕ) → digits_number limit ds ≡ Ok (number_of v n) → Within limit (length ds) v n
unfolding digits_number
counted-within limit v n [] e = absurd (let z : ◌≡◌ {A = ℕ} 0 1 = cc in omega arith)
counted-within limit v n (b ∷ ds) e = go (ltb (worth (b ∷ ds)) limit) refl e
  where
    go : (t : Bool) → ltb (worth (b ∷ ds)) limit ≡ t → cond t (Ok (number_of (worth (b ∷ ds)) (suc (length ds)))) (Err TooLarge) ≡ Ok (number_of v n) → Within limit (suc (length ds)) v n
    go true k e =
        let i : number_of (worth (b ∷ ds)) (suc (length ds)) ≡ number_of v n = cc in
        let p : worth (b ∷ ds) ≡ v = ap (λ m. m.value) i in
        let q : suc (length ds) ≡ n = ap (λ m. m.len) i in
        record { below = omega (arith, ltb-true (worth (b ∷ ds)) limit k); some-digit = omega arith; inside = omega arith }
    go false k e = absurd (let z : ◌≡◌ {A = ℕ} 0 1 = cc in omega arith)

pub front-within : (limit v n : ℕ) (s : List ℕ) → number_at_front limit s ≡ Ok (number_of v n) → Within limit (length s) v n
unfolding number_at_front
front-within limit v n s e =
    let w : Within limit (length (span s).0) v n = counted-within limit v n (span s).0 e in
    record { below = w.below; some-digit = w.some-digit; inside = omega (arith, span-le s) }

-- ---- a whole slice

-- the number at the front of `k` bytes, if it has them all
unfoldable pub whole : ℕ → Result Number NumberError → Option ℕ
whole k (Err e) = none
whole k (Ok n) = cond (eqb n.len k) (some n.value) none

-- a run of digits that is all there is
whole-all : (limit : ℕ) (ds : List ℕ) → whole (length ds) (digits_number limit ds) ≡ cond (not (none? ds) && ltb (worth ds) limit) (some (worth ds)) none
unfolding digits_number whole none?
whole-all limit [] = refl
whole-all limit (b ∷ ds) = go (ltb (worth (b ∷ ds)) limit)
  where
    go : (t : Bool) → whole (suc (length ds)) (cond t (Ok (number_of (worth (b ∷ ds)) (suc (length ds)))) (Err TooLarge)) ≡ cond t (some (worth (b ∷ ds))) none
    go true = rw (eq-eqb (suc (length ds)) (suc (length ds)) refl)
    go false = refl

-- a run of digits with more after it
whole-short : (limit k : ℕ) (ds : List ℕ) → length ds < k → whole k (digits_number limit ds) ≡ none
unfolding digits_number whole none?
whole-short limit k [] h = refl
whole-short limit k (b ∷ ds) h = go (ltb (worth (b ∷ ds)) limit)
  where
    go : (t : Bool) → whole k (cond t (Ok (number_of (worth (b ∷ ds)) (suc (length ds)))) (Err TooLarge)) ≡ none
    go true = rw (ne_eqb (suc (length ds)) k (λ e. omega arith))
    go false = refl

-- a slice is a number where the digits at its front are a number and are all of it
pub number-front : (limit : ℕ) (s : List ℕ) → number limit s ≡ whole (length s) (number_at_front limit s)
unfolding number_at_front number digits
number-front limit s = go (all digit s) refl
  where
    go : (t : Bool) → all digit s ≡ t → cond (not (none? s) && t && ltb (worth s) limit) (some (worth s)) none ≡ whole (length s) (digits_number limit (span s).0)
    go true e = rw (and-true (not (none? s)), span-all s e) (sym (whole-all limit s))
    go false e = rw (and-false (not (none? s))) (sym (whole-short limit (length s) (span s).0 (span-short s e)))
