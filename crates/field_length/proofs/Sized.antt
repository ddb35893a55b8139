-- LN of SQ is judged by the digits at the front of its value, wherever the value is.
use Prim.Native.Nat.{ℕ, ◌^◌}
use mathlib.Core.Path.{◌≡◌, refl, sym, ap, ◌∙◌}
use mathlib.Core.Bool.{Bool, true, false, not, ◌||◌, cond}
use mathlib.Core.List.{List, [], ◌∷◌}
use native.Mathlib.Omega.{arith}
use lib.ListN.{length}
use lib.Dec.{eqb, ltb}
use borrow.Author.Tests.{eqb-true}
use Rattle.std.specs.Prelude.{Result, Ok, Err}
use Rattle.decimal.specs.Number.{number_of, digits_number}
use Rattle.decimal.specs.declared.Number.{Number}
use Rattle.decimal.specs.declared.NumberError.{NumberError}
use Rattle.decimal.specs.declared.NumberError.TheVariants.{TooLarge}
use Rattle.decimal.proofs.Front.{digit_low, span-digit, span-stop}
use Rattle.format.specs.Bytes.{digit, none?}
use Rattle.format.specs.Decimal.{worth, span}
use Rattle.format.specs.Fields.{JudgedPiece, good, refused_piece, good_then, length_field}
use Rattle.format.specs.Fields as fields
use Rattle.byte_slices.specs.Upto.{before}
use Rattle.byte_slices.proofs.Before.{before-stop, before-pass}
use Rattle.field_length.specs.Parsed.{parsed_length_of, piece_refusal, length_refusal}
use Rattle.field_length.specs.declared.LengthError.{LengthError}
use Rattle.field_length.specs.declared.LengthError.TheVariants.{Invalid, Zero, Long}

-- what is at the front as a number
unfoldable pub length_by : Result Number NumberError → Result Number LengthError
length_by (Err e) = Err Invalid
length_by (Ok n) = cond (eqb n.value 0) (Err Zero) (cond (ltb n.value (2 ^ 31)) (Ok n) (Err Long))

pub length-sized : (at : ℕ) (ds rest : List ℕ) → parsed_length_of (length_field at (ds, rest)) ≡ length_by (digits_number (2 ^ 64) ds)
unfolding parsed_length_of length_field length_by digits_number
length-sized at [] rest = refl
length-sized at (b ∷ ds) rest = go (ltb n (2 ^ 64)) (eqb n 0) refl (ltb n (2 ^ 31)) refl (none? rest)
  where
    f : fields.Field
    f = record { tag₀ = 76; tag₁ = 78; value = record { at = at; bytes = b ∷ ds } }

    n : ℕ
    n = worth (b ∷ ds)

    go : (t u : Bool) → eqb n 0 ≡ u → (v : Bool) → ltb n (2 ^ 31) ≡ v → (w : Bool)
        → parsed_length_of (cond (not t) (refused_piece 12) (cond u (refused_piece 13) (cond (not v) (refused_piece 27) (cond w (good f) (good_then f 6)))))
        ≡ length_by (cond t (Ok (number_of n (length (b ∷ ds)))) (Err TooLarge))
    go true true k v l w = rw k refl
    go true false k true l true = rw (k, l) refl
    go true false k true l false = rw (k, l) refl
    go true false k false l w = rw (k, l) refl
    go false u k v l w = refl

-- why there is no length is the refusal of the field
pub length-refusal : (at : ℕ) (s : List ℕ × List ℕ) → length_refusal (parsed_length_of (length_field at s)) ≡ piece_refusal (length_field at s)
unfolding length_refusal parsed_length_of piece_refusal length_field
length-refusal at s = go (none? s.0 || not (ltb n (2 ^ 64))) (eqb n 0) (not (ltb n (2 ^ 31))) (none? s.1)
  where
    f : fields.Field
    f = record { tag₀ = 76; tag₁ = 78; value = record { at = at; bytes = s.0 } }

    n : ℕ
    n = worth s.0

    j : (a b c d : Bool) → JudgedPiece
    j a b c d = cond a (refused_piece 12) (cond b (refused_piece 13) (cond c (refused_piece 27) (cond d (good f) (good_then f 6))))

    go : (a b c d : Bool) → length_refusal (parsed_length_of (j a b c d)) ≡ piece_refusal (j a b c d)
    go true b c d = refl
    go false true c d = refl
    go false false true d = refl
    go false false false true = refl
    go false false false false = refl

-- a tab is no digit: the digits at the front are the same
pub span-before : (s : List ℕ) → (span (before 9 s)).0 ≡ (span s).0
unfolding before span
span-before [] = refl
span-before (b ∷ s) = tab (eqb b 9) refl (more (digit b) refl (span-before s))
  where
    more : (t : Bool) → digit b ≡ t → (span (before 9 s)).0 ≡ (span s).0 → (span (b ∷ before 9 s)).0 ≡ (span (b ∷ s)).0
    more true e ih = span-digit b (before 9 s) e ∙ ap (λ ds. b ∷ ds) ih ∙ sym (span-digit b s e)
    more false e ih = span-stop b (before 9 s) e ∙ sym (span-stop b s e)

    tab : (t : Bool) → eqb b 9 ≡ t → (span (b ∷ before 9 s)).0 ≡ (span (b ∷ s)).0 → (span (before 9 (b ∷ s))).0 ≡ (span (b ∷ s)).0
    tab true e k = ap (λ p. (span p).0) (before-stop 9 b s e) ∙ sym (span-stop b s (digit_low b (omega (arith, eqb-true b 9 e))))
    tab false e k = ap (λ p. (span p).0) (before-pass 9 b s e) ∙ k
