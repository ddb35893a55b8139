-- Where LN of SQ is no length, its field is refused with the number of that answer.
use Prim.Native.Nat.{ℕ, suc, ◌^◌}
use mathlib.Core.Path.{◌≡◌, ap}
use mathlib.Core.List.{List}
use mathlib.Core.Bool.{Bool, true, false, not, ◌||◌, cond}
use native.Mathlib.Omega.{arith}
use lib.ListN.{length}
use lib.Dec.{eqb, ltb}
use Rattle.format.specs.Bytes.{none?}
use Rattle.format.specs.Decimal.{worth, span}
use Rattle.format.specs.Fields.{JudgedPiece, refused_piece, length_field}
use Rattle.decimal.specs.Number.{number_of, digits_number, number_at_front, number_refusal, NumberTold}
use Rattle.decimal.specs.declared.NumberError.TheVariants.{NoDigit, TooLarge}
use Rattle.std.specs.Prelude.{Ok, Err}

pub length-refused : (v : List ℕ) → NumberTold v (number_at_front (2 ^ 64) v)
unfolding number_refusal digits_number number_at_front length_field
length-refused v at n e = go (none? (span v).0) (ltb (worth (span v).0) (2 ^ 64)) (worth (span v).0) (length (span v).0) _ e
  where
    judge : (c d : Bool) (j : JudgedPiece) → cond c 13 (cond d 0 27) ≡ suc n
        → cond c (refused_piece 13) (cond (not d) (refused_piece 27) j) ≡ refused_piece (suc n)
    judge true d j e = ap refused_piece e
    judge false true j e = absurd (omega (arith, e))
    judge false false j e = ap refused_piece e

    go : (a b : Bool) (w l : ℕ) (j : JudgedPiece) → number_refusal (cond a (Err NoDigit) (cond b (Ok (number_of w l)) (Err TooLarge))) ≡ suc n
        → cond (a || not b) (refused_piece 12) (cond (eqb w 0) (refused_piece 13) (cond (not (ltb w (2 ^ 31))) (refused_piece 27) j)) ≡ refused_piece (suc n)
    go true b w l j e = ap refused_piece e
    go false true w l j e = judge (eqb w 0) (ltb w (2 ^ 31)) j e
    go false false w l j e = ap refused_piece e
