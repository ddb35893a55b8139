-- `field_length::parse_length` meets its contract: the digits before the next tab are those at the front.
use Prim.Native.Nat.{ℕ, ◌^◌}
use mathlib.Core.Path.{◌≡◌, refl, sym, ap, ◌∙◌}
use mathlib.Core.List.{List}
use native.Mathlib.Omega.{arith}
use borrow.Author.Tests.{eq-eqb, ne_eqb, lt-ltb, le-ltb}
use Rattle.std.specs.Prelude.{Result, Ok, Err}
use Rattle.std.proofs.lemmas.Result.{err_from_is_err_and}
use Rattle.decimal.specs.Number.{digits_number, number_at_front}
use Rattle.decimal.specs.declared.Number.{Number}
use Rattle.decimal.specs.declared.NumberError.{NumberError}
use Rattle.format.specs.Decimal.{span}
use Rattle.format.specs.Fields.{length_field}
use Rattle.byte_slices.specs.Upto.{before}
use Rattle.field_length.specs.Parsed.{parsed_length_of, piece_refusal, length_refusal}
use Rattle.field_length.specs.declared.LengthError.{LengthError}
use Rattle.field_length.specs.declared.LengthError.TheVariants.{Invalid, Zero, Long}
use Rattle.field_length.proofs.Sized.{length_by, length-sized, length-refusal, span-before}
use Rattle.field_length.proofs.parse_length.Goals as goal

sized : (s : List ℕ) → length_by (number_at_front (2 ^ 64) s) ≡ parsed_length_of (length_field 0 (span (before 9 s)))
unfolding number_at_front
sized s =
    ap (λ ds. length_by (digits_number (2 ^ 64) ds)) (sym (span-before s))
    ∙ sym (length-sized 0 (span (before 9 s)).0 (span (before 9 s)).1)

-- the number that was read, and what is answered for it
by-number : (s : List ℕ) (r n : Result Number NumberError) (a : Result Number LengthError) → r ≡ number_at_front (2 ^ 64) s → r ≡ n → length_by n ≡ a
    → (a ≡ parsed_length_of (length_field 0 (span (before 9 s))))
    × (length_refusal a ≡ piece_refusal (length_field 0 (span (before 9 s))))
by-number s r n a e f g =
    let t : a ≡ parsed_length_of (length_field 0 (span (before 9 s))) = sym g ∙ ap length_by (sym f ∙ e) ∙ sized s in
    (t, ap length_refusal t ∙ length-refusal 0 (span (before 9 s)))

pub returns-in_err-number : goal.returns-in_err-number
unfolding length_by
returns-in_err-number c =
    let p = err_from_is_err_and c.from_residual.result c.from_residual.ensures.1 in
    let told = by-number c.args.src.now _ _ (Err Invalid) c.read_u64.ensures.is c.in_err-number.was refl in
    rw (p.1, p.2) (record { is = told.0; refusal = told.1 })

pub returns-then-number-eq0 : goal.returns-then-number-eq0
unfolding length_by
returns-then-number-eq0 c =
    let told = by-number c.args.src.now _ _ (Err Zero) c.read_u64.ensures.is c.in_ok-number.was (simp (eq-eqb c.in_ok-number.number.value 0 c.if-number-eq0.true)) in
    record { is = told.0; refusal = told.1 }

pub returns-then-number-gt-LONGEST : goal.returns-then-number-gt-LONGEST
unfolding length_by
returns-then-number-gt-LONGEST c =
    let n = c.in_ok-number.number.value in
    let zero = ne_eqb n 0 c.if-number-eq0.false in
    let large = le-ltb n (2 ^ 31) (omega (arith, c.if-number-gt-LONGEST.true)) in
    let told = by-number c.args.src.now _ _ (Err Long) c.read_u64.ensures.is c.in_ok-number.was (simp (zero, large)) in
    record { is = told.0; refusal = told.1 }

pub returns : goal.returns
unfolding length_by
returns c =
    let n = c.in_ok-number.number.value in
    let zero = ne_eqb n 0 c.if-number-eq0.false in
    let small = lt-ltb n (2 ^ 31) (omega (arith, c.if-number-gt-LONGEST.false)) in
    let told = by-number c.args.src.now _ _ (Ok c.in_ok-number.number) c.read_u64.ensures.is c.in_ok-number.was (simp (zero, small)) in
    record { is = told.0; refusal = told.1 }
