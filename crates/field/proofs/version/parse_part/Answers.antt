-- `field::version::parse_part` meets its contract: a slice is a number where the number at its front has all its bytes.
use Prim.Native.Nat.{ℕ}
use mathlib.Core.Path.{◌≡◌, refl, sym, ap, ◌∙◌}
use native.Mathlib.Omega.{arith}
use lib.ListN.{length}
use borrow.Author.Tests.{eq-eqb, ne_eqb}
use Rattle.std.specs.Prelude.{Result, Ok, Err, Some, None}
use Rattle.std.specs.Result.{result_ok}
use Rattle.decimal.specs.declared.Number.{Number}
use Rattle.decimal.specs.declared.NumberError.{NumberError}
use Rattle.decimal.proofs.Whole.{whole, number-front, front-within}
use Rattle.format.specs.Decimal.{number}
use Rattle.field.specs.Spelled.{version_side_of}
use Rattle.field.proofs.version.parse_part.Goals as goal
use Rattle.field.proofs.version.parse_part.Goals.{After-ok}

-- what the call answered, said of the whole slice
part : (c : After-ok) (r : Result Number NumberError) → c.read_u32.result ≡ r
    → version_side_of (number 4294967296 c.args.src.now) ≡ version_side_of (whole (length c.args.src.now) r)
part c r e =
    let s = c.args.src.now in
    ap version_side_of (number-front 4294967296 s ∙ ap (whole (length s)) (sym c.read_u32.ensures ∙ e))

-- an answer that is there is that number
kept : (r : Result Number NumberError) (n : Number) → result_ok r ≡ Some n → r ≡ Ok n
kept (Ok m) n e = cc
kept (Err x) n e = cc

no-side : (k : ℕ) (r : Result Number NumberError) → result_ok r ≡ None → None ≡ version_side_of (whole k r)
unfolding version_side_of whole
no-side k (Ok m) e = cc
no-side k (Err x) e = refl

pub returns-in_err-number : goal.returns-in_err-number
returns-in_err-number c =
    rw c.from_residual.ensures
    (no-side _ c.read_u32.result (sym c.ok.ensures.value ∙ c.in_err-number.was) ∙ sym (part (goal.at.returns-in_err-number c).After-ok _ refl))

pub returns-then-number-src : goal.returns-then-number-src
unfolding version_side_of whole
returns-then-number-src c =
    let n = kept _ _ (sym c.ok.ensures.value ∙ c.in_ok-number.was) in
    sym (part (goal.at.returns-then-number-src c).After-ok _ n ∙ simp (ne_eqb _ _ c.if-number-src.true))

pub overflow_cast-result : goal.overflow_cast-result
overflow_cast-result c =
    let s = c.args.src.now in
    let n = c.in_ok-number.number in
    omega (arith, front-within 4294967296 n.value n.len s (sym c.read_u32.ensures ∙ kept _ _ (sym c.ok.ensures.value ∙ c.in_ok-number.was)))

pub returns : goal.returns
unfolding version_side_of whole
returns c =
    let n = kept _ _ (sym c.ok.ensures.value ∙ c.in_ok-number.was) in
    sym (part (goal.at.returns c).After-ok _ n ∙ simp (eq-eqb _ _ c.if-number-src.false))
