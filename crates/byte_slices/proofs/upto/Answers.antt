-- `byte_slices::upto` meets its contract: whole blocks were passed; what was passed, and what is still to pass, add up.
use Prim.Native.Nat.{ℕ, suc, ◌+◌, ◌*◌, ◌/◌, ◌≤◌, ◌<◌}
use mathlib.Core.Path.{◌≡◌, refl}
use mathlib.Core.List.{List}
use native.Mathlib.Omega.{arith}
use native.Mathlib.Numerals.{add-one}
use lib.ListN.{length, get_or, drop, drop_of_length-le}
use lib.Seq.{drop-cons}
use borrow.Author.Tests.{eq-eqb, ne_eqb}
use Rattle.byte_slices.specs.Upto.{upto}
use Rattle.byte_slices.proofs.Lines.{upto_le}
use Rattle.byte_slices.proofs.Run.{upto-onward}
use Rattle.byte_slices.proofs.upto.Goals as goal

module _ (d : ℕ) (s : List ℕ) (i : ℕ) where
  stop : i < length s → get_or s i 0 ≡ d → upto d (drop i s) ≡ 0
  unfolding upto
  stop h e = rw (drop-cons s i 0 h, eq-eqb _ _ e) refl

  pass : i < length s → (get_or s i 0 ≡ d → ⊥) → upto d (drop i s) ≡ suc (upto d (drop (i + 1) s))
  unfolding upto
  pass h n = rw (drop-cons s i 0 h, ne_eqb _ _ n, add-one i) refl

  spent : length s ≤ i → upto d (drop i s) ≡ 0
  unfolding upto
  spent h = rw drop_of_length-le refl

-- whole blocks were passed
started : (d : ℕ) (s : List ℕ) (i : ℕ) → i ≡ upto d s / 16 * 16 → upto d s ≡ i + upto d (drop i s)
started d s i e = upto-onward d s i (omega arith)

pub loop-i-init : goal.loop-i-init
loop-i-init c = started _ _ _ c.pass_blocks-i.ensures

pub returns-then-s-i : goal.returns-then-s-i
returns-then-s-i c =
    let a = c.args in
    let l = c.loop-i in
    omega (arith, l.invariant, stop a.d a.s.now l.i (omega arith) c.if-s-i.true)

pub loop-i-preserved : goal.loop-i-preserved
loop-i-preserved c =
    let a = c.args in
    let l = c.loop-i in
    omega (arith, l.invariant, pass a.d a.s.now l.i (omega arith) c.if-s-i.false)

pub returns : goal.returns
returns c =
    let a = c.args in
    let l = c.loop-i in
    let e : upto a.d (drop l.i a.s.now) ≡ 0 = spent a.d a.s.now l.i (omega arith) in
    omega (arith, l.invariant, e, upto_le a.d a.s.now)
