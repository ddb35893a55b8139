-- `record_parser::has_break` meets its contract: a line has an LF or a CR if not all of its bytes come before the first one.
use Prim.Native.Nat.{ℕ, suc}
use mathlib.Core.Path.{◌≡◌, refl, sym, ap, ◌∙◌}
use mathlib.Core.Bool.{Bool, true, false, ◌||◌, cond}
use mathlib.Core.List.{List, [], ◌∷◌}
use native.Mathlib.Omega.{arith}
use lib.ListN.{length}
use lib.Dec.{eqb, ltb, leb-suc-suc}
use borrow.Author.Tests.{lt-ltb, le-ltb}
use Rattle.format.specs.Bytes.{any}
use Rattle.format.specs.Records.{breaks}
use Rattle.byte_slices.specs.Upto.{upto}
use Rattle.lists.proofs.Bools.{or-true}
use Rattle.record_parser.proofs.has_break.Goals as goal

breaks-upto : (s : List ℕ) → any breaks s ≡ ltb (upto 10 s) (length s) || ltb (upto 13 s) (length s)
unfolding any breaks upto
breaks-upto [] = refl
breaks-upto (b ∷ s) = go (eqb b 10) (eqb b 13) (breaks-upto s)
  where
    here : ltb 0 (suc (length s)) ≡ true
    here = lt-ltb 0 (suc (length s)) (omega arith)

    go : (t u : Bool) → any breaks s ≡ ltb (upto 10 s) (length s) || ltb (upto 13 s) (length s)
        → (t || u) || any breaks s
        ≡ ltb (cond t 0 (suc (upto 10 s))) (suc (length s)) || ltb (cond u 0 (suc (upto 13 s))) (suc (length s))
    go true u ih = sym (ap (λ x. x || ltb (cond u 0 (suc (upto 13 s))) (suc (length s))) here)
    go false true ih = sym (ap (λ x. ltb (suc (upto 10 s)) (suc (length s)) || x) here ∙ or-true (ltb (suc (upto 10 s)) (suc (length s))))
    go false false ih = ih ∙ sym (rw (leb-suc-suc (suc (upto 10 s)) (length s), leb-suc-suc (suc (upto 13 s)) (length s)) refl)

pub returns-then-upto-src : goal.returns-then-upto-src
returns-then-upto-src c =
    let s = c.args.src.now in
    sym (breaks-upto s ∙ rw (sym c.upto.ensures, lt-ltb _ _ c.if-upto-src.true) refl)

pub returns-else-upto-src : goal.returns-else-upto-src
returns-else-upto-src c =
    let s = c.args.src.now in
    sym (breaks-upto s ∙ rw (sym c.upto.ensures, le-ltb _ _ c.if-upto-src.false, sym c.upto-else-upto-src.ensures) refl)
