-- `prune::has_high` meets its contract: what is asked of the list is asked of what is left of it. Assumes nothing.
use Prim.Native.Nat.{ℕ, ◌+◌, ◌≤◌, ◌<◌}
use mathlib.Core.Path.{◌≡◌, refl, sym, ap, ◌∙◌}
use mathlib.Core.Bool.{false, ◌||◌}
use mathlib.Core.List.{List}
use native.Mathlib.Omega.{arith}
use native.Mathlib.Numerals.{add-one}
use lib.ListN.{length, get_or, drop, drop_of_length-le}
use lib.Seq.{drop-cons}
use lib.Dec.{leb}
use borrow.Author.Tests.{le-leb, lt-leb}
use Rattle.format.specs.Bytes.{any}
use Rattle.prune.proofs.has_high.Goals as goal

turn : (n : ℕ) (us : List ℕ) (i : ℕ) → i < length us → any (leb n) (drop i us) ≡ leb n (get_or us i 0) || any (leb n) (drop (i + 1) us)
unfolding any
turn n us i h = rw (drop-cons us i 0 h) (ap (λ k. leb n (get_or us i 0) || any (leb n) (drop k us)) (sym (add-one i)))

spent : (n : ℕ) (us : List ℕ) (i : ℕ) → length us ≤ i → any (leb n) (drop i us) ≡ false
unfolding any
spent n us i h = rw drop_of_length-le refl

pub loop-k-init : goal.loop-k-init
loop-k-init c = refl

pub returns-then-count-k : goal.returns-then-count-k
returns-then-count-k c =
    let l = c.loop-k in
    let a = c.args in
    sym (l.invariant ∙ turn a.count a.used.now l.k-index (omega arith) ∙ ap (λ b. b || any (leb a.count) (drop (l.k-index + 1) a.used.now)) (le-leb a.count (get_or a.used.now l.k-index 0) c.if-count-k.true))

pub loop-k-preserved : goal.loop-k-preserved
loop-k-preserved c =
    let l = c.loop-k in
    let a = c.args in
    l.invariant ∙ turn a.count a.used.now l.k-index (omega arith) ∙ ap (λ b. b || any (leb a.count) (drop (l.k-index + 1) a.used.now)) (lt-leb a.count (get_or a.used.now l.k-index 0) c.if-count-k.false)

pub returns : goal.returns
returns c = let l = c.loop-k in sym (l.invariant ∙ spent _ _ l.k-index (omega arith))
