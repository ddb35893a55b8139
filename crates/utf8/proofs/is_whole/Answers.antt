-- `utf8::is_whole` meets its contract: what the whole asks is what is left to judge, with what is due of the character that is begun.
use Prim.Native.Nat.{ℕ, zero, suc, ◌+◌, ◌≤◌, ◌<◌}
use mathlib.Core.Path.{◌≡◌, refl, sym, ap, ◌∙◌}
use mathlib.Core.List.{List, [], ◌∷◌}
use native.Mathlib.Omega.{arith}
use native.Mathlib.Numerals.{add-one}
use lib.ListN.{length, get_or, drop, drop_of_length-le}
use lib.Seq.{drop-cons}
use lib.Dec.{ltb}
use borrow.Author.Tests.{le-ltb}
use Rattle.format.specs.Utf8.{characters}
use Rattle.utf8.specs.Pending.{pending_of, ranges, due_of, due_after}
use Rattle.utf8.specs.declared.Pending.{Pending}
use Rattle.utf8.proofs.Step.{step}
use Rattle.utf8.proofs.is_whole.Goals as goal

module _ (s : List ℕ) (i : ℕ) (p : Pending) where
  more : i < length s → characters (due_of p) (drop i s) ≡ characters (due_of (pending_of (due_after (due_of p) (get_or s i 0)))) (drop (i + 1) s)
  more h = ap (characters (due_of p)) (drop-cons s i 0 h ∙ ap (λ j. get_or s i 0 ∷ drop j s) (sym (add-one i))) ∙ step p (get_or s i 0) (drop (i + 1) s)

  -- nothing is left: whole if nothing is due
  spent : length s ≤ i → characters (due_of p) (drop i s) ≡ ltb p.left 1
  unfolding characters due_of ranges
  spent h = rw (drop_of_length-le s h) (go p.left)
    where
      go : (n : ℕ) → characters (ranges n p.lo p.hi) [] ≡ ltb n 1
      go zero = refl
      go (suc n) = sym (le-ltb (suc n) 1 (omega arith))

pub loop-b-init : goal.loop-b-init
unfolding due_of ranges
loop-b-init c = ap (λ p. characters (due_of p) c.args.s.now) (sym c.new-pending.ensures)

pub loop-b-preserved : goal.loop-b-preserved
loop-b-preserved c =
    let s = c.args.s.now in
    let l = c.loop-b in
    l.invariant ∙ more s l.b-index l.pending (omega arith) ∙ ap (λ p. characters (due_of p) (drop (l.b-index + 1) s)) (sym c.with-pending.ensures)

pub returns : goal.returns
returns c = sym (c.loop-b.invariant ∙ spent _ c.loop-b.b-index c.loop-b.pending (omega arith))
