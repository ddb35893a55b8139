-- `tidy_neat::is_reference_sequence` meets its contract: SN ends at the next tab, and LN is looked for there.
use mathlib.Core.Path.{◌≡◌, refl, sym, ap, ◌∙◌}
use native.Mathlib.Omega.{arith}
use Prim.Native.Nat.{◌+◌, ◌-◌, ◌≤◌}
use mathlib.Core.Bool.{true, not, ◌&&◌}
use lib.ListN.{length, drop, length-drop}
use lib.Seq.{take_all}
use lib.Dec.{eqb, ltb}
use borrow.Author.Tests.{ltb-false, not-true, not-false}
use Rattle.lists.proofs.Bools.{and_left}
use Rattle.byte_slices.specs.Upto.{upto}
use Rattle.byte_slices.proofs.Lines.{upto_le}
use lib.ListN.{get_or}
use Rattle.tidy_neat.specs.Neat.{has_tag, plain_length, neat}
use Rattle.tidy_neat.proofs.is_reference_sequence.Goals as goal
use Rattle.tidy_neat.proofs.is_reference_sequence.Goals.{After-upto, Else-not-has_tag}

-- SN comes first
flag : (e : Else-not-has_tag) → has_tag e.args.src.now 3 83 78 ≡ true
flag e = sym e.has_tag.ensures ∙ not-false e.has_tag.result e.if-not-has_tag.false-raw

long : (e : Else-not-has_tag) → 6 ≤ length e.args.src.now
unfolding has_tag
long e =
    let s = e.args.src.now in
    let t = not (ltb (length s - 3) 3) in
    omega (arith, ltb-false (length s - 3) 3 (not-true (ltb (length s - 3) 3) (and_left t (eqb (get_or s 4 0) 83 && eqb (get_or s 5 0) 78) (flag e))))

-- and ends at the next tab
ends : (u : After-upto) → u.upto.result ≡ upto 9 (drop 4 u.args.src.now)
ends u =
    let s = u.args.src.now in
    u.upto.ensures ∙ ap (upto 9) (take_all (length s - 4) (drop 4 s) (omega (arith, length-drop 4 s)))

within : (u : After-upto) → 4 + u.upto.result ≤ length u.args.src.now
within u =
    let s = u.args.src.now in
    omega (arith, ends u, upto_le 9 (drop 4 s), length-drop 4 s, long (goal.at.After-upto u).Else-not-has_tag)

pub returns-then-not-has_tag : goal.returns-then-not-has_tag
unfolding neat
returns-then-not-has_tag c = rw (sym c.has_tag.ensures ∙ not-true c.has_tag.result c.if-not-has_tag.true-raw) refl

pub slice_bounds-upto-count : goal.slice_bounds-upto-count
slice_bounds-upto-count c = omega (arith, long c)

pub slice_bounds-upto-start : goal.slice_bounds-upto-start
slice_bounds-upto-start c = omega (arith, long c)

pub overflow_add-upto : goal.overflow_add-upto
overflow_add-upto c = omega (arith, long (goal.at.overflow_add-upto c).Else-not-has_tag, within c)

pub is_plain_length-requires : goal.is_plain_length-requires
is_plain_length-requires c = omega (arith, within c)

pub returns : goal.returns
unfolding neat
returns c =
    let s = c.args.src.now in
    c.is_plain_length.ensures ∙ ap (λ n. plain_length s (4 + n)) (ends (goal.at.returns c).After-upto) ∙ sym (ap (λ t. t && plain_length s (4 + upto 9 (drop 4 s))) (flag (goal.at.returns c).Else-not-has_tag))
