-- `program_walks::hops` meets its contract: the links counted, and those of the programs from `i` on, are all. Assumes nothing.
use Prim.Native.Nat.{ℕ, ◌+◌, ◌≤◌, ◌<◌}
use mathlib.Core.Path.{◌≡◌, refl, sym, ap}
use mathlib.Core.List.{List}
use native.Mathlib.Omega.{arith}
use native.Mathlib.Numerals.{add-one}
use lib.ListN.{length, get_or, drop, drop_of_length-le, length-map}
use lib.Seq.{drop-cons}
use Rattle.format.specs.Programs.{depth, depths, hops}
use Rattle.program_chains.specs.Parents.{link_of, links_of}
use Rattle.program_chains.proofs.Walks.{depth_le}
use Rattle.program_walks.proofs.hops.Goals as goal
use Rattle.program_walks.proofs.hops.Goals.{After-depth-sum}

module _ (ps : List ℕ) (i : ℕ) where
  turn : i < length ps → depths (links_of ps) (links_of (drop i ps)) ≡ depth (links_of ps) (length ps) (link_of (get_or ps i 0)) + depths (links_of ps) (links_of (drop (i + 1) ps))
  unfolding depths links_of
  turn h = rw (drop-cons ps i 0 h, length-map ps link_of) (ap (λ n. depth (links_of ps) (length ps) (link_of (get_or ps i 0)) + depths (links_of ps) (links_of (drop n ps))) (sym (add-one i)))

  spent : length ps ≤ i → depths (links_of ps) (links_of (drop i ps)) ≡ 0
  unfolding depths links_of
  spent h = rw drop_of_length-le refl

pub loop-i-init : goal.loop-i-init
unfolding hops
loop-i-init c = (omega arith, omega arith)

pub depth-sum-requires : goal.depth-sum-requires
depth-sum-requires c = record {
  parents_value = c.requires.parents_value;
  parents_len_bound = omega arith;
  i_in_bounds = omega arith;
}

at_most : (c : After-depth-sum) → c.depth-sum.result ≤ 1024
at_most c =
    let a = c.args.parents.now in
    omega (arith, c.depth-sum.ensures, depth_le (links_of a) (length a) (link_of (get_or a c.loop-i.i 0)))

pub overflow_add-sum : goal.overflow_add-sum
overflow_add-sum c = omega (arith, at_most c)

pub loop-i-preserved : goal.loop-i-preserved
loop-i-preserved c =
    let l = c.loop-i in
    let a = c.args.parents.now in
    (omega (arith, at_most c), omega (arith, l.invariant.1, turn a l.i (omega arith), c.depth-sum.ensures))

pub returns : goal.returns
returns c = omega (arith, c.loop-i.invariant.1, spent c.args.parents.now c.loop-i.i (omega arith))
