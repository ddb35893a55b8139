-- `fault_lines::count_links` meets its contract: those that are counted, and those from `i` on, are all.
use Prim.Native.Nat.{◌+◌, ◌-◌}
use mathlib.Core.Path.{◌≡◌, ap}
use native.Mathlib.Omega.{arith}
use lib.ListN.{length}
use Rattle.fault_programs.proofs.KeptPrograms.{one-le}
use Rattle.format.specs.Faults.{link_fault}
use Rattle.fault_lines.specs.Links.{links_in, link_count}
use Rattle.fault_lines.proofs.Links.{count-more, count_none, one-by}
use Rattle.fault_lines.proofs.count_links.Goals as goal

pub loop-i-init : goal.loop-i-init
loop-i-init c =
    let ps = c.args.parents.now in
    (omega (arith, ap (link_count (links_in ps) 0) (let z : length ps - 0 ≡ length ps = omega arith in z)), omega arith)

pub link_fault-requires : goal.link_fault-requires
link_fault-requires c = record {
  within = c.requires.within;
  i_in_bounds = c.loop-i-test.true;
}

pub one_if-n-requires : goal.one_if-n-requires
one_if-n-requires c = tt

pub overflow_add-n : goal.overflow_add-n
overflow_add-n c = let l = c.loop-i in omega (arith, l.invariant.1, c.loop-i-test.true, c.requires.parents_len_bound, c.one_if-n.ensures, one-le c.link_fault.result)

pub loop-i-preserved : goal.loop-i-preserved
loop-i-preserved c =
    let l = c.loop-i in
    let ps = c.args.parents.now in
    let h = c.loop-i-test.true in
    let e = count-more (links_in ps) l.i (length ps - l.i) (omega (arith, h)) in
    let left = ap (link_count (links_in ps) (l.i + 1)) (let z : length ps - l.i - 1 ≡ length ps - (l.i + 1) = omega arith in z) in (
      omega (arith, l.invariant.0, e, left, c.one_if-n.ensures, one-by c.link_fault.result (link_fault (links_in ps) l.i) c.link_fault.ensures),
      omega (arith, l.invariant.1, c.one_if-n.ensures, one-le c.link_fault.result),
    )

pub returns : goal.returns
returns c =
    let l = c.loop-i in
    let ps = c.args.parents.now in
    omega (arith, l.invariant.0, count_none (links_in ps) l.i (length ps - l.i) (omega arith))
