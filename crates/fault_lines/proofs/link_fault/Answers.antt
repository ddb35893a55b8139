-- `fault_lines::link_fault` meets its contract: what is asked from `i` with n steps is asked from `at` with those left.
use Prim.Native.Nat.{◌+◌, ◌-◌, ◌<◌}
use mathlib.Core.Path.{◌≡◌, ap, sym, ◌∙◌}
use lib.ListN.{length, get_or}
use Rattle.format.specs.Programs.{reaches}
use Rattle.fault_lines.specs.Links.{link_in, links_in}
use mathlib.Core.Bool.{true, false}
use native.Mathlib.Omega.{arith}
use Rattle.program_chains.proofs.Walks.{reaches-none}
use Rattle.fault_lines.proofs.Links.{reaches_end, reaches_here, reaches-on, fault-stranger, fault_walked}
use Rattle.fault_lines.proofs.link_fault.Goals as goal

pub offset_bounds-parents-i : goal.offset_bounds-parents-i
offset_bounds-parents-i c = omega arith

pub bounds-parents-i : goal.bounds-parents-i
bounds-parents-i c = omega arith

pub returns-then-at : goal.returns-then-at
returns-then-at c = sym (fault-stranger c.args.parents.now c.args.i c.requires.i_in_bounds c.if-at.true)

pub loop-init : goal.loop-init
loop-init c = (c.requires.within c.args.i c.requires.i_in_bounds, ap (λ n. reaches (links_in c.args.parents.now) c.args.i n (link_in (get_or c.args.parents.now c.args.i 0))) (omega arith))

pub returns-then-at-ge-STRANGER : goal.returns-then-at-ge-STRANGER
returns-then-at-ge-STRANGER c =
    let l = c.loop in
    sym (fault_walked c.args.parents.now c.args.i c.requires.i_in_bounds c.if-at.false false (l.invariant.1 ∙ reaches_end _ _ (length c.args.parents.now - l.counter) l.at c.if-at-ge-STRANGER.true))

pub overflow_cast-k : goal.overflow_cast-k
overflow_cast-k c = omega arith

pub returns-then-i-k : goal.returns-then-i-k
returns-then-i-k c =
    let l = c.loop in
    let small : l.at < 4294967294 = omega (arith, c.if-at-ge-STRANGER.false) in
    sym (fault_walked c.args.parents.now c.args.i c.requires.i_in_bounds c.if-at.false true (l.invariant.1 ∙ reaches_here c.args.parents.now l.at (length c.args.parents.now - l.counter) small (l.invariant.0 small) (omega arith) _ c.if-i-k.true))

pub offset_bounds-parents-k : goal.offset_bounds-parents-k
offset_bounds-parents-k c = omega arith

pub bounds-parents-k : goal.bounds-parents-k
bounds-parents-k c = let l = c.loop in l.invariant.0 (omega (arith, c.if-at-ge-STRANGER.false))

pub loop-preserved : goal.loop-preserved
loop-preserved c =
    let l = c.loop in
    let small : l.at < 4294967294 = omega (arith, c.if-at-ge-STRANGER.false) in
    let inside = l.invariant.0 small in
    let ps = c.args.parents.now in
    let less : length ps - l.counter - 1 ≡ length ps - (l.counter + 1) = omega arith in
    let on = reaches-on ps l.at (length ps - l.counter) small inside (omega arith) _ c.if-i-k.false in
    (c.requires.within l.at inside, l.invariant.1 ∙ on ∙ ap (λ n. reaches (links_in ps) c.args.i n (link_in (get_or ps l.at 0))) less)

pub returns : goal.returns
returns c =
    let l = c.loop in
    sym (fault_walked c.args.parents.now c.args.i c.requires.i_in_bounds c.if-at.false false (l.invariant.1 ∙ reaches-none _ _ (length c.args.parents.now - l.counter) _ (omega arith)))
