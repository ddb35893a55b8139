-- `binary_parts::is_whole_list` meets its contract: the references still to pass decide.
use Prim.Native.Nat.{◌+◌, ◌-◌}
use mathlib.Core.Path.{◌≡◌, sym, ap, ◌∙◌}
use native.Mathlib.Omega.{arith}
use lib.ListN.{drop}
use Rattle.format.specs.Binary.{take_list}
use Rattle.binary_parts.specs.Parts.{is_whole}
use Rattle.binary_parts.proofs.Listed.{list-short, list_on, list-end}
use Rattle.binary_parts.proofs.is_whole_list.Goals as goal

pub loop-init : goal.loop-init
loop-init c =
    let s = c.args.bytes.now in
    let z : c.args.count ≡ c.args.count - 0 = omega arith in
    (omega arith, ap (λ n. is_whole (take_list n (drop c.args.start s))) z)

pub take_reference-requires : goal.take_reference-requires
take_reference-requires c = c.loop.invariant.0

pub returns-in_default : goal.returns-in_default
returns-in_default c =
    let s = c.args.bytes.now in
    sym (c.loop.invariant.1 ∙ list-short s c.loop.at (c.args.count - c.loop.counter) (omega arith) c.in_default.ensures.taken)

pub loop-preserved : goal.loop-preserved
loop-preserved c =
    let s = c.args.bytes.now in
    let r = c.in-Some.reference in
    let z : c.args.count - c.loop.counter - 1 ≡ c.args.count - (c.loop.counter + 1) = omega arith in (
      c.in-Some.ensures.inside,
      c.loop.invariant.1
          ∙ list_on s c.loop.at (c.args.count - c.loop.counter) (omega arith) r c.in-Some.ensures.taken
          ∙ ap (λ n. is_whole (take_list n (drop r.next s))) z,
    )

pub returns : goal.returns
returns c =
    let s = c.args.bytes.now in
    let z : c.args.count - c.loop.counter ≡ 0 = omega arith in
    list-end s c.loop.at c.loop.invariant.0 ∙ sym (c.loop.invariant.1 ∙ ap (λ n. is_whole (take_list n (drop c.loop.at s))) z)
