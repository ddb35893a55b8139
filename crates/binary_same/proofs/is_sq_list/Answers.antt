-- `binary_same::is_sq_list` meets its contract: the references left on both sides decide.
use Prim.Native.Nat.{◌+◌, ◌-◌, ◌≤◌}
use mathlib.Core.Path.{◌≡◌, refl, sym, ap, ◌∙◌}
use mathlib.Core.Bool.{Bool, true, false, not}
use native.Mathlib.Omega.{arith}
use lib.ListN.{length, drop}
use Rattle.std.specs.Prelude.{Option, Some, is_some, is_none}
use Rattle.std.proofs.lemmas.Option.{MatchOption-at_some}
use Rattle.format.specs.Binary.{take_reference, take_list}
use Rattle.binary_parts.specs.Parts.{reference_from, is_whole}
use Rattle.binary_same.proofs.NextReference.{alike_from, list-ends, one-left, still-whole, text-ends, one-differs, one_alike}
use Rattle.binary_same.proofs.is_sq_list.Goals as goal
use Rattle.binary_same.proofs.is_sq_list.Goals.{After-unwrap-reference}

-- the reference is there
taken : (c : After-unwrap-reference)
    → take_reference (drop c.loop.at c.args.bytes.now) ≡ reference_from c.args.bytes.now (Some c.unwrap-reference.result)
taken c = c.take_reference.ensures.taken ∙ ap (reference_from c.args.bytes.now) c.unwrap-reference.ensures

-- what is not some is none
turned : {A : Type 0} (q : Option A) (b : Bool) → is_some q ≡ not b → b ≡ is_none q
turned q true e = rw e refl
turned q false e = rw e refl

pub unwrap-reference-requires : goal.unwrap-reference-requires
unwrap-reference-requires c =
    let a = c.args in
    one-left a.bytes.now a.text.now a.strict c.loop.at (a.count - c.loop.counter) c.loop.line c.loop.invariant.2 (omega arith) c.take_reference.result c.take_reference.ensures.taken

pub returns-in_default : goal.returns-in_default
returns-in_default c =
    let a = c.args in
    sym
    (c.loop.invariant.3
    ∙ text-ends a.bytes.now a.text.now a.strict c.loop.at (a.count - c.loop.counter) c.loop.line c.loop.invariant.2 (omega arith) c.unwrap-reference.result
    (taken (goal.at.returns-in_default c).After-unwrap-reference) c.in_default.ensures.list)

pub returns-then-not-is_same : goal.returns-then-not-is_same
returns-then-not-is_same c =
    let a = c.args in
    sym
    (c.loop.invariant.3
    ∙ one-differs a.bytes.now a.text.now a.strict c.loop.at (a.count - c.loop.counter) c.loop.line c.loop.invariant.2 (omega arith) c.unwrap-reference.result
    (taken (goal.at.returns-then-not-is_same c).After-unwrap-reference) c.in-Some.next c.in-Some.ensures.list (sym c.is_same.ensures ∙ c.if-not-is_same.true))

pub loop-preserved : goal.loop-preserved
loop-preserved c =
    let a = c.args in
    let r = c.unwrap-reference.result in
    let t = taken (goal.at.loop-preserved c).After-unwrap-reference in
    let z : a.count - c.loop.counter - 1 ≡ a.count - (c.loop.counter + 1) = omega arith in (
      MatchOption-at_some _ (λ x. x.next ≤ length a.bytes.now) r c.unwrap-reference.ensures c.take_reference.ensures.inside,
      c.in-Some.ensures.place.found.within,
      ap (λ n. is_whole (take_list n (drop r.next a.bytes.now))) (sym z)
          ∙ still-whole a.bytes.now a.text.now a.strict c.loop.at (a.count - c.loop.counter) c.loop.line c.loop.invariant.2 (omega arith) r t,
      c.loop.invariant.3
          ∙ one_alike a.bytes.now a.text.now a.strict c.loop.at (a.count - c.loop.counter) c.loop.line c.loop.invariant.2 (omega arith) r t c.in-Some.next c.in-Some.ensures.list
          (sym c.is_same.ensures ∙ c.if-not-is_same.false)
          ∙ ap (λ n. alike_from a.bytes.now a.text.now a.strict r.next n c.in-Some.next.next) z,
    )

pub returns : goal.returns
returns c =
    let a = c.args in
    let q = c.next_reference-2.result in
    let z : a.count - c.loop.counter ≡ 0 = omega arith in
    turned q c.is_none.result c.is_none.ensures
    ∙ list-ends a.bytes.now a.text.now a.strict c.loop.at (a.count - c.loop.counter) c.loop.line c.loop.invariant.2 q c.next_reference-2.ensures.list z
    ∙ sym c.loop.invariant.3
