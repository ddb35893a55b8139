-- `binary_parts::take_reference` meets its contract: the name is there, a zero byte closes it, and the length comes after.
use Prim.Native.Nat.{◌+◌, ◌-◌}
use mathlib.Core.Path.{◌≡◌, sym, ap, ◌∙◌}
use native.Mathlib.Omega.{arith}
use lib.ListN.{take, drop}
use lib.Dec.{eqb}
use Rattle.format.specs.Programs.{last_or}
use Rattle.binary_parts.proofs.Closed.{run-some, run-name, open-name}
use Rattle.binary_parts.proofs.Taken.{reference-none, reference-open, reference-short, reference-at}
use Rattle.binary_parts.proofs.Places.{reference-none-at, reference-open-at, reference-short-at, reference-whole-at}
use Rattle.binary_parts.proofs.take_reference.Goals as goal
use Rattle.binary_parts.proofs.take_reference.Goals.{After-is_closed}

-- whether a zero byte closes the name
closes : (c : After-is_closed)
    → let r = c.in_ok-run.run' in c.is_closed.result ≡ eqb (last_or 1 (take r.len (drop r.at c.args.bytes.now))) 0
closes c =
    let s = c.args.bytes.now in
    let r = c.in_ok-run.run' in
    let z : r.at + r.len - r.at ≡ r.len = omega arith in
    c.is_closed.ensures ∙ ap (λ n. eqb (last_or 1 (take n (drop r.at s))) 0) z

pub returns-in_err-run-clause-taken : goal.returns-in_err-run-clause-taken
returns-in_err-run-clause-taken c = rw c.from_residual.ensures (reference-none c.args.bytes.now c.args.at c.in_err-run.ensures.taken)

pub returns-in_err-run-clause-is : goal.returns-in_err-run-clause-is
returns-in_err-run-clause-is c = rw c.from_residual.ensures (reference-none-at c.args.bytes.now c.args.at c.in_err-run.ensures.is)

pub returns-then-not-is_closed-clause-taken : goal.returns-then-not-is_closed-clause-taken
returns-then-not-is_closed-clause-taken c =
    let a = c.args in
    let r = c.in_ok-run.run' in
    let o = sym (closes (goal.at.returns-then-not-is_closed-clause-taken c).After-is_closed) ∙ c.if-not-is_closed.true in
    reference-open a.bytes.now a.at r c.in_ok-run.ensures.taken (open-name (take r.len (drop r.at a.bytes.now)) o)

pub returns-then-not-is_closed-clause-is : goal.returns-then-not-is_closed-clause-is
returns-then-not-is_closed-clause-is c =
    let o = sym (closes (goal.at.returns-then-not-is_closed-clause-is c).After-is_closed) ∙ c.if-not-is_closed.true in
    reference-open-at c.args.bytes.now c.args.at c.in_ok-run.run' c.in_ok-run.ensures.is o

pub returns-in_err-size-clause-taken : goal.returns-in_err-size-clause-taken
returns-in_err-size-clause-taken c =
    let s = c.args.bytes.now in
    let r = c.in_ok-run.run' in
    let o = sym (closes (goal.at.returns-in_err-size-clause-taken c).After-is_closed) ∙ c.if-not-is_closed.false in
    rw c.from_residual-in_err-size.ensures
    (reference-short s c.args.at r c.in_ok-run.ensures.taken (r.len - 1) (run-name s r.at r.len c.in_ok-run.ensures.inside o) c.in_err-size.ensures.taken)

pub returns-in_err-size-clause-is : goal.returns-in_err-size-clause-is
returns-in_err-size-clause-is c =
    let o = sym (closes (goal.at.returns-in_err-size-clause-is c).After-is_closed) ∙ c.if-not-is_closed.false in
    rw c.from_residual-in_err-size.ensures (reference-short-at c.args.bytes.now c.args.at c.in_ok-run.run' c.in_ok-run.ensures.is c.in_err-size.ensures.is o)

pub overflow_sub-result : goal.overflow_sub-result
overflow_sub-result c =
    let r = c.in_ok-run.run' in
    run-some c.args.bytes.now r.at r.len c.in_ok-run.ensures.inside (sym (closes (goal.at.overflow_sub-result c).After-is_closed) ∙ c.if-not-is_closed.false)

pub returns-clause-taken : goal.returns-clause-taken
returns-clause-taken c =
    let s = c.args.bytes.now in
    let r = c.in_ok-run.run' in
    let o = sym (closes (goal.at.returns-clause-taken c).After-is_closed) ∙ c.if-not-is_closed.false in
    reference-at s c.args.at r c.in_ok-run.ensures.taken (r.len - 1) (run-name s r.at r.len c.in_ok-run.ensures.inside o) c.in_ok-size.size c.in_ok-size.ensures.taken

pub returns-clause-is : goal.returns-clause-is
returns-clause-is c =
    let o = sym (closes (goal.at.returns-clause-is c).After-is_closed) ∙ c.if-not-is_closed.false in
    reference-whole-at c.args.bytes.now c.args.at c.in_ok-run.run' c.in_ok-run.ensures.is c.in_ok-size.size c.in_ok-size.ensures.is o
