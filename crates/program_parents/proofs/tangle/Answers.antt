-- `program_parents::tangle` meets its contract: 22, then 23.
use mathlib.Core.Path.{sym, ◌∙◌}
use mathlib.Core.Bool.{true, false}
use Rattle.format.specs.Programs.{links}
use native.Mathlib.Omega.{arith}
use Rattle.program_parents.proofs.Road.{lent-most, lent-within, refusal-dangling, refusal-loops, unless-ok, unless-err}
use Rattle.program_parents.proofs.tangle.Goals as goal

pub returns-then-parents : goal.returns-then-parents
returns-then-parents c = λ ps few is. unless-err (links ps) tt 22 (refusal-dangling ps few c.args.parents.now is c.if-parents.true) (λ q. omega arith)

pub shared_ref_as_front-has_cycle : goal.shared_ref_as_front-has_cycle
shared_ref_as_front-has_cycle c =
    lent-most c.requires.ps c.requires.few c.args.parents.now c.requires.is

pub has_cycle-requires : goal.has_cycle-requires
has_cycle-requires c =
    lent-within c.requires.ps c.requires.few c.args.parents.now c.requires.is c.if-parents.false

pub returns-then-has_cycle : goal.returns-then-has_cycle
returns-then-has_cycle c =
    λ ps few is. unless-err (links ps) tt 23 (refusal-loops ps few c.args.parents.now is c.if-parents.false true (sym c.has_cycle.ensures ∙ c.if-has_cycle.true)) (λ q. omega arith)

pub returns : goal.returns
returns c =
    λ ps few is. unless-ok (links ps) tt (sym (refusal-loops ps few c.args.parents.now is c.if-parents.false false (sym c.has_cycle.ensures ∙ c.if-has_cycle.false)))
