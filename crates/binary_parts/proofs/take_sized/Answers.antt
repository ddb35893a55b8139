-- `binary_parts::take_sized` meets its contract: the length is there, and as many bytes after it.
use Rattle.binary_parts.specs.Parts.{run_from}
use Rattle.binary_parts.proofs.Taken.{sized-none, sized-short, sized-at}
use Rattle.binary_parts.proofs.Places.{run_none, run_short, run-whole}
use Rattle.binary_parts.proofs.take_sized.Goals as goal

pub returns-in_err-number-clause-taken : goal.returns-in_err-number-clause-taken
returns-in_err-number-clause-taken c = rw c.from_residual.ensures (sized-none c.args.bytes.now c.args.at c.in_err-number.ensures.taken)

pub returns-in_err-number-clause-is : goal.returns-in_err-number-clause-is
returns-in_err-number-clause-is c = rw c.from_residual.ensures (run_none c.args.bytes.now c.args.at c.in_err-number.ensures.is)

pub returns-then-bytes-start-clause-taken : goal.returns-then-bytes-start-clause-taken
unfolding run_from
returns-then-bytes-start-clause-taken c =
    sized-short c.args.bytes.now c.args.at c.in_ok-number.number c.in_ok-number.ensures.taken c.if-bytes-start.true

pub returns-then-bytes-start-clause-is : goal.returns-then-bytes-start-clause-is
returns-then-bytes-start-clause-is c =
    run_short c.args.bytes.now c.args.at c.in_ok-number.number c.in_ok-number.ensures.is c.if-bytes-start.true

pub returns-clause-taken : goal.returns-clause-taken
unfolding run_from
returns-clause-taken c =
    sized-at c.args.bytes.now c.args.at c.in_ok-number.number c.in_ok-number.ensures.taken c.if-bytes-start.false

pub returns-clause-is : goal.returns-clause-is
returns-clause-is c =
    run-whole c.args.bytes.now c.args.at c.in_ok-number.number c.in_ok-number.ensures.is c.if-bytes-start.false
