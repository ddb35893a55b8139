-- `carry_lines::advance` meets its contract: one line further, and one more record where it is kept.
use mathlib.Core.Path.{sym}
use native.Mathlib.Omega.{arith}
use Rattle.read_admission.proofs.Programs.{programs-most}
use Rattle.carry_lines.proofs.Kept.{advanced-kept, advanced-skipped}
use Rattle.carry_lines.proofs.advance.Goals as goal

pub overflow_add-programs : goal.overflow_add-programs
overflow_add-programs c =
    omega (arith, c.programs_of-programs.ensures, programs-most c.args.head, c.requires)

pub returns-then-n-eq0 : goal.returns-then-n-eq0
returns-then-n-eq0 c =
    let a = c.args in
    rw c.programs_of-programs.ensures (sym (advanced-kept a.c a.next a.block.end a.block.seed a.head a.n c.if-n-eq0.true))

pub returns-else-n-eq0 : goal.returns-else-n-eq0
returns-else-n-eq0 c =
    let a = c.args in
    sym (advanced-skipped a.c a.next a.block.end a.block.seed a.head a.n c.if-n-eq0.false)
