-- `fault_programs::plain_fault` meets its contract: a refusal is the fault, and otherwise the name is looked at.
use mathlib.Core.Path.{sym, ◌∙◌}
use native.Mathlib.Omega.{arith}
use Rattle.fault_programs.proofs.KeptPrograms.{plain-skipped, plain-bad, plain-good}
use Rattle.fault_programs.proofs.plain_fault.Goals as goal

pub returns-then-n-ne0 : goal.returns-then-n-ne0
returns-then-n-ne0 c = sym (plain-skipped _ _ c.if-n-ne0.true)

pub line_size-requires : goal.line_size-requires
line_size-requires c = record {
  src_value = c.requires.src_value (omega (arith, c.if-n-ne0.false));
  src_bound = c.requires.src_bound;
}

pub returns-in-None : goal.returns-in-None
returns-in-None c = sym (plain-bad _ _ (omega (arith, c.if-n-ne0.false)) (sym c.line_size.ensures ∙ c.in-None.is))

pub returns-in-Some : goal.returns-in-Some
returns-in-Some c = sym (plain-good _ _ _ (omega (arith, c.if-n-ne0.false)) (sym c.line_size.ensures ∙ c.in-Some.is))
