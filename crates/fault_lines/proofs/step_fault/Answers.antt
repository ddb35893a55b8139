-- `fault_lines::step_fault` meets its contract: a fault whatever the links are comes first, and a line that is no program has no other.
use mathlib.Core.Path.{sym, ◌∙◌}
use native.Mathlib.Omega.{arith}
use Rattle.fault_lines.proofs.Links.{step-plain, step_other, step-program}
use Rattle.fault_lines.proofs.step_fault.Goals as goal

pub returns-then-n-ne0 : goal.returns-then-n-ne0
returns-then-n-ne0 c = sym (step-plain _ _ _ _ c.if-n-ne0.true)

pub returns-then-next-i : goal.returns-then-next-i
returns-then-next-i c = sym (step_other _ _ _ _ (omega (arith, c.if-n-ne0.false)) c.if-next-i.true)

pub link_fault-requires : goal.link_fault-requires
link_fault-requires c = record {
  within = c.requires.within;
  i_in_bounds = c.requires.i_in_bounds c.if-next-i.false;
}

pub returns : goal.returns
returns c = c.link_fault.ensures ∙ sym (step-program _ _ _ _ (omega (arith, c.if-n-ne0.false)) c.if-next-i.false)
