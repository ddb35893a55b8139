-- `carry_passes::with_step` meets its contract: a line that is skipped adds nothing.
use mathlib.Core.Path.{◌≡◌, sym, ◌∙◌}
use native.Mathlib.Omega.{arith}
use Rattle.carry_passes.proofs.MeasuredSteps.{grown-kept, grown-skipped}
use Rattle.carry_passes.proofs.with_step.Goals as goal

pub returns-then-n-ne0 : goal.returns-then-n-ne0
returns-then-n-ne0 c = let a = c.args in sym (grown-skipped a.n _ _ a.sizes c.if-n-ne0.true)

pub with_line-requires : goal.with_line-requires
with_line-requires c =
    let z : c.args.n ≡ 0 = omega (arith, c.if-n-ne0.false) in record {
      src_value = c.requires.src_value z;
      src_bound = c.requires.src_bound;
      src_bound_2 = c.requires.src_bound_2 z;
    }

pub returns : goal.returns
returns c =
    let a = c.args in
    let z : a.n ≡ 0 = omega (arith, c.if-n-ne0.false) in
    c.with_line.ensures ∙ sym (grown-kept a.n _ _ a.sizes z)
