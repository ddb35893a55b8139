-- `carry_lines::fill_at_block_end` meets its contract: the same block, or the next one, for which the area is filled.
use mathlib.Core.Path.{◌≡◌, refl, sym, ◌∙◌}
use native.Mathlib.Omega.{arith}
use lib.ListN.{length}
use Rattle.carry_lines.proofs.Kept.{until-same, until-next, filled-same, filled_next}
use Rattle.carry_lines.proofs.fill_at_block_end.Goals as goal

pub returns-then-c : goal.returns-then-c
returns-then-c c =
    let a = c.args in
    let n : a.c.at ≡ a.c.until → ⊥ = c.if-c.true in record {
      until = sym (until-same a.strict a.text.now a.c.at a.c.until (length a.area.now) n);
      seed = λ _. refl;
      wrote = sym (filled-same a.c.seed a.strict a.text.now a.c.at a.c.until a.from a.area.now n);
    }

pub returns : goal.returns
returns c =
    let a = c.args in
    let here : a.c.at ≡ a.c.until = omega (arith, c.if-c.false) in record {
      until = c.fill.ensures.end ∙ sym (until-next a.strict a.text.now a.c.at a.c.until (length a.area.now) here);
      seed = λ n. absurd (n here);
      wrote = c.fill.ensures.wrote ∙ sym (filled_next c.fill.result.seed a.strict a.text.now a.c.at a.c.until a.from a.area.now here);
    }
