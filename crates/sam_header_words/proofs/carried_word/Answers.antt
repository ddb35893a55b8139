-- `sam_header_words::carried_word` meets its contract: both counts fit 32 bits.
use Prim.Native.Nat.{◌<◌, ◌^◌}
use mathlib.Core.Path.{sym, ap, subst, ◌∙◌}
use native.Mathlib.Omega.{arith}
use Rattle.sam_header_words.specs.Words.{FitsHalves, carried_word}
use Rattle.sam_header_words.proofs.carried_word.Goals as goal
use Rattle.sam_header_words.proofs.carried_word.Goals.{In-Ok}

-- what is written and skipped
counts : (c : In-Ok) → (c.in-Ok.written.size < 2 ^ 32) × (c.in-Ok.written.skipped < 2 ^ 32)
unfolding FitsHalves
counts c = subst FitsHalves c.in-Ok.is c.requires

pub overflow_cast-written : goal.overflow_cast-written
overflow_cast-written c = omega (arith, counts (goal.at.overflow_cast-written c).In-Ok)

pub overflow_cast-written-in-Ok : goal.overflow_cast-written-in-Ok
overflow_cast-written-in-Ok c = omega (arith, counts (goal.at.overflow_cast-written-in-Ok c).In-Ok)

pub returns-in-Err : goal.returns-in-Err
unfolding carried_word
returns-in-Err c = c.refusal_word.ensures ∙ sym (ap carried_word c.in-Err.is)

pub returns-in-Ok : goal.returns-in-Ok
unfolding carried_word
returns-in-Ok c = c.pair_word.ensures ∙ sym (ap carried_word c.in-Ok.is)
