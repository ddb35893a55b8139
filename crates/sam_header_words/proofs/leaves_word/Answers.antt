-- `sam_header_words::leaves_word` meets its contract: one arm for each answer.
use Prim.Native.Nat.{◌≤◌}
use mathlib.Core.Path.{sym, ap, subst, ◌∙◌}
use native.Mathlib.Omega.{arith}
use Rattle.sam_header_words.specs.Words.{FewLeaves, leaves_word}
use Rattle.sam_header_words.proofs.leaves_word.Goals as goal

pub overflow_cast-found : goal.overflow_cast-found
unfolding FewLeaves
overflow_cast-found c =
    let few : c.in-Ok.found.leaves ≤ 1024 = subst FewLeaves c.in-Ok.is c.requires in
    omega (arith, few)

pub returns-in-Err : goal.returns-in-Err
unfolding leaves_word
returns-in-Err c = c.refusal_word.ensures ∙ ap leaves_word (sym c.in-Err.is)

pub returns-in-Ok : goal.returns-in-Ok
unfolding leaves_word
returns-in-Ok c = c.pair_word.ensures ∙ ap leaves_word (sym c.in-Ok.is)
