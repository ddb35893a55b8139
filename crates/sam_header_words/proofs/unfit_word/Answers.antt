-- `sam_header_words::unfit_word` meets its contract. Assumes nothing.
use Prim.Native.Nat.{◌+◌, ◌*◌, ◌≤◌}
use mathlib.Core.Path.{ap₂}
use native.Mathlib.Omega.{arith}
use Rattle.merge_judge.specs.declared.Which.{Which}
use Rattle.merge_judge.specs.declared.Which.TheVariants as which
use Rattle.sam_header_words.specs.Words.{refusal_word, about_number, unfit_word}
use Rattle.sam_header_words.proofs.unfit_word.Goals as goal

about-few : (w : Which) → about_number w ≤ 3
unfolding about_number
about-few which.A = omega arith
about-few which.B = omega arith
about-few which.Merged = omega arith

pub overflow_mul-result : goal.overflow_mul-result
overflow_mul-result c = omega (arith, c.about_number.ensures, about-few c.args.which)

pub overflow_add-result : goal.overflow_add-result
unfolding refusal_word
overflow_add-result c = omega (arith, c.refusal_word.ensures, c.about_number.ensures, about-few c.args.which)

pub returns : goal.returns
unfolding unfit_word
returns c = ap₂ (λ w k. w + k * 281474976710656) c.refusal_word.ensures c.about_number.ensures
