-- `replay_cases::word` meets its contract: the word ends before the next space. Assumes nothing.
use Prim.Native.Nat.{ℕ, ◌+◌, ◌-◌}
use mathlib.Core.Path.{◌≡◌, ap, ◌∙◌}
use native.Mathlib.Omega.{arith}
use lib.ListN.{length, take, drop, length-take, length-drop}
use Rattle.byte_slices.specs.Upto.{upto, before}
use Rattle.replay_cases.specs.Cases.{from_word, word_in, word_standing}
use Rattle.replay_cases.proofs.word.Goals as goal

pub returns : goal.returns
unfolding word_in before word_standing
returns c =
    let a = c.args in
    let line = c.args.line.now in
    let start : ℕ = c.word_start-start.result in
    let rest = from_word a.k line in
    let here : drop start line ≡ rest = c.word_start-start.ensures.1 in
    let long : c.until-end.result - start ≡ upto 32 (drop start line) = omega (arith, c.until-end.ensures.2) in
    let place : start ≡ length line - length rest = omega (arith, length-drop start line, ap length here, c.word_start-start.ensures.0) in record {
      short = omega (arith, length-take (c.until-end.result - start) (drop start line), length-drop start line);
      value = ap (λ n. take n (drop start line)) long ∙ ap (λ s. take (upto 32 s) s) here;
      place = ap (λ n. (a.line.ref_ptr.0, n + a.line.ref_ptr.1)) place;
    }
