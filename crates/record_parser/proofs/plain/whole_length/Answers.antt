-- `record_parser::plain::whole_length` meets its contract: what the whole asks is what the rest asks after the number read so far.
use mathlib.Core.Path.{◌≡◌, refl, ap, ◌∙◌}
use native.Mathlib.Omega.{arith}
use lib.ListN.{length}
use Rattle.std.specs.Prelude.{Ok}
use Rattle.decimal.specs.Number.{number_of}
use Rattle.decimal.proofs.Front.{digit-yes, done-is, front-start, turn, turn_end}
use Rattle.record_parser.proofs.Alone.{length-told}
use Rattle.record_parser.proofs.plain.whole_length.Goals as goal

pub loop-b-init : goal.loop-b-init
loop-b-init c = (omega arith, (λ z. absurd (z refl)), front-start _ _)

pub loop-b-preserved : goal.loop-b-preserved
loop-b-preserved c =
    let l = c.loop-b in
    (omega arith, (λ z. omega arith), l.invariant.2 ∙ turn _ _ _ _ (omega arith) (digit-yes _ (omega arith) (omega arith)))

pub returns : goal.returns
returns c =
    let l = c.loop-b in
    let s = c.args.src.now in
    let e : l.b-index ≡ length s = omega arith in
    length-told s l.n
    (l.invariant.2 ∙ turn_end _ _ _ _ c.loop-b-test.false ∙ done-is _ _ _ (omega arith) (l.invariant.1 c.if-n-eq0.false) ∙ ap (λ k. Ok (number_of l.n k)) e)
    (omega arith) c.if-n-eq0.false
