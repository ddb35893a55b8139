-- `accepted_line::fields::field_end` meets its contract: the part that is lent is the rest of the line, and the tab is in it or it ends.
use Prim.Native.Nat.{ℕ, ◌+◌}
use mathlib.Core.Path.{◌≡◌, ap, ◌∙◌}
use native.Mathlib.Omega.{arith}
use lib.ListN.{drop, length-drop}
use Rattle.byte_slices.specs.Upto.{upto}
use Rattle.byte_slices.proofs.Lines.{upto_le}
use Rattle.byte_slices.proofs.Before.{rest}
use Rattle.accepted_line.proofs.fields.field_end.Goals as goal
use Rattle.accepted_line.proofs.fields.field_end.Goals.{After-upto}

-- what the call gives, of the line itself
told : (c : After-upto) → c.upto.result ≡ upto 9 (drop (c.args.i + 1) c.args.line.now)
told c =
    let a = c.args in
    c.upto.ensures ∙ ap (upto 9) (rest (a.i + 1) a.line.now)

pub overflow_add-result-2 : goal.overflow_add-result-2
overflow_add-result-2 c =
    let a = c.args in
    let n : ℕ = a.i + 1 in
    omega (arith, told c, upto_le 9 (drop n a.line.now), length-drop n a.line.now)

pub returns : goal.returns
returns c = ap (λ n. c.args.i + 1 + n) (told c)
