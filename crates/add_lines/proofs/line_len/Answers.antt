-- `add_lines::line_len` meets its contract.
use Prim.Native.Nat.{◌≤◌}
use native.Mathlib.Omega.{arith}
use Rattle.add_lines.proofs.Lines.{joining-most, linking-most, line-size}
use Rattle.add_lines.proofs.line_len.Goals as goal
use Rattle.add_lines.proofs.line_len.Goals.{After-linking_len-previous}

-- the two parts are short
lens : (c : After-linking_len-previous) → (c.joining_len-joined.result ≤ 16777217) × (c.linking_len-previous.result ≤ 16777220)
lens c =
    (omega (arith, c.joining_len-joined.ensures, joining-most c.args.alone c.args.id.now, c.requires), omega (arith, c.linking_len-previous.ensures, linking-most c.args.linked c.args.id.now, c.requires))

pub overflow_add-result-3 : goal.overflow_add-result-3
overflow_add-result-3 c = omega (arith, lens c)

pub overflow_add-result-4 : goal.overflow_add-result-4
overflow_add-result-4 c = omega (arith, lens c)

pub returns : goal.returns
returns c =
    let a = c.args in
    omega (arith, c.joining_len-joined.ensures, c.linking_len-previous.ensures, line-size a.alone a.linked a.prefix.now a.fields.now a.id.now)
