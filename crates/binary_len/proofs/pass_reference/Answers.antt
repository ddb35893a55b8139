-- `binary_len::pass_reference` meets its contract: the name's length, the name and LN are there, or the first of them that is not decides.
use Prim.Native.Nat.{◌+◌}
use mathlib.Core.Path.{refl, sym, ◌∙◌}
use native.Mathlib.Omega.{arith}
use Rattle.binary_len.specs.BinaryLen.{number_at}
use Rattle.binary_len.proofs.PartByPart.{part-there, part_cut, length_cut, name-none, name-cut, name-open, name-closed}
use Rattle.binary_len.proofs.pass_reference.Goals as goal

pub returns-then-len-at-lt4 : goal.returns-then-len-at-lt4
returns-then-len-at-lt4 c =
    let a = c.args in
    sym (length_cut a.bytes.now a.at (number_at a.bytes.now a.at) refl (omega arith))

pub returns-then-n-eq0 : goal.returns-then-n-eq0
unfolding number_at
returns-then-n-eq0 c =
    let a = c.args in
    sym (name-none a.bytes.now a.at c.get_u32-n.result c.get_u32-n.ensures (omega arith) c.if-n-eq0.true)

pub returns-then-len-end : goal.returns-then-len-end
unfolding number_at
returns-then-len-end c =
    let a = c.args in
    sym (name-cut a.bytes.now a.at c.get_u32-n.result c.get_u32-n.ensures (omega arith) c.if-n-eq0.false c.if-len-end.true)

pub returns-then-bytes-end-ne0 : goal.returns-then-bytes-end-ne0
unfolding number_at
returns-then-bytes-end-ne0 c =
    let a = c.args in
    sym (name-open a.bytes.now a.at c.get_u32-n.result c.get_u32-n.ensures (omega arith) c.if-n-eq0.false c.if-len-end.false c.if-bytes-end-ne0.true)

pub returns-then-len-end-lt4 : goal.returns-then-len-end-lt4
unfolding number_at
returns-then-len-end-lt4 c =
    let a = c.args in
    let n = c.get_u32-n.result in
    sym (name-closed a.bytes.now a.at n c.get_u32-n.ensures (omega arith) c.if-n-eq0.false c.if-len-end.false c.if-bytes-end-ne0.false ∙ part_cut a.bytes.now (a.at + 4 + n + 4) (omega arith))

pub returns : goal.returns
unfolding number_at
returns c =
    let a = c.args in
    let n = c.get_u32-n.result in
    sym (name-closed a.bytes.now a.at n c.get_u32-n.ensures (omega arith) c.if-n-eq0.false c.if-len-end.false c.if-bytes-end-ne0.false ∙ part-there a.bytes.now (a.at + 4 + n + 4) (omega arith))
