-- `add_lines::added_len` meets its contract: one line, or what is counted and what the leaves still to come will add.
use Prim.Native.Nat.{◌+◌, ◌-◌, ◌≤◌, ◌<◌}
use mathlib.Core.Path.{sym, ap, ◌∙◌}
use mathlib.Core.Bool.{false}
use native.Mathlib.Omega.{arith}
use lib.ListN.{length, drop, get_or, length-append}
use Rattle.program_ids.specs.Ids.{ids_at}
use Rattle.add_ids.specs.Taken.{id_in}
use Rattle.add_lines.specs.Line.{new_line}
use Rattle.add_lines.specs.Lines.{new_lines}
use Rattle.add_lines.proofs.Lines.{lines_more, lines-done, id-most, joining-most, linking-most, line-size, added-one, added-each}
use Rattle.add_lines.proofs.added_len.Goals as goal
use Rattle.add_lines.proofs.added_len.Goals.{After-find_id-id, After-line_len-n}

pub returns-then-shape : goal.returns-then-shape
returns-then-shape c =
    let a = c.args in
    c.line_len.ensures ∙ sym (ap length (added-one (ids_at a.text.now a.ids.now) a.shape.empty a.shape.alone a.shape.linked a.prefix.now a.fields.now a.leaves.now c.if-shape.true))

pub loop-leaf-init : goal.loop-leaf-init
loop-leaf-init c =
    let a = c.args in
    (omega arith, omega (arith, ap length (added-each (ids_at a.text.now a.ids.now) a.shape.empty a.shape.alone a.shape.linked a.prefix.now a.fields.now a.leaves.now c.if-shape.false)))

pub find_id-id-requires : goal.find_id-id-requires
find_id-id-requires c = c.requires.ids_in_text

-- the leaf's ID is no longer than the text
short : (c : After-find_id-id) → length c.find_id-id.result.now ≤ length c.args.text.now
short c =
    omega (arith, ap length c.find_id-id.ensures.value, id-most c.args.text.now c.args.ids.now c.requires.ids_in_text (get_or c.args.leaves.now c.loop-leaf.leaf-index 0))

pub line_len-n-requires : goal.line_len-n-requires
line_len-n-requires c = (c.requires.text_len_bound.1, c.requires.text_len_bound.2, omega (arith, short c, c.requires.text_len_bound.0))

-- and its line not too long
more : (c : After-line_len-n) → c.line_len-n.result ≤ 67108877
more c =
    let l = c.loop-leaf in
    let a = c.args in
    let id = c.find_id-id.result.now in
    omega (arith, c.line_len-n.ensures, line-size l.first a.shape.linked a.prefix.now a.fields.now id, joining-most l.first id, linking-most a.shape.linked id, short (goal.at.After-line_len-n c).After-find_id-id, c.requires.text_len_bound)

pub overflow_add-n : goal.overflow_add-n
overflow_add-n c = omega (arith, more c)

pub loop-leaf-preserved : goal.loop-leaf-preserved
loop-leaf-preserved c =
    let l = c.loop-leaf in
    let a = c.args in
    let ids = ids_at a.text.now a.ids.now in
    let id = id_in ids (get_or a.leaves.now l.leaf-index 0) in
    let h : l.leaf-index < length a.leaves.now = omega arith in (
      omega (arith, more c),
      omega (
        arith,
        l.invariant.1,
        ap length (lines_more ids a.shape.linked a.prefix.now a.fields.now a.leaves.now l.first l.leaf-index h),
        length-append (new_line l.first a.shape.linked a.prefix.now a.fields.now id) (new_lines ids false a.shape.linked a.prefix.now a.fields.now (drop (l.leaf-index + 1) a.leaves.now)),
        c.line_len-n.ensures,
        ap (λ i. length (new_line l.first a.shape.linked a.prefix.now a.fields.now i)) c.find_id-id.ensures.value,
      ),
    )

pub returns : goal.returns
returns c =
    let l = c.loop-leaf in
    let a = c.args in
    omega (arith, l.invariant.1, ap length (lines-done (ids_at a.text.now a.ids.now) a.shape.linked a.prefix.now a.fields.now a.leaves.now l.first l.leaf-index (omega arith)))
