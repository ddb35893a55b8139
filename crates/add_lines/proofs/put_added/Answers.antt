-- `add_lines::put_added` meets its contract: one line, or what is written and what the leaves still to come will write.
use Prim.Native.Nat.{◌+◌, ◌-◌, ◌<◌}
use mathlib.Core.Path.{◌≡◌, refl, sym, ap, subst, ◌∙◌}
use mathlib.Core.Bool.{false}
use mathlib.Core.List.{◌++◌}
use native.Mathlib.Omega.{arith}
use lib.ListN.{length, drop, length-append}
use Rattle.byte_slices.specs.Over.{over}
use Rattle.byte_slices.proofs.Over.{over_none}
use Rattle.tidy_parts.proofs.Wrote.{Wrote, wrote-onward}
use Rattle.program_ids.specs.Ids.{ids_at}
use Rattle.add_lines.specs.Line.{new_line}
use Rattle.add_lines.specs.Lines.{new_lines, added_text}
use Rattle.add_lines.proofs.Lines.{lines_more, lines-done, added-one, added-each}
use Rattle.add_lines.proofs.put_added.Goals as goal
use Rattle.add_lines.proofs.put_added.Goals.{After-find_id-id}

pub put_program_line-requires : goal.put_program_line-requires
put_program_line-requires c =
    let a = c.args in
    omega (arith, c.requires.leaves_in_bounds, ap length (added-one (ids_at a.text.now a.ids.now) a.shape.empty a.shape.alone a.shape.linked a.prefix.now a.fields.now a.leaves.now c.if-shape.true))

pub returns-then-shape : goal.returns-then-shape
returns-then-shape c =
    let a = c.args in
    let told = subst (Wrote a.out.now a.o c.put_program_line.new.out c.put_program_line.result) (sym (added-one (ids_at a.text.now a.ids.now) a.shape.empty a.shape.alone a.shape.linked a.prefix.now a.fields.now a.leaves.now c.if-shape.true)) (c.put_program_line.ensures.next, c.put_program_line.ensures.wrote) in
    record { next = told.0; wrote = told.1 }

pub loop-leaf-init : goal.loop-leaf-init
loop-leaf-init c =
    let a = c.args in
    let e = sym (added-each (ids_at a.text.now a.ids.now) a.shape.empty a.shape.alone a.shape.linked a.prefix.now a.fields.now a.leaves.now c.if-shape.false) in
    (ap (λ xs. a.o + length xs) e, ap (over a.out.now a.o) e, refl)

pub find_id-id-requires : goal.find_id-id-requires
find_id-id-requires c = c.requires.ids_in_text

-- the line of a step, and those still to come
more : (c : After-find_id-id)
    → let l = c.loop-leaf in
    let a = c.args in
    let ids = ids_at a.text.now a.ids.now in
    let xs = new_line l.first a.shape.linked a.prefix.now a.fields.now c.find_id-id.result.now in
    let ys = new_lines ids false a.shape.linked a.prefix.now a.fields.now (drop (l.leaf-index + 1) a.leaves.now) in
    (new_lines ids l.first a.shape.linked a.prefix.now a.fields.now (drop l.leaf-index a.leaves.now) ≡ xs ++ ys)
    × (l.n + length xs + length ys ≡ a.o + length (added_text ids a.shape.empty a.shape.alone a.shape.linked a.prefix.now a.fields.now a.leaves.now))
more c =
    let l = c.loop-leaf in
    let a = c.args in
    let ids = ids_at a.text.now a.ids.now in
    let xs = new_line l.first a.shape.linked a.prefix.now a.fields.now c.find_id-id.result.now in
    let ys = new_lines ids false a.shape.linked a.prefix.now a.fields.now (drop (l.leaf-index + 1) a.leaves.now) in
    let h : l.leaf-index < length a.leaves.now = omega arith in
    let e : new_lines ids l.first a.shape.linked a.prefix.now a.fields.now (drop l.leaf-index a.leaves.now) ≡ xs ++ ys =
    lines_more ids a.shape.linked a.prefix.now a.fields.now a.leaves.now l.first l.leaf-index h
    ∙ ap (λ i. new_line l.first a.shape.linked a.prefix.now a.fields.now i ++ ys) (sym c.find_id-id.ensures.value) in
    (e, omega (arith, l.invariant.0, ap length e, length-append xs ys))

pub put_program_line-n-requires : goal.put_program_line-n-requires
put_program_line-n-requires c = omega (arith, (more (goal.at.put_program_line-n-requires c).After-find_id-id).1, c.requires.leaves_in_bounds, c.loop-leaf.invariant.2)

pub loop-leaf-preserved : goal.loop-leaf-preserved
loop-leaf-preserved c =
    let l = c.loop-leaf in
    let a = c.args in
    let m = more (goal.at.loop-leaf-preserved c).After-find_id-id in
    let xs = new_line l.first a.shape.linked a.prefix.now a.fields.now c.find_id-id.result.now in
    let ys = new_lines (ids_at a.text.now a.ids.now) false a.shape.linked a.prefix.now a.fields.now (drop (l.leaf-index + 1) a.leaves.now) in (
      omega (arith, c.put_program_line-n.ensures.next, m.1),
      wrote-onward l.out c.put_program_line-n.new.out l.n c.put_program_line-n.result _ xs ys m.0 (c.put_program_line-n.ensures.next, c.put_program_line-n.ensures.wrote) (omega (arith, m.1, c.requires.leaves_in_bounds, l.invariant.2)) ∙ l.invariant.1,
      c.put_program_line-n.auto.out ∙ l.invariant.2,
    )

pub shape_of-out : goal.shape_of-out
shape_of-out c = c.loop-leaf.invariant.2

pub returns : goal.returns
returns c =
    let l = c.loop-leaf in
    let a = c.args in
    let e = lines-done (ids_at a.text.now a.ids.now) a.shape.linked a.prefix.now a.fields.now a.leaves.now l.first l.leaf-index (omega arith) in record {
      next = omega (arith, l.invariant.0, ap length e);
      wrote = sym (over_none l.out l.n) ∙ ap (over l.out l.n) (sym e) ∙ l.invariant.1;
    }
