-- `add_lines::put_ending` meets its contract: the fields, PP, an LF.
use Prim.Native.Nat.{◌+◌, ◌≤◌}
use mathlib.Core.Path.{◌≡◌, refl, ◌∙◌}
use mathlib.Core.List.{[], ◌∷◌, ◌++◌}
use native.Mathlib.Omega.{arith}
use lib.ListN.{length, set, length-set, length-append}
use Rattle.tidy_parts.proofs.Wrote.{wrote_then, wrote_one}
use Rattle.add_lines.specs.Line.{linking, ending}
use Rattle.add_lines.proofs.Lines.{ending-size}
use Rattle.add_lines.proofs.put_ending.Goals as goal
use Rattle.add_lines.proofs.put_ending.Goals.{After-slice_known-3-1, Start}

-- how long the parts are
size : (s : Start) → let a = s.args in a.o + length a.fields.now + length (linking a.linked a.id.now) + 1 ≤ length a.out.now
size s = omega (arith, s.requires, ending-size s.args.linked s.args.fields.now s.args.id.now)

pub put_slice-n-requires : goal.put_slice-n-requires
put_slice-n-requires c = omega (arith, size (goal.at.put_slice-n-requires c).Start)

pub put_linking-n-requires : goal.put_linking-n-requires
put_linking-n-requires c =
    omega (arith, size (goal.at.put_linking-n-requires c).Start, c.put_slice-n.ensures.next, c.put_slice-n.auto.out)

-- the output's length stays
kept : (c : After-slice_known-3-1) → length c.put_linking-n.new.out ≡ length c.args.out.now
kept c = c.put_linking-n.auto.out ∙ c.put_slice-n.auto.out

-- there is room for the LF
fits : (c : After-slice_known-3-1) → c.put_linking-n.result + 1 ≤ length c.put_linking-n.new.out
fits c =
    omega (arith, size (goal.at.After-slice_known-3-1 c).Start, c.put_slice-n.ensures.next, c.put_linking-n.ensures.next, kept c)

pub bounds-out-n : goal.bounds-out-n
bounds-out-n c = omega (arith, fits c)

pub overflow_add-result : goal.overflow_add-result
overflow_add-result c = omega (arith, fits c)

pub shape_of-out : goal.shape_of-out
shape_of-out c = simp length-set (kept c)

pub returns : goal.returns
unfolding ending
returns c =
    let a = c.args in
    let n = c.put_linking-n.result in
    let mid = c.put_slice-n.new.out in
    let last = c.put_linking-n.new.out in
    let xs = linking a.linked a.id.now in
    let front = wrote_then a.out.now a.o mid _ last n a.fields.now xs (c.put_slice-n.ensures.next, c.put_slice-n.ensures.wrote) (c.put_linking-n.ensures.next, c.put_linking-n.ensures.wrote) (omega (arith, size (goal.at.returns c).Start, length-append a.fields.now xs)) in
    let told = wrote_then a.out.now a.o last n (set last n 10) (n + 1) (a.fields.now ++ xs) (10 ∷ []) front (refl, wrote_one last n 10 (omega (arith, fits c))) c.requires in
    record { next = told.0; wrote = told.1 }
