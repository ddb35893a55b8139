-- `add_lines::put_program_line` meets its contract: the prefix of the line, ID, and what follows it.
use Prim.Native.Nat.{ℕ, ◌+◌, ◌≤◌}
use mathlib.Core.List.{List, [], ◌∷◌, ◌++◌}
use native.Mathlib.Omega.{arith}
use lib.ListN.{length, length-append}
use Rattle.tidy_parts.proofs.Wrote.{wrote_then}
use Rattle.tidy_parts.specs.Parts.{prefix_text}
use Rattle.format.specs.declared.Kind.TheVariants.{Program}
use Rattle.add_lines.specs.Line.{joining, linking, ending, new_line}
use Rattle.add_lines.proofs.Lines.{ending-size, line-size}
use Rattle.add_lines.proofs.put_program_line.Goals as goal
use Rattle.add_lines.proofs.put_program_line.Goals.{Start}

-- how long the parts are
size : (s : Start) → let a = s.args in a.o + 8 + length a.prefix.now + length (joining a.look.alone a.id.now) + length a.fields.now + length (linking a.look.linked a.id.now) ≤ length a.out.now
size s = let a = s.args in omega (arith, s.requires, line-size a.look.alone a.look.linked a.prefix.now a.fields.now a.id.now)

pub put_prefix-n-requires : goal.put_prefix-n-requires
put_prefix-n-requires c = omega (arith, size (goal.at.put_prefix-n-requires c).Start)

pub put_tag-n-requires : goal.put_tag-n-requires
put_tag-n-requires c =
    omega (arith, size (goal.at.put_tag-n-requires c).Start, c.put_prefix-n.ensures.next, c.put_prefix-n.auto.out)

pub put_slice-n-requires : goal.put_slice-n-requires
put_slice-n-requires c =
    omega (arith, size (goal.at.put_slice-n-requires c).Start, c.put_prefix-n.ensures.next, c.put_prefix-n.auto.out, c.put_tag-n.ensures.next, c.put_tag-n.auto.out)

pub put_joining-n-requires : goal.put_joining-n-requires
put_joining-n-requires c =
    omega (arith, size (goal.at.put_joining-n-requires c).Start, c.put_prefix-n.ensures.next, c.put_prefix-n.auto.out, c.put_tag-n.ensures.next, c.put_tag-n.auto.out, c.put_slice-n.ensures.next, c.put_slice-n.auto.out)

pub put_ending-requires : goal.put_ending-requires
put_ending-requires c =
    omega (arith, size (goal.at.put_ending-requires c).Start, ending-size c.args.look.linked c.args.fields.now c.args.id.now, c.put_prefix-n.ensures.next, c.put_prefix-n.auto.out, c.put_tag-n.ensures.next, c.put_tag-n.auto.out, c.put_slice-n.ensures.next, c.put_slice-n.auto.out, c.put_joining-n.ensures.next, c.put_joining-n.auto.out)

pub returns : goal.returns
unfolding new_line prefix_text
returns c =
    let a = c.args in
    let tag : List ℕ = 9 ∷ 73 ∷ 68 ∷ 58 ∷ [] in
    let id = joining a.look.alone a.id.now in
    let tagged = wrote_then a.out.now a.o _ _ _ _ (prefix_text Program) tag (c.put_prefix-n.ensures.next, c.put_prefix-n.ensures.wrote) (c.put_tag-n.ensures.next, c.put_tag-n.ensures.wrote) (omega (arith, size (goal.at.returns c).Start)) in
    let named = wrote_then a.out.now a.o _ _ _ _ (prefix_text Program ++ tag) a.prefix.now tagged (c.put_slice-n.ensures.next, c.put_slice-n.ensures.wrote) (omega (arith, size (goal.at.returns c).Start, length-append (prefix_text Program ++ tag) a.prefix.now)) in
    let front = wrote_then a.out.now a.o _ _ _ _ (prefix_text Program ++ tag ++ a.prefix.now) id named (c.put_joining-n.ensures.next, c.put_joining-n.ensures.wrote)
    (omega (arith, size (goal.at.returns c).Start, length-append (prefix_text Program ++ tag) a.prefix.now, length-append (prefix_text Program ++ tag ++ a.prefix.now) id)) in
    let told = wrote_then a.out.now a.o _ _ _ _ (prefix_text Program ++ tag ++ a.prefix.now ++ id) (ending a.look.linked a.fields.now a.id.now) front (c.put_ending.ensures.next, c.put_ending.ensures.wrote) c.requires in
    record { next = told.0; wrote = told.1 }
