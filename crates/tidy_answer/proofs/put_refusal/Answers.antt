-- `tidy_answer::put_refusal` meets its contract: five writes, one after another.
use Prim.Native.Nat.{◌+◌}
use mathlib.Core.Path.{◌≡◌, refl, ◌∙◌}
use native.Mathlib.Omega.{arith}
use lib.ListN.{length, length-set}
use Rattle.format.specs.Decimal.{written}
use Rattle.format.specs.Program.{spelled_refused, spelled_line, refusal}
use Rattle.tidy_answer.proofs.Refusal.{refusal-size, refusal-wrote}
use borrow.Author.Rules.{rules}
use Rattle.tidy_answer.proofs.put_refusal.Goals as goal
use Rattle.tidy_answer.proofs.put_refusal.Goals.{After-write_u32-at-2, Start}

-- the whole line fits, piece by piece
size : (s : Start) → length (refusal s.args.why.number s.args.why.line.0) ≡ 8 + length (written s.args.why.number) + 6 + length (written s.args.why.line.0) + 1
size s = refusal-size s.args.why.number s.args.why.line.0

pub put_bytes-requires : goal.put_bytes-requires
put_bytes-requires c = omega (arith, c.requires, size (goal.at.put_bytes-requires c).Start)

pub write_u32-at-requires : goal.write_u32-at-requires
write_u32-at-requires c =
    omega (arith, c.requires, size (goal.at.write_u32-at-requires c).Start, c.put_bytes.auto.out)

pub put_bytes-requires-2 : goal.put_bytes-requires-2
put_bytes-requires-2 c =
    omega (arith, c.requires, size (goal.at.put_bytes-requires-2 c).Start, c.put_bytes.auto.out, c.write_u32-at.auto.out, c.write_u32-at.ensures.next)

pub overflow_add-at : goal.overflow_add-at
overflow_add-at c =
    search (rules, c.requires, size (goal.at.overflow_add-at c).Start, c.write_u32-at.ensures.next)

pub write_u32-at-requires-2 : goal.write_u32-at-requires-2
write_u32-at-requires-2 c =
    omega (arith, c.requires, size (goal.at.write_u32-at-requires-2 c).Start, c.put_bytes.auto.out, c.write_u32-at.auto.out, c.write_u32-at.ensures.next, c.put_bytes-2.auto.out)

-- the four writes before the LF
before : (c : After-write_u32-at-2)
    → ((c.write_u32-at-2.result + 1 ≡ length (refusal c.args.why.number c.args.why.line.0))
    × (length c.write_u32-at-2.new.out ≡ length c.args.out.now))
before c =
    (omega (arith, size (goal.at.After-write_u32-at-2 c).Start, c.write_u32-at.ensures.next, c.write_u32-at-2.ensures.next), c.write_u32-at-2.auto.out ∙ c.put_bytes-2.auto.out ∙ c.write_u32-at.auto.out ∙ c.put_bytes.auto.out)

pub bounds-out-at : goal.bounds-out-at
bounds-out-at c =
    omega (arith, c.requires, before (goal.at.bounds-out-at c).After-write_u32-at-2)

pub overflow_add-result : goal.overflow_add-result
overflow_add-result c =
    search (rules, c.requires, before (goal.at.overflow_add-result c).After-write_u32-at-2)

pub shape_of-out : goal.shape_of-out
shape_of-out c = simp length-set (before (goal.at.shape_of-out c).After-write_u32-at-2).1

pub returns : goal.returns
unfolding spelled_refused spelled_line
returns c =
    let a = c.args in
    let whole =
    refusal-wrote a.out.now a.why.number a.why.line.0 c.requires c.put_bytes.new.out c.write_u32-at.new.out c.put_bytes-2.new.out c.write_u32-at-2.new.out c.write_u32-at.result c.write_u32-at-2.result
    (refl, c.put_bytes.ensures) (c.write_u32-at.ensures.next, c.write_u32-at.ensures.wrote) (refl, c.put_bytes-2.ensures) (c.write_u32-at-2.ensures.next, c.write_u32-at-2.ensures.wrote) (before (goal.at.returns c).After-write_u32-at-2).1 in record {
      next = (before (goal.at.returns c).After-write_u32-at-2).0;
      wrote = whole.1;
    }
