-- `carry_keys::parse_at` meets its contract: the first line of what is ahead.
use Prim.Native.Nat.{ℕ, ◌+◌, ◌-◌, ◌≤◌, ◌<◌}
use mathlib.Core.Path.{◌≡◌, ap, ◌∙◌}
use mathlib.Core.List.{List}
use native.Mathlib.Omega.{arith}
use lib.ListN.{length, take, drop, length-take, length-drop}
use Rattle.format.specs.Records.{line}
use Rattle.byte_slices.specs.First.{first_line}
use Rattle.byte_slices.proofs.First.{first-le, first-within}
use Rattle.byte_slices.proofs.Before.{rest}
use Rattle.accepted.specs.First.{first_at}
use Rattle.record.specs.Head.{head_of}
use Rattle.carry_keys.proofs.parse_at.Goals as goal
use Rattle.carry_keys.proofs.parse_at.Goals.{After-first_line-cut, After-parse_record-head}

cut : (c : After-first_line-cut) → let a = c.args in c.first_line-cut.result ≡ first_line (drop a.at a.text.now)
cut c = let a = c.args in c.first_line-cut.ensures ∙ ap first_line (rest a.at a.text.now)

inside : (c : After-first_line-cut)
    → let a = c.args in
    (a.at + c.first_line-cut.result.len ≤ length a.text.now) × (a.at + c.first_line-cut.result.next ≤ length a.text.now)
inside c =
    let a = c.args in
    let s : List ℕ = drop a.at a.text.now in
    let d = length-drop a.at a.text.now in
    let h : a.at < length a.text.now = c.requires.at_in_bounds in
    rw (cut c) (omega (arith, d, h, first-le s, first-within s), omega (arith, d, h, first-within s))

head-is : (c : After-parse_record-head)
    → let a = c.args in
    c.parse_record-head.result ≡ head_of (line a.strict (first_at a.at a.text.now))
head-is c =
    let a = c.args in
    let n : a.at + c.first_line-cut.result.len - a.at ≡ c.first_line-cut.result.len = omega arith in
    c.parse_record-head.ensures ∙ ap (λ b. head_of (line a.strict (record { at = a.at; bytes = take b (drop a.at a.text.now) }))) (n ∙ ap (λ x. x.len) (cut (goal.at.After-parse_record-head c).After-first_line-cut))

pub overflow_add-end : goal.overflow_add-end
overflow_add-end c = omega (arith, inside (goal.at.overflow_add-end c).After-first_line-cut)

pub slice_bounds-parse_record-end : goal.slice_bounds-parse_record-end
slice_bounds-parse_record-end c = omega (arith, inside (goal.at.slice_bounds-parse_record-end c).After-first_line-cut)

pub parse_record-head-requires : goal.parse_record-head-requires
parse_record-head-requires c =
    omega (arith, inside (goal.at.parse_record-head-requires c).After-first_line-cut, length-take (c.args.at + c.first_line-cut.result.len - c.args.at) (drop c.args.at c.args.text.now), c.requires.text_len_bound)

pub overflow_add-result : goal.overflow_add-result
overflow_add-result c = omega (arith, inside (goal.at.overflow_add-result c).After-first_line-cut)

pub returns : goal.returns
returns c = record {
  head = head-is (goal.at.returns c).After-parse_record-head;
  next = ap (λ x. c.args.at + x.next) (cut (goal.at.returns c).After-first_line-cut);
}
