-- `tidy_line::put_parts` meets its contract: the head of an accepted line says which record is to be written, and its text.
use Prim.Native.Nat.{◌+◌, ◌≤◌}
use mathlib.Core.Path.{◌≡◌, subst}
use native.Mathlib.Omega.{arith}
use lib.ListN.{length}
use Rattle.record.specs.declared.Head.{Head}
use Rattle.tidy_line.specs.Heads.{head_text, KeyInLine}
use Rattle.tidy_line.proofs.Heads.{Told, told}
use Rattle.tidy_line.proofs.put_parts.Goals as goal
use Rattle.tidy_line.proofs.put_parts.Goals.{After-head_of-head}

-- the head is `d`
shown : (c : After-head_of-head) (d : Head) → c.head_of-head.result ≡ d → (let a = c.args in Told a.at a.src.now a.kind d)
shown c d e =
    let a = c.args in
    told a.at a.src.now c.requires.line_of.accepted a.kind c.requires.line_of.kind c.requires.kind_value c.head_of-head.result d c.head_of-head.ensures e

-- it has room
room : (c : After-head_of-head) (d : Head) → c.head_of-head.result ≡ d
    → (let a = c.args in a.o + length (head_text a.at a.src.now d) ≤ length a.out.now)
room c d e = subst (λ l. c.args.o + length l ≤ length c.args.out.now) (shown c d e).text c.requires.src_in_bounds

pub find_keys-keys-requires : goal.find_keys-keys-requires
find_keys-keys-requires c = record {
  walkable = c.requires.walkable;
  src_bound = omega (arith, c.requires.line_of.short);
}

pub head_of-head-requires : goal.head_of-head-requires
head_of-head-requires c = record {
  line_of = c.requires.line_of;
  keys_value = c.find_keys-keys.ensures;
}

pub put_header-requires : goal.put_header-requires
unfolding KeyInLine head_text
put_header-requires c = record {
  walkable = c.requires.walkable;
  line_bound = c.requires.line_of.short;
  line_in_bounds = room (goal.at.put_header-requires c).After-head_of-head _ c.in-Header.is;
}

pub put_reference_sequence-requires : goal.put_reference_sequence-requires
unfolding KeyInLine head_text
put_reference_sequence-requires c = record {
  walkable = c.requires.walkable;
  line_bound = c.requires.line_of.short;
  inside_line = (shown (goal.at.put_reference_sequence-requires c).After-head_of-head _ c.in-ReferenceSequence.is).holds;
  line_in_bounds = room (goal.at.put_reference_sequence-requires c).After-head_of-head _ c.in-ReferenceSequence.is;
}

pub put_map-requires : goal.put_map-requires
unfolding KeyInLine head_text
put_map-requires c = record {
  walkable = c.requires.walkable;
  line_bound = c.requires.line_of.short;
  inside_line = (shown (goal.at.put_map-requires c).After-head_of-head _ c.in-ReadGroup.is).holds;
  line_in_bounds = room (goal.at.put_map-requires c).After-head_of-head _ c.in-ReadGroup.is;
}

pub put_map-requires-in-Program : goal.put_map-requires-in-Program
unfolding KeyInLine head_text
put_map-requires-in-Program c = record {
  walkable = c.requires.walkable;
  line_bound = c.requires.line_of.short;
  inside_line = (shown (goal.at.put_map-requires-in-Program c).After-head_of-head _ c.in-Program.is).holds;
  line_in_bounds = room (goal.at.put_map-requires-in-Program c).After-head_of-head _ c.in-Program.is;
}

pub returns-in-Refused : goal.returns-in-Refused
unfolding KeyInLine
returns-in-Refused c = absurd (shown (goal.at.returns-in-Refused c).After-head_of-head _ c.in-Refused.is).holds

pub returns-in-Header : goal.returns-in-Header
unfolding head_text
returns-in-Header c = rw (shown (goal.at.returns-in-Header c).After-head_of-head _ c.in-Header.is).text c.put_header.ensures

pub returns-in-ReferenceSequence : goal.returns-in-ReferenceSequence
unfolding head_text
returns-in-ReferenceSequence c = rw (shown (goal.at.returns-in-ReferenceSequence c).After-head_of-head _ c.in-ReferenceSequence.is).text c.put_reference_sequence.ensures

pub returns-in-ReadGroup : goal.returns-in-ReadGroup
unfolding head_text
returns-in-ReadGroup c = rw (shown (goal.at.returns-in-ReadGroup c).After-head_of-head _ c.in-ReadGroup.is).text c.put_map.ensures

pub returns-in-Program : goal.returns-in-Program
unfolding head_text
returns-in-Program c = rw (shown (goal.at.returns-in-Program c).After-head_of-head _ c.in-Program.is).text c.put_map-in-Program.ensures

pub returns-in-Comment : goal.returns-in-Comment
unfolding KeyInLine
returns-in-Comment c = absurd (shown (goal.at.returns-in-Comment c).After-head_of-head _ c.in-Comment.is).holds
