-- `accepted_line::head_of` meets its contract: an arm for each kind.
use mathlib.Core.Path.{◌≡◌, sym, ap, subst, ◌∙◌}
use mathlib.Core.Bool.{false}
use Rattle.format.specs.Fields.{last_of}
use Rattle.format.specs.Records.{line}
use Rattle.format.specs.declared.Kind.TheVariants.{Header, ReferenceSequence, ReadGroup, Program, Comment}
use Rattle.record.specs.Head.{head_of}
use Rattle.record.specs.declared.Stretch.{Stretch}
use Rattle.record.specs.declared.Head.{Head}
use Rattle.record.specs.declared.Head.TheVariants as head
use Rattle.accepted_line.specs.Run.{fields_from}
use Rattle.accepted_line.specs.Next.{or_value, no_value}
use Rattle.accepted_line.specs.Found.{uncounted}
use Rattle.accepted_line.specs.Keys.{last_key, keys_from, keys_in}
use Rattle.accepted_line.proofs.Finds.{OfMap, Held, held, found-place}
use Rattle.format.specs.declared.Kind.{Kind}
use Rattle.accepted_line.specs.Form.{LineOf}
use Rattle.accepted_line.proofs.head_of.Goals as goal
use Rattle.accepted_line.proofs.head_of.Goals.{Start}

-- what is held of a line of the kind `k`
line-held : (s : Start) (k : Kind) → s.args.kind ≡ k → (let a = s.args in Held false k a.at a.src.now (uncounted (head_of (line false (record { at = a.at; bytes = a.src.now })))))
line-held s k e = held false s.args.at s.args.src.now s.requires.line_of.accepted k (s.requires.line_of.kind ∙ e)

keys : (s : Start) (k : Kind) → s.args.kind ≡ k → (let a = s.args in a.keys ≡ keys_in k (fields_from a.at a.src.now 3))
keys s k e = s.requires.keys_value ∙ ap (λ k. keys_in k (fields_from s.args.at s.args.src.now 3)) e

of : (s : Start) (k : Kind) → s.args.kind ≡ k → (let a = s.args in LineOf k a.at a.src.now)
of s k e = subst (λ k. LineOf k s.args.at s.args.src.now) e s.requires.line_of

-- the ID of a map
map : (s : Start) (make : Stretch → Head) → OfMap s.args.at s.args.src.now make (uncounted (head_of (line false (record { at = s.args.at; bytes = s.args.src.now }))))
    → s.args.keys.key ≡ or_value no_value (last_of 73 68 (fields_from s.args.at s.args.src.now 3))
    → make (record { at = s.args.keys.key.at; len = s.args.keys.key.len }) ≡ uncounted (head_of (line false (record { at = s.args.at; bytes = s.args.src.now })))
map s make k e = ap make (found-place s.args.at s.args.src.now 73 68 k.piece k.has s.args.keys.key e) ∙ sym k.is

pub header_of-requires : goal.header_of-requires
header_of-requires c = record {
  line_of = of (goal.at.header_of-requires c).Start Header c.in-Header.is;
  version_value = ap (λ k. k.key) (keys (goal.at.header_of-requires c).Start Header c.in-Header.is);
}

pub sequence_of-requires : goal.sequence_of-requires
sequence_of-requires c = record {
  line_of = of (goal.at.sequence_of-requires c).Start ReferenceSequence c.in-ReferenceSequence.is;
  keys_value = keys (goal.at.sequence_of-requires c).Start ReferenceSequence c.in-ReferenceSequence.is;
}

pub overflow_sub-result : goal.overflow_sub-result
unfolding Held
overflow_sub-result c = (line-held (goal.at.overflow_sub-result c).Start Comment c.in-Comment.is).0

pub returns-in-ReadGroup : goal.returns-in-ReadGroup
unfolding Held keys_in keys_from last_key
returns-in-ReadGroup c =
    let e = c.in-ReadGroup.is in
    map (goal.at.returns-in-ReadGroup c).Start (λ p. head.ReadGroup p 0) (line-held (goal.at.returns-in-ReadGroup c).Start ReadGroup e).1 (ap (λ k. k.key) (keys (goal.at.returns-in-ReadGroup c).Start ReadGroup e))

pub returns-in-Program : goal.returns-in-Program
unfolding Held keys_in keys_from last_key
returns-in-Program c =
    let e = c.in-Program.is in
    map (goal.at.returns-in-Program c).Start (λ p. head.Program p 0) (line-held (goal.at.returns-in-Program c).Start Program e).1 (ap (λ k. k.key) (keys (goal.at.returns-in-Program c).Start Program e))

pub returns-in-Comment : goal.returns-in-Comment
unfolding Held
returns-in-Comment c = sym (line-held (goal.at.returns-in-Comment c).Start Comment c.in-Comment.is).1
