-- `read_judge::parse_lenient` meets its contract: what the strict rule accepts is the same by the other.
use mathlib.Core.Path.{◌≡◌, sym, ap, ◌∙◌}
use mathlib.Core.Bool.{true}
use borrow.Author.Tests.{not-true, not-false}
use Rattle.format.specs.Lines.{Piece}
use Rattle.format.specs.Records.{line}
use Rattle.record.specs.Head.{head_of}
use Rattle.read_judge.proofs.Parsing.{head_read, head-refused, parsed-known, parsed-read, parsed-again}
use Rattle.read_judge.proofs.parse_lenient.Goals as goal
use Rattle.read_judge.proofs.parse_lenient.Goals.{Else-not-once, Start}

-- the line
abbrev piece : Start → Piece
piece s = record { at = s.args.at; bytes = s.args.line.now }

-- by the strict rule
strictly : (c : Else-not-once) → c.parse_record-head.result ≡ head_of (line true (piece (goal.at.Else-not-once c).Start))
strictly c = c.parse_record-head.ensures ∙ ap (λ s. head_of (line s (piece (goal.at.Else-not-once c).Start))) (not-false _ c.if-not-once.false-raw)

pub returns-then-not-once : goal.returns-then-not-once
returns-then-not-once c =
    parsed-known c.args.once (piece (goal.at.returns-then-not-once c).Start) c.parse_record-head.result (not-true _ c.if-not-once.true-raw) c.parse_record-head.ensures

pub returns-in_default : goal.returns-in_default
returns-in_default c =
    parsed-read c.args.once (piece (goal.at.returns-in_default c).Start) c.parse_record-head.result (not-false _ c.if-not-once.false-raw) c.parse_record-head.ensures
    (head_read (line true (piece (goal.at.returns-in_default c).Start)) (λ n e. c.in_default.not-Refused n (strictly (goal.at.returns-in_default c).Else-not-once ∙ e)))

pub returns : goal.returns
returns c =
    parsed-again c.args.once (piece (goal.at.returns c).Start) c.parse_record.result c.parse_record.ensures (head-refused (line true (piece (goal.at.returns c).Start)) _ (sym (strictly (goal.at.returns c).Else-not-once) ∙ c.in-Refused.is))
