-- `record_parser::plain::parse_reference` meets its contract: what was recognised whole is what the walk would answer.
use Prim.Native.Nat.{◌+◌}
use mathlib.Core.Path.{sym, ap, ◌∙◌}
use lib.ListN.{drop}
use Rattle.format.specs.Records.{fielded}
use Rattle.format.specs.declared.Kind.TheVariants.{ReferenceSequence}
use Rattle.record.specs.Head.{head_of}
use Rattle.record_parser.specs.Plain.{plain_head}
use Rattle.record_parser.proofs.plain.parse_reference.Goals as goal

pub returns : goal.returns
unfolding plain_head
returns c =
    let a = c.args in
    ap (plain_head a.at (head_of (fielded a.strict ReferenceSequence (a.at + 3) (drop 3 a.src.now)))) (sym c.in-Some.is)
    ∙ c.parse_plain.ensures a.at a.strict
