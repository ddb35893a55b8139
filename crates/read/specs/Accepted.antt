-- An accepted text.
use Rattle.std.specs.Prelude.{◌≡◌, Bool, List, ℕ}
use Rattle.format.specs.Reading.{accept, read_text}
use Rattle.accepted.specs.Read.{records_of}
use Rattle.accepted_rule.specs.Rule.{ReadsBy}

-- reading accepts `t`, whose lines read the same by the rule `strict` for repeated tags
pub record AcceptedText (strict : Bool) (t : List ℕ) : Type 0 where
  pub rule : ReadsBy strict t
  pub reads : read_text t ≡ accept (records_of t)
