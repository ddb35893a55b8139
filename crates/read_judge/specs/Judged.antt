-- The answer of judging a text.
use Rattle.std.specs.Prelude.{ℕ, Bool, List, [], length, Result, Ok, Err}
use Rattle.format.specs.Lines.{lines}
use Rattle.format.specs.Reading.{Reading, refused_text, accept, read_from, read_text}
use Rattle.format.specs.Catalogue.{catalogue}
use Rattle.accepted_rule.specs.Rule.{is_once}
use Rattle.format.specs.declared.Refusal.{Refusal}
use Rattle.read_judge.specs.declared.Accepted.{Accepted}

-- the first refusal and its line; or how long the catalogue is, and whether no tag is repeated
unfoldable pub judged_of : Bool → Reading → Result Accepted Refusal
unfolding catalogue
judged_of once (refused_text n l) = Err (record { number = n; line = record { 0 = l } })
judged_of once (accept rs) = Ok (record { size = length (catalogue rs); once = once })

-- the lines of a text by a rule for repeated tags
unfoldable pub judged_by : Bool → List ℕ → Result Accepted Refusal
unfolding judged_of is_once read_from lines
judged_by strict t = judged_of (is_once t) (read_from strict 0 [] (lines t))

-- the text, by its own rule
unfoldable pub judgement : List ℕ → Result Accepted Refusal
unfolding judged_of is_once read_text
judgement t = judged_of (is_once t) (read_text t)
