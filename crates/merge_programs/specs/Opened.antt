-- What is known of an accepted text.
use Rattle.std.specs.Prelude.{ℕ, ◌≡◌, true, Ok, List}
use Rattle.format.specs.Reading.{read_text}
use Rattle.format.specs.Programs.{programs, links}
use Rattle.accepted.specs.Read.{is_accepted, records_of}
use Rattle.accepted_rule.specs.Rule.{ReadsBy}
use Rattle.program_lines.specs.Found.{pg_from, lines_of}
use Rattle.program_parents.specs.Parents.{parents_of, tangle_of}
use Rattle.merge_programs.specs.declared.Opened.{Opened}

pub record IsOpened (t : List ℕ) (o : Opened) : Type 0 where
  pub accepted : is_accepted (read_text t) ≡ true
  pub rule : ReadsBy o.strict t
  pub refusal : o.tangle ≡ tangle_of (links (programs (records_of t)))
  pub lines_are : o.lines ≡ lines_of (pg_from t 0)
  pub parents-are : o.parents ≡ parents_of (links (programs (records_of t)))

-- no PP dangles and there is no cycle
pub record Untangled (t : List ℕ) (o : Opened) : Type 0 where
  pub is : IsOpened t o
  pub none : o.tangle ≡ Ok tt
