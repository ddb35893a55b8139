-- What an accepted add writes: the tidy text of the old records with the new programs after them. Reading accepts it and finds these records.
use Rattle.std.specs.Prelude.{ℕ, ◌≡◌, List, ◌++◌}
use Rattle.format.specs.Records.{Record}
use Rattle.format.specs.Programs.{programs}
use Rattle.format.specs.Tidy.{tidy}
use Rattle.format.specs.Adding.{given, added}
use Rattle.format.specs.Calls.{yes, records, adding}
use Rattle.accepted.specs.Read.{records_of}
use Rattle.tidy_laws.specs.Faithful.{Holds}

-- the records of a text, and the programs that are added to them
unfoldable pub extended : List ℕ → List ℕ → List ℕ → List Record
unfolding records_of added given programs
extended text prefix fields = records_of text ++ added prefix (given fields).fields (programs (records_of text))

pub record Extended (text prefix fields out : List ℕ) : Type 0 where
  -- the text was accepted
  pub accepted : records text ≡ yes (records_of text)
  pub written : out ≡ tidy (extended text prefix fields)
  -- the new text reads back as these records, and tidying it changes nothing
  pub holds : Holds (extended text prefix fields)

-- the law of every add that is answered
unfoldable pub AllExtended : Type 0
unfolding adding
AllExtended = (text c prefix fields : List ℕ) (room : ℕ) (out : List ℕ) → adding text c prefix fields room ≡ yes out → Extended text prefix fields out
