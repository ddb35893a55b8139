-- What is in the text that pruning answers: all records of the other kinds, and the programs that are needed, in the old order.
use Rattle.std.specs.Prelude.{ℕ, ◌≡◌, List}
use Rattle.format.specs.Records.{Record}
use Rattle.format.specs.Programs.{programs, links}
use Rattle.format.specs.Calls.{yes, records, fitting, tidying}
use Rattle.accepted.specs.Read.{records_of}
use Rattle.tidy_laws.specs.Bare.{bares}
use Rattle.format.specs.Prune.{is_needed, chosen, pruning}

-- `out` is the text `t` with only the programs `us` and their ancestors; where a key or a value is in the text does not count
pub record Left (t us out : List ℕ) : Type 0 where
  -- it is accepted
  pub found : List Record
  pub accepted : records out ≡ yes found
  -- nothing else is changed
  pub hd : bares 1 found ≡ bares 1 (records_of t)
  pub sq : bares 2 found ≡ bares 2 (records_of t)
  pub rg : bares 3 found ≡ bares 3 (records_of t)
  pub co : bares 5 found ≡ bares 5 (records_of t)
  -- the programs that are needed
  pub pg : bares 4 found ≡ chosen (is_needed (links (programs (records_of t))) us) 0 (bares 4 (records_of t))
  -- tidying it changes nothing
  pub tidied : (room : ℕ) → tidying out room ≡ fitting room out

-- the law of every text that pruning answers
unfoldable pub AllLeft : Type 0
unfolding pruning
AllLeft = (t c us : List ℕ) (room : ℕ) (out : List ℕ) → pruning t c us room ≡ yes out → Left t us out
