-- Which programs pruning refuses: 25 comes before 22 and 23, and these two judge all programs, whichever are in use.
use Rattle.std.specs.Prelude.{ℕ, suc, ◌≡◌, true, false, List, length, leb}
use Rattle.format.specs.Bytes.{any}
use Rattle.format.specs.Records.{Record}
use Rattle.format.specs.Programs.{programs, links, tangled}
use Rattle.format.specs.Calls.{refused, yes, fresh}
use Rattle.format.specs.Prune.{pruning}

-- the laws of a text with the records `rs` and its own catalogue
pub record Refuses (t c us : List ℕ) (room : ℕ) (rs : List Record) : Type 0 where
  -- an ordinal is too high: the answer is 25, whatever the chains are
  pub high : any (leb (length (links (programs rs)))) us ≡ true → pruning t c us room ≡ refused 25 0
  -- a PP names no program or there is a cycle, anywhere in the header: the answer is 22 or 23
  pub tangled : any (leb (length (links (programs rs)))) us ≡ false → (n : ℕ) → tangled (links (programs rs)) ≡ suc n → pruning t c us room ≡ refused (suc n) 0

unfoldable pub AllRefuse : Type 0
unfolding pruning
AllRefuse = (t c us : List ℕ) (room : ℕ) (rs : List Record) → fresh t c ≡ yes rs → Refuses t c us room rs
