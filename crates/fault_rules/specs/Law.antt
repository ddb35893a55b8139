-- What the faults must satisfy: there is none exactly if reading, tidying and the leaves over the catalogue that reading gives all accept, given
-- enough room. Texts of the greatest length are left out: with its last LF the tidy text may be too long.
use Rattle.std.specs.Prelude.{ℕ, ◌≤◌, ◌≡◌, ◌↔◌, List, [], length}
use Rattle.format.specs.Calls.{yes, reading, tidying, leafing}
use Rattle.format.specs.Carrying.{carried_lines}
use Rattle.format.specs.Faults.{faults_in}

-- the three calls accept if they have as much room as they need
pub record AllAccept (t : List ℕ) : Type 0 where
  pub room : ℕ
  pub kept : List ℕ
  pub reads : reading t room ≡ yes kept
  pub tidied : List ℕ
  pub tidies : tidying t room ≡ yes tidied
  pub found : List ℕ × ℕ
  pub leaves : leafing t kept room ≡ yes found

pub record FaultsTell : Type 0 where
  pub none : (t : List ℕ) → length t ≤ 16777215 → (faults_in (carried_lines t) ≡ []) ↔ AllAccept t
