-- What the first fault must satisfy: of the faults that reading could give, the first is the refusal that reading gives, with its line; and if there
-- is none, reading accepts the records that are kept.
use Rattle.std.specs.Prelude.{ℕ, ◌≤◌, ◌≡◌, Bool, ◌||◌, cond, List, [], ◌∷◌, length, eqb}
use Rattle.format.specs.Calls.{records}
use Rattle.format.specs.Carrying.{kept_of, carried_lines, Skip}
use Rattle.carry_laws.specs.Carried.{unless_skipped}
use Rattle.format.specs.Faults.{faults_in}

-- a PP that names no program, a program that comes back to itself, a name that can't be written: reading accepts such lines
unfoldable pub is_later : ℕ → Bool
is_later n = eqb n 22 || eqb n 23 || eqb n 24

-- the faults that reading could give
unfoldable pub of_reading : List Skip → List Skip
unfolding is_later
of_reading [] = []
of_reading (s ∷ ss) = cond (is_later s.refusal) (of_reading ss) (s ∷ of_reading ss)

pub record FirstFault : Type 0 where
  pub first : (t : List ℕ) → length t ≤ 16777216 → records t ≡ unless_skipped (of_reading (faults_in (carried_lines t))) (kept_of (carried_lines t))
