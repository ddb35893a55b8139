-- The answer of the call in the code's numbers, and the result of linking the programs.
use Rattle.std.specs.Prelude.{ℕ, ◌/◌, ◌≡◌, List, map, length, Result, Ok, Err}
use Rattle.format.specs.Programs.{links, programs}
use Rattle.format.specs.Calls.{Answer, refused, yes}
use Rattle.format.specs.declared.Refusal.{Refusal}
use Rattle.program_chains.specs.Parents.{in_array}
use Rattle.program_parents.specs.Parents.{link_number}
use Rattle.carry_early.specs.declared.Begin.{Begin}
use Rattle.carry_passes.specs.From.{lines_kept_from, kept_from}
use Rattle.fault_programs.specs.Plain.{plain_count}
use Rattle.fault_programs.specs.declared.KeptLinks.{KeptLinks}

-- how many lines are faulty, each with two numbers in the table; or a refusal and its line
unfoldable pub faulty_lines : Answer (List ℕ) → Result ℕ Refusal
faulty_lines (refused n l) = Err (record { number = n; line = record { 0 = l } })
faulty_lines (yes xs) = Ok (length xs / 2)

-- the links of the kept programs, and the faults that do not depend on them
pub record IsLinks (t : List ℕ) (b : Begin) (k : KeptLinks) : Type 0 where
  pub parents : k.parents ≡ in_array (map link_number (links (programs (kept_from t b))))
  pub count : k.count ≡ length (programs (kept_from t b))
  pub plain : k.plain ≡ plain_count (lines_kept_from t b)
