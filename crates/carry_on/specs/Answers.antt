-- The answer of carrying on in the code's numbers, and what the call leaves in the output and in the table.
use Rattle.std.specs.Prelude.{ℕ, ◌/◌, List, length, Result, Ok, Err}
use Rattle.format.specs.Calls.{Answer, refused, yes}
use Rattle.read.specs.Answers.{output_of}
use Rattle.format.specs.Carrying.{carrying}
use Rattle.format.specs.declared.Refusal.{Refusal}
use Rattle.carry_on.specs.declared.Written.{Written}

-- how many bytes are written and how many lines are skipped, or a refusal and its line; each skipped line has two numbers in the table
unfoldable pub carried_of : Answer (List ℕ × List ℕ) → Result Written Refusal
carried_of (refused n l) = Err (record { number = n; line = record { 0 = l } })
carried_of (yes a) = Ok (record { size = length a.0; skipped = length a.1 / 2 })

-- the tidy text of an answer
unfoldable pub text_of : Answer (List ℕ × List ℕ) → Answer (List ℕ)
text_of (refused n l) = refused n l
text_of (yes a) = yes a.0

-- the table of an answer
unfoldable pub table_of : Answer (List ℕ × List ℕ) → Answer (List ℕ)
table_of (refused n l) = refused n l
table_of (yes a) = yes a.1

-- ---- a call with a text, an output and a table

-- its answer
abbrev pub carried_answer : List ℕ → List ℕ → List ℕ → Result Written Refusal
carried_answer text out table = carried_of (carrying text (length out) (length table))

-- what it leaves in the output: the tidy text at the front; a refusal changes nothing
abbrev pub text_left : List ℕ → List ℕ → List ℕ → List ℕ
text_left text out table = output_of (text_of (carrying text (length out) (length table))) out

-- what it leaves in the table: the rows at the front
abbrev pub table_left : List ℕ → List ℕ → List ℕ → List ℕ
table_left text out table = output_of (table_of (carrying text (length out) (length table))) table
