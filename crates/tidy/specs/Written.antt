-- Tidying of a text that is accepted.
use Rattle.std.specs.Prelude.{ℕ, Bool, List}
use Rattle.format.specs.Tidy.{tidy, unwritable}
use Rattle.format.specs.Calls.{Answer, writing}
use Rattle.accepted.specs.Read.{records_of}
use Rattle.tidy_text.specs.Sifted.{is_marked, sifted}

-- the tidy text of its records is written, or the refusal: 24, 1, 20
abbrev pub writing_tidy : List ℕ → ℕ → Answer (List ℕ)
writing_tidy t room = writing room (unwritable 0 (records_of t)) (tidy (records_of t))

-- the same without the programs whose mark is false
abbrev pub writing_marked : List ℕ → List Bool → ℕ → Answer (List ℕ)
writing_marked t marks room = writing room (unwritable 0 (records_of t)) (tidy (sifted (is_marked marks) 0 (records_of t)))
