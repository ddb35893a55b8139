-- The same laws for the calls that were added later: the number of an answer is 2^63 or more exactly if the call refuses.
use Rattle.std.specs.Prelude.{ℕ, ◌^◌, ◌≤◌, ◌<◌, List, length}
use Rattle.format.specs.Finding.{finding}
use Rattle.format.specs.Referencing.{referencing}
use Rattle.format.specs.Faults.{faulting}
use Rattle.format.specs.Seal.{checking_sealed}
use Rattle.format.specs.TextLen.{text_len}
use Rattle.find.specs.Answers.{find_answer_of}
use Rattle.references.specs.Answers.{row_count_of}
use Rattle.faults.specs.Answers.{faulty_lines}
use Rattle.read.specs.Answers.{checked_of}
use Rattle.sam_header_words.specs.Words.{answer_word, checked_word, find_word}
use Rattle.sam_header_laws.specs.Tells.{Tells}

pub record AdditionsTell (t c : List ℕ) : Type 0 where
  pub find : (k : ℕ) (x : List ℕ) → Tells (finding t c k x) (find_word (find_answer_of (finding t c k x)))
  pub references : (room : ℕ) → Tells (referencing t c room) (answer_word (row_count_of (referencing t c room)))
  pub faults : (room : ℕ) → room < 2 ^ 63 → Tells (faulting t room) (answer_word (faulty_lines (faulting t room)))
  pub sealed : (seal : List ℕ) (room : ℕ) → Tells (checking_sealed t c seal room) (checked_word (checked_of (checking_sealed t c seal room)))
  -- this call never refuses
  pub header : length t < 2 ^ 63 → text_len t < 2 ^ 63
