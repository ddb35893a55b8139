-- In C an answer is one number, which is 2^63 or more exactly if the call refuses. `room` is the size of an output; like the length of any slice it
-- is below 2^63.
use Rattle.std.specs.Prelude.{ℕ, ◌^◌, ◌≤◌, ◌<◌, ◌≡◌, List}
use Rattle.format.specs.Calls.{Answer, refused, yes, reading, fresh, tidying, counting, keying, sizing, locating, rooting, leafing, adding}
use Rattle.format.specs.Prune.{pruning}
use Rattle.format.specs.Table.{leafing_table}
use Rattle.format.specs.Merge.{merged, judging_merge}
use Rattle.format.specs.Carrying.{carrying}
use Rattle.format.specs.Binary.{binary_out, binary_in}
use Rattle.format.specs.Batch.{batching}
use Rattle.names.specs.Answers.{names_of}
use Rattle.read.specs.Answers.{answer_of, checked_of}
use Rattle.calls.specs.Answers.{count_of, key_answer_of, length_answer_of, line_answer_of}
use Rattle.programs.specs.Answers.{leaves_answer_of}
use Rattle.programs_by_table.specs.Answers.{without_table}
use Rattle.carry_on.specs.Answers.{carried_of}
use Rattle.merge_judge.specs.Judged.{verdict_of}
use Rattle.sam_header_words.specs.Words.{answer_word, checked_word, carried_word, leaves_word, key_word, length_word, line_word, names_word, verdict_word}

-- the number of an answer shows whether it is a refusal
pub record Tells {A : Type 0} (a : Answer A) (word : ℕ) : Type 0 where
  pub refusal : (n l : ℕ) → a ≡ refused n l → 2 ^ 63 ≤ word
  pub answer : (x : A) → a ≡ yes x → word < 2 ^ 63

-- the calls that write bytes or ordinals
pub record WritingTells (t c used : List ℕ) (room : ℕ) : Type 0 where
  pub read : Tells (reading t room) (answer_word (answer_of (reading t room)))
  pub tidy : Tells (tidying t room) (answer_word (answer_of (tidying t room)))
  pub outwards : Tells (binary_out t room) (answer_word (answer_of (binary_out t room)))
  pub inwards : Tells (binary_in t room) (answer_word (answer_of (binary_in t room)))
  pub roots : Tells (rooting t c room) (answer_word (answer_of (rooting t c room)))
  pub add : (prefix fields : List ℕ) → Tells (adding t c prefix fields room) (answer_word (answer_of (adding t c prefix fields room)))
  pub prune : Tells (pruning t c used room) (answer_word (answer_of (pruning t c used room)))

-- the calls whose answers have numbers of their own
pub record NumbersTell (t c : List ℕ) : Type 0 where
  pub check : Tells (fresh t c) (checked_word (checked_of (fresh t c)))
  pub count : (k : ℕ) → Tells (counting t c k) (answer_word (count_of (counting t c k)))
  pub key : (k i : ℕ) → Tells (keying t c k i) (key_word (key_answer_of (keying t c k i)))
  pub length : (i : ℕ) → Tells (sizing t c i) (length_word (length_answer_of (sizing t c i)))
  pub line : (k i : ℕ) → Tells (locating t c k i) (line_word (line_answer_of (locating t c k i)))
  pub leaves : (room : ℕ) → Tells (leafing t c room) (leaves_word (leaves_answer_of (leafing t c room)))
  pub table : (room seats : ℕ) → Tells (leafing_table t c room seats) (leaves_word (leaves_answer_of (without_table (leafing_table t c room seats))))
  pub carried : (room table : ℕ) → Tells (carrying t room table) (carried_word (carried_of (carrying t room table)))
  pub names : (list : List ℕ) (work room : ℕ) → Tells (batching t c list work room) (names_word (names_of (batching t c list work room)))

-- a verdict is 0 exactly if the merge is accepted, and otherwise a refusal
pub record VerdictTells (a b m list_a list_b : List ℕ) : Type 0 where
  pub accepted : judging_merge a b m list_a list_b ≡ merged → verdict_word (verdict_of (judging_merge a b m list_a list_b)) ≡ 0
  pub refused : (judging_merge a b m list_a list_b ≡ merged → ⊥) → 2 ^ 63 ≤ verdict_word (verdict_of (judging_merge a b m list_a list_b))
