-- The number of an answer is 2^63 or more exactly if the call refuses: the calls that were added.
use Prim.Native.Nat.{ℕ, suc, ◌+◌, ◌/◌, ◌^◌, ◌≤◌, ◌<◌}
use mathlib.Core.Path.{◌≡◌, refl, sym, ap, subst, ◌∙◌}
use mathlib.Core.Bool.{Bool, true, false, cond}
use mathlib.Core.List.{List, [], ◌∷◌}
use mathlib.Core.Option.{Option, none, some}
use native.Mathlib.Omega.{arith}
use lib.ListN.{length}
use lib.Dec.{ltb}
use Rattle.format.specs.Records.{Record, key}
use Rattle.format.specs.Reading.{of_kind, longest}
use Rattle.format.specs.Calls.{Answer, refused, yes, then, fresh, there, fitting}
use Rattle.format.specs.Carrying.{carried_lines, rows}
use Rattle.format.specs.Finding.{equals_key, key_ordinal_from, finding}
use Rattle.format.specs.Referencing as table
use Rattle.format.specs.Referencing.{referencing}
use Rattle.format.specs.Faults.{faults_in, faulting}
use Rattle.format.specs.Seal.{checking_sealed}
use Rattle.accepted.specs.Read.{records_of}
use Rattle.lists.proofs.Bools.{never}
use Rattle.accepted.proofs.Text.{text-count, text-fits}
use Rattle.tidy_laws.proofs.Answered.{Gave, then-yes}
use Rattle.read.proofs.Fresh.{Current, passed, goes_on}
use Rattle.read.specs.Answers.{checked_of}
use Rattle.calls.proofs.OwnCatalogue.{there-some}
use Rattle.find.specs.Answers.{find_answer_of}
use Rattle.references.specs.Answers.{row_count_of}
use Rattle.faults.specs.Answers.{faulty_lines}
use Rattle.format.specs.TextLen.{text_len}
use Rattle.text_len.specs.Laws.{Within as WithinBytes}
use Rattle.text_len.proofs.Laws as lens
use Rattle.sam_header_words.specs.Words.{answer_word, checked_word, find_word}
use Rattle.sam_header_laws.specs.Additions.{AdditionsTell}
use Rattle.sam_header_laws.proofs.Within.{Within, fitting-within, cond-within, kind-few}
use Rattle.sam_header_laws.proofs.Tells.{tells, refusal-large}

-- an ordinal is one of as many as there are records
ordinal-few : (i : ℕ) (x : List ℕ) (rs : List Record) (n : ℕ) → key_ordinal_from i x rs ≡ some n → n ≤ i + length rs
unfolding key_ordinal_from
ordinal-few i x [] n e = absurd (never cc)
ordinal-few i x (r ∷ rs) n e = go (equals_key x (key r)) (ordinal-few (i + 1) x rs n) e
  where
    go : (t : Bool) → (key_ordinal_from (i + 1) x rs ≡ some n → n ≤ (i + 1) + length rs) → cond t (some i) (key_ordinal_from (i + 1) x rs) ≡ some n → n ≤ i + suc (length rs)
    go true ih e = let z : i ≡ n = cc in omega (arith, z)
    go false ih e = omega (arith, ih e)

header-short : (t : List ℕ) → text_len t ≤ length t
unfolding WithinBytes
header-short t = lens.within t

module _ (t c : List ℕ) where
  few : Current t c → (k : ℕ) → length (of_kind k (records_of t)) ≤ 16777216
  few own k = omega (arith, kind-few k (records_of t), text-count t (records_of t) own.reads, text-fits t (records_of t) own.reads)

  find-small : (k : ℕ) (x : List ℕ) (n : ℕ) → finding t c k x ≡ yes n → n ≤ 16777216
  unfolding finding
  find-small k x n e =
      let own = passed t c (λ rs. there (key_ordinal_from 0 x (of_kind k rs))) n e in
      let g = goes_on t c (λ rs. there (key_ordinal_from 0 x (of_kind k rs))) own in
      omega (arith, ordinal-few 0 x (of_kind k (records_of t)) n (there-some (key_ordinal_from 0 x (of_kind k (records_of t))) n (sym g ∙ e)), few own k)

  rows-small : (room : ℕ) (a : List ℕ × ℕ) → referencing t c room ≡ yes a → a.1 ≤ 16777216
  unfolding referencing
  rows-small room a e =
      let f : List Record → Answer (List ℕ × ℕ) = λ rs. then (fitting room (table.rows (of_kind 2 rs))) (λ xs. yes (xs, length (of_kind 2 rs))) in
      let own = passed t c f a e in
      let g = then-yes (fitting room (table.rows (of_kind 2 (records_of t)))) (λ xs. yes (xs, length (of_kind 2 (records_of t)))) a (sym (goes_on t c f own) ∙ e) in
      let z : length (of_kind 2 (records_of t)) ≡ a.1 = ap (λ v. answered v) g.second in
      omega (arith, z, few own 2)
    where
      answered : Answer (List ℕ × ℕ) → ℕ
      answered (refused n l) = 0
      answered (yes p) = p.1

  pub additions-tell : AdditionsTell t c
  unfolding find_word find_answer_of answer_word row_count_of faulty_lines checked_word checked_of faulting Within
  additions-tell = record {
    find = λ k x. tells (finding t c k x) (λ a. find_word (find_answer_of a)) refusal-large (λ n e. subst (λ a. find_word (find_answer_of a) < 2 ^ 63) (sym e) (omega (arith, find-small k x n e)));
    references = λ room. tells (referencing t c room) (λ a. answer_word (row_count_of a)) refusal-large (λ p e. subst (λ a. answer_word (row_count_of a) < 2 ^ 63) (sym e) (omega (arith, rows-small room p e)));
    faults = λ room h. tells (faulting t room) (λ a. answer_word (faulty_lines a)) refusal-large
        (λ xs e. subst (λ a. answer_word (faulty_lines a) < 2 ^ 63) (sym e) (omega (arith, h, cond-within room 1 0 (ltb longest (length t)) (fitting room (rows (faults_in (carried_lines t)))) (fitting-within room (rows (faults_in (carried_lines t)))) xs e)));
    sealed = λ seal room. tells (checking_sealed t c seal room) (λ a. checked_word (checked_of a)) refusal-large (λ rs e. subst (λ a. checked_word (checked_of a) < 2 ^ 63) (sym e) (omega arith));
    header = λ h. omega (arith, h, header-short t);
  }
