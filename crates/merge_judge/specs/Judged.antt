-- The answer as the code gives it, and the steps of the definition.
use Rattle.std.specs.Prelude.{ℕ, List, ⊤, Result, Ok, Err}
use Rattle.format.specs.Records.{Record}
use Rattle.format.specs.Calls.{records}
use Rattle.format.specs.Merge as merge
use Rattle.format.specs.Merge.{about, text_a, text_b, text_merged, untangled_records, judged_merge}
use Rattle.merge_judge.specs.declared.Which.{Which}
use Rattle.merge_judge.specs.declared.Which.TheVariants.{A, B, Merged}
use Rattle.merge_judge.specs.declared.MergeRefusal.{MergeRefusal}
use Rattle.merge_judge.specs.declared.MergeRefusal.TheVariants.{Unfit, Unmerged}

-- which text, and the verdict with its number and line
unfoldable pub which_of : merge.Which → Which
which_of merge.text_a = A
which_of merge.text_b = B
which_of merge.text_merged = Merged

unfoldable pub verdict_of : merge.Verdict → Result ⊤ MergeRefusal
unfolding which_of
verdict_of merge.merged = Ok tt
verdict_of (merge.unfit w n l) = Err (Unfit (which_of w) (record { number = n; line = record { 0 = l } }))
verdict_of (merge.unmerged n) = Err (Unmerged n)

-- ---- the steps of the definition

-- 22 and 23 for each
unfoldable pub untangling : List Record → List Record → List Record → List ℕ → List ℕ → merge.Verdict
unfolding about untangled_records judged_merge
untangling a b m list_a list_b =
    about text_a (untangled_records a) (λ a. about text_b (untangled_records b) (λ b. about text_merged (untangled_records m) (λ m. judged_merge a b m list_a list_b)))

-- the merged text is still to be read
unfoldable pub after_second : List Record → List Record → List ℕ → List ℕ → List ℕ → merge.Verdict
unfolding about records untangling
after_second a b m list_a list_b = about text_merged (records m) (λ m. untangling a b m list_a list_b)

-- B is still to be read too
unfoldable pub after_first : List Record → List ℕ → List ℕ → List ℕ → List ℕ → merge.Verdict
unfolding about records after_second
after_first a b m list_a list_b = about text_b (records b) (λ b. after_second a b m list_a list_b)
