-- A merge is accepted exactly if the conditions of document 02 hold, and each number is given exactly if its condition is the first that fails.
use Rattle.std.specs.Prelude.{ℕ, ◌≡◌, ◌↔◌, ◌⊎◌, List, [], ◌∷◌, length}
use Rattle.std.proofs.Math.Option.{Option, none, some}
use Rattle.format.specs.Records.{Record}
use Rattle.format.specs.Programs.{programs}
use Rattle.format.specs.References.{sq_list}
use Rattle.format.specs.Calls.{Answer, refused, yes, records}
use Rattle.format.specs.Merge.{Which, text_a, text_b, text_merged, Verdict, merged, unfit, unmerged, untangled_records, judging_merge}
use Rattle.accepted.specs.Read.{records_of}
use Rattle.merge_laws.specs.Fit.{Fits}
use Rattle.merge_laws.specs.IsMerge.{Joins, Lists, Images, IsMerge}

-- the conditions one by one, for three texts
unfoldable pub JoinsTexts : List ℕ → List ℕ → List ℕ → Type 0
unfolding sq_list records_of
JoinsTexts a b m = Joins (sq_list (records_of a)) (sq_list (records_of b)) (sq_list (records_of m))

unfoldable pub ListsTexts : List ℕ → List ℕ → List ℕ → List ℕ → List ℕ → Type 0
unfolding programs records_of
ListsTexts a b m list_a list_b =
    Lists (length (programs (records_of a))) (length (programs (records_of b))) (length (programs (records_of m))) list_a list_b

unfoldable pub ImagesTexts : List ℕ → List ℕ → List ℕ → List ℕ → List ℕ → Type 0
unfolding Images records_of
ImagesTexts a b m list_a list_b = Images (records_of a) (records_of m) list_a × Images (records_of b) (records_of m) list_b

-- what the texts must satisfy, in the order of document 02: reading accepts each, then no PP dangles and no program comes back to itself
unfoldable pub text_checks : List ℕ → List ℕ → List ℕ → List (Which × Answer (List Record))
unfolding records untangled_records records_of
text_checks a b m =
    (text_a, records a) ∷ (text_b, records b) ∷ (text_merged, records m) ∷ (text_a, untangled_records (records_of a))
    ∷ (text_b, untangled_records (records_of b)) ∷ (text_merged, untangled_records (records_of m)) ∷ []

unfoldable pub first_refusal : List (Which × Answer (List Record)) → Option Verdict
first_refusal [] = none
first_refusal ((w, refused n l) ∷ cs) = some (unfit w n l)
first_refusal ((w, yes rs) ∷ cs) = first_refusal cs

-- the verdict on three texts and two lists
pub record Exactly (a b m list_a list_b : List ℕ) (v : Verdict) : Type 0 where
  pub accepted : (v ≡ merged) ↔ (Fits a b m × IsMerge (records_of a) (records_of b) (records_of m) list_a list_b)
  -- a refusal because of one of the texts is the first one, and there is one exactly if not all three are fit
  pub unfitted : (w : Which) (n l : ℕ) → (v ≡ unfit w n l) ↔ (first_refusal (text_checks a b m) ≡ some (unfit w n l))
  pub fitted : (first_refusal (text_checks a b m) ≡ none) ↔ Fits a b m
  pub number30 : (v ≡ unmerged 30) ↔ (Fits a b m × (JoinsTexts a b m → ⊥))
  pub number31 : (v ≡ unmerged 31) ↔ (Fits a b m × JoinsTexts a b m × (ListsTexts a b m list_a list_b → ⊥))
  pub number32 : (v ≡ unmerged 32)
      ↔ (Fits a b m × JoinsTexts a b m × ListsTexts a b m list_a list_b × (ImagesTexts a b m list_a list_b → ⊥))
  -- no other number is given
  pub numbers : (n : ℕ) → v ≡ unmerged n → (n ≡ 30) ⊎ (n ≡ 31) ⊎ (n ≡ 32)

-- the law, for all texts and lists
unfoldable pub AllExactly : Type 0
unfolding judging_merge
AllExactly = (a b m list_a list_b : List ℕ) → Exactly a b m list_a list_b (judging_merge a b m list_a list_b)
