-- What a batch answers over a catalogue that is the text's own, and what an answer says and leaves.
use Prim.Native.Nat.{ℕ, ◌≤◌, ◌<◌}
use mathlib.Core.Path.{◌≡◌, refl, sym, ap, subst, ◌∙◌}
use mathlib.Core.List.{List, ◌++◌, map}
use native.Mathlib.Omega.{arith}
use lib.ListN.{length, drop, length-map}
use borrow.Author.Tests.{lt-ltb, le-ltb}
use Rattle.std.specs.Prelude.{Result, Ok, Err}
use Rattle.format.specs.Reading.{longest}
use Rattle.format.specs.Calls.{Answer, refused, yes, then, fresh}
use Rattle.byte_slices.specs.Stands.{Each}
use Rattle.format.specs.declared.Refusal.{Refusal}
use Rattle.accepted.specs.Read.{records_of}
use Rattle.catalogue_entries.specs.Entries.{entries_in, counted}
use Rattle.read.specs.Answers.{output_of}
use Rattle.read.proofs.Fresh.{Current, goes_on, stops}
use Rattle.read.proofs.AnswerCases.{too_short, fits}
use Rattle.format.specs.NameIndex.{name_ordinal, slot_count, index, looks}
use Rattle.name_index.proofs.Indexed.{index-length}
use Rattle.name_entries.specs.Names.{names_in}
use Rattle.names.specs.NameEnds.{Told}
use Rattle.name_entries.proofs.Names.{names-counted}
use Rattle.format.specs.Asked.{asked}
use Rattle.format.specs.Summed.{summed}
use Rattle.format.specs.Batch.{references, batched, batching}
use Rattle.names.specs.declared.Counted.{Counted}
use Rattle.names.specs.Answers.{names_of, results_of, slots_of}
use Rattle.names.proofs.References.{text-names, few-names}
use Rattle.names.proofs.NameEnds.{text-told}
use Rattle.names.proofs.Short.{text-short}

-- a refusal of the check
pub batch-refused : (t c list : List ℕ) (work room n l : ℕ) → fresh t c ≡ refused n l → batching t c list work room ≡ refused n l
unfolding batching
batch-refused t c list work room n l e = stops t c (λ rs. batched (references rs) list work room) n l e

-- ---- over the text's own catalogue

module _ (t c : List ℕ) (own : Current t c) where
  abbrev names : List (List ℕ)
  names = names_in t (entries_in c)

  are : names ≡ references (records_of t)
  are = ap (λ s. names_in t (entries_in s)) own.own ∙ text-names t (records_of t) own.reads

  pub few : length names ≤ 16777216
  few = omega (arith, ap length are, few-names t (records_of t) own.reads)

  pub short : length c ≤ 4294967294
  short = omega (arith, ap length own.own, text-short t (records_of t) own.reads)

  pub told : Each (Told t) (entries_in c)
  told = subst (λ s. Each (Told t) (entries_in s)) (sym own.own) (text-told t (records_of t) own.reads)

  pub many : counted 2 (entries_in c) ≡ length names
  many = sym (names-counted t (entries_in c))

  module _ (list : List ℕ) (work room : ℕ) where
    is-batched : batching t c list work room ≡ batched names list work room
    unfolding batching
    is-batched = goes_on t c (λ rs. batched (references rs) list work room) own ∙ ap (λ xs. batched xs list work room) (sym are)

    pub batch-long : 16777216 < length list → batching t c list work room ≡ refused 1 0
    unfolding batched longest
    batch-long h = is-batched ∙ rw (lt-ltb 16777216 (length list) h) refl

    module _ (h : length list ≤ 16777216) where
      pub batch-work : work < slot_count (length names) → batching t c list work room ≡ refused 20 0
      unfolding batched longest then
      batch-work l = is-batched ∙ rw (le-ltb 16777216 (length list) h, too_short work (index names) (omega (arith, l, index-length names))) refl

      module _ (w : slot_count (length names) ≤ work) where
        pub batch-room : room < length (asked list) → batching t c list work room ≡ refused 20 0
        unfolding batched longest then
        batch-room l =
            is-batched
            ∙ rw (
              le-ltb 16777216 (length list) h,
              fits work (index names) (omega (arith, w, index-length names)),
              too_short room (map (name_ordinal names) (asked list)) (omega (arith, l, length-map (asked list) (name_ordinal names))),
            ) refl

        pub batch-all : length (asked list) ≤ room → batching t c list work room ≡ yes (map (name_ordinal names) (asked list), index names, summed (looks names) (asked list))
        unfolding batched longest then
        batch-all l =
            is-batched
            ∙ rw (
              le-ltb 16777216 (length list) h,
              fits work (index names) (omega (arith, w, index-length names)),
              fits room (map (name_ordinal names) (asked list)) (omega (arith, l, length-map (asked list) (name_ordinal names))),
            ) refl

-- ---- what an answer says, and leaves in the work area and in the result list

module _ (b : Answer (List ℕ × List ℕ × ℕ)) (work out : List ℕ) where
  pub told-refusal : (r : Refusal) → b ≡ refused r.number r.line.0 → (Err r ≡ names_of b) × ((work ≡ output_of (slots_of b) work) × (out ≡ output_of (results_of b) out))
  unfolding names_of slots_of results_of output_of
  told-refusal r e = (sym (ap names_of e), (sym (ap (λ a. output_of (slots_of a) work) e), sym (ap (λ a. output_of (results_of a) out) e)))

  pub told-answer : (found slots : List ℕ) (looks : ℕ) → b ≡ yes (found, slots, looks) → (count : ℕ) → count ≡ length found → (sum : ℕ) → sum ≡ looks
      → (work₁ out₁ : List ℕ) → work₁ ≡ slots ++ drop (length slots) work → out₁ ≡ found ++ drop (length found) out
      → (◌≡◌ {A = Result Counted Refusal} (Ok (record { names = count; looks = sum })) (names_of b)) × ((work₁ ≡ output_of (slots_of b) work) × (out₁ ≡ output_of (results_of b) out))
  unfolding names_of slots_of results_of output_of
  told-answer found slots looks e count n sum m work₁ out₁ w o =
      (rw (n, m) (sym (ap names_of e)), (w ∙ sym (ap (λ a. output_of (slots_of a) work) e), o ∙ sym (ap (λ a. output_of (results_of a) out) e)))
