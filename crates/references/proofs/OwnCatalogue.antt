-- What is answered over a catalogue that is the text's own, and what an answer says and leaves.
use Prim.Native.Nat.{ℕ, suc, ◌+◌, ◌*◌, ◌≤◌, ◌<◌}
use mathlib.Core.Path.{◌≡◌, refl, sym, ap, subst, ◌∙◌}
use mathlib.Core.Bool.{Bool, true, false, cond}
use mathlib.Core.List.{List, [], ◌∷◌, ◌++◌, map}
use native.Mathlib.Omega.{arith}
use lib.ListN.{length, drop}
use lib.Dec.{eqb}
use Rattle.std.specs.Prelude.{Ok, Err}
use Rattle.format.specs.Fields.{Field}
use Rattle.format.specs.Records.{Record, header, reference, group, program, comment, code, others}
use Rattle.format.specs.Reading.{of_kind}
use Rattle.format.specs.Calls.{Answer, refused, yes, then, fitting, fresh}
use Rattle.format.specs.declared.Refusal.{Refusal}
use Rattle.byte_slices.specs.Over.{over}
use Rattle.byte_slices.specs.Stands.{Each}
use Rattle.accepted.specs.Read.{records_of}
use Rattle.accepted.specs.Sound.{Sound, FitsRecord}
use Rattle.accepted.proofs.Text.{text-sound, text-count, text-fits}
use Rattle.catalogue_entries.specs.declared.Entry.{Entry}
use Rattle.catalogue_entries.specs.Entries.{piece_at, head_entry, field_entry, entries_on, entries_of, entries_in, counted}
use Rattle.catalogue_lookup.proofs.Kept.{text-entries, text-counted}
use Rattle.read.specs.Answers.{output_of}
use Rattle.read.proofs.Fresh.{Current, goes_on, stops}
use Rattle.read.proofs.AnswerCases.{too_short, fits}
use Rattle.format.specs.Referencing.{row, rows, referencing}
use Rattle.references.specs.Answers.{row_count_of, numbers_of}
use Rattle.references.specs.Rows.{entry_row, rows_in, ShortLength, RowsFit}

-- ---- the rows that the entries of records say

rows-fields : (fs : List Field) (es : List Entry) → rows_in (map field_entry fs ++ es) ≡ rows_in es
unfolding rows_in entry_row field_entry
rows-fields [] es = refl
rows-fields (f ∷ fs) es = rows-fields fs es

rows_on : (l : ℕ) (rs : List Record) → rows_in (entries_on l rs) ≡ rows (of_kind 2 rs)
unfolding rows_in entry_row piece_at entries_on head_entry others rows row of_kind code
rows_on l [] = refl
rows_on l (header v fs ∷ rs) = rows-fields fs (entries_on (l + 1) rs) ∙ rows_on (l + 1) rs
rows_on l (reference p n fs ∷ rs) = ap (λ xs. p.at ∷ length p.bytes ∷ n ∷ xs) (rows-fields fs (entries_on (l + 1) rs) ∙ rows_on (l + 1) rs)
rows_on l (group p fs ∷ rs) = rows-fields fs (entries_on (l + 1) rs) ∙ rows_on (l + 1) rs
rows_on l (program p fs ∷ rs) = rows-fields fs (entries_on (l + 1) rs) ∙ rows_on (l + 1) rs
rows_on l (comment p ∷ rs) = rows_on (l + 1) rs

short-fields : (fs : List Field) (es : List Entry) → Each ShortLength es → Each ShortLength (map field_entry fs ++ es)
unfolding Each ShortLength field_entry
short-fields [] es h = h
short-fields (f ∷ fs) es h = (tt, short-fields fs es h)

short_on : (l : ℕ) (rs : List Record) → Each Sound rs → Each ShortLength (entries_on l rs)
unfolding Each ShortLength FitsRecord entries_on head_entry others
short_on l [] h = tt
short_on l (header v fs ∷ rs) h = (tt, short-fields fs (entries_on (l + 1) rs) (short_on (l + 1) rs h.1))
short_on l (reference p n fs ∷ rs) h = (omega (arith, h.0.fits.1), short-fields fs (entries_on (l + 1) rs) (short_on (l + 1) rs h.1))
short_on l (group p fs ∷ rs) h = (tt, short-fields fs (entries_on (l + 1) rs) (short_on (l + 1) rs h.1))
short_on l (program p fs ∷ rs) h = (tt, short-fields fs (entries_on (l + 1) rs) (short_on (l + 1) rs h.1))
short_on l (comment p ∷ rs) h = (tt, short_on (l + 1) rs h.1)

-- three numbers for each SQ
rows-three : (rs : List Record) → length (rows (of_kind 2 rs)) ≡ 3 * length (of_kind 2 rs)
unfolding rows row of_kind code
rows-three [] = refl
rows-three (header v fs ∷ rs) = rows-three rs
rows-three (reference p n fs ∷ rs) = omega (arith, rows-three rs)
rows-three (group p fs ∷ rs) = rows-three rs
rows-three (program p fs ∷ rs) = rows-three rs
rows-three (comment p ∷ rs) = rows-three rs

kind-few : (k : ℕ) (rs : List Record) → length (of_kind k rs) ≤ length rs
unfolding of_kind
kind-few k [] = omega arith
kind-few k (r ∷ rs) = go (eqb (code r) k) (kind-few k rs)
  where
    go : (t : Bool) → length (of_kind k rs) ≤ length rs → length (cond t (r ∷ of_kind k rs) (of_kind k rs)) ≤ suc (length rs)
    go true h = omega arith
    go false h = omega arith

-- ---- a refusal of the check

pub rows-refused : (t c : List ℕ) (room n l : ℕ) → fresh t c ≡ refused n l → referencing t c room ≡ refused n l
unfolding referencing
rows-refused t c room n l e = stops t c (λ rs. then (fitting room (rows (of_kind 2 rs))) (λ xs. yes (xs, length (of_kind 2 rs)))) n l e

-- ---- over the text's own catalogue

module _ (t c : List ℕ) (own : Current t c) where
  abbrev rs : List Record
  rs = records_of t

  are : entries_in c ≡ entries_on 0 rs
  unfolding entries_of
  are = ap entries_in own.own ∙ text-entries t rs own.reads

  pub rows_are : rows_in (entries_in c) ≡ rows (of_kind 2 rs)
  rows_are = ap rows_in are ∙ rows_on 0 rs

  pub count-is : counted 2 (entries_in c) ≡ length (of_kind 2 rs)
  count-is = ap (λ s. counted 2 (entries_in s)) own.own ∙ text-counted t rs own.reads 2 (omega arith)

  pub rows-length : length (rows (of_kind 2 rs)) ≡ 3 * counted 2 (entries_in c)
  rows-length = rows-three rs ∙ ap (λ n. 3 * n) (sym count-is)

  pub few : counted 2 (entries_in c) ≤ 16777216
  few = omega (arith, count-is, kind-few 2 rs, text-count t rs own.reads, text-fits t rs own.reads)

  pub rows_fit : (room : ℕ) → 3 * counted 2 (entries_in c) ≤ room → RowsFit (entries_in c) room
  rows_fit room h = record {
    short = subst (Each ShortLength) (sym are) (short_on 0 rs (text-sound t rs own.reads));
    space = omega (arith, ap length rows_are, rows-length, h);
  }

  is : (room : ℕ) → referencing t c room ≡ then (fitting room (rows (of_kind 2 rs))) (λ xs. yes (xs, length (of_kind 2 rs)))
  unfolding referencing
  is room = goes_on t c (λ rs. then (fitting room (rows (of_kind 2 rs))) (λ xs. yes (xs, length (of_kind 2 rs)))) own

  pub rows_short : (room : ℕ) → room < 3 * counted 2 (entries_in c) → referencing t c room ≡ refused 20 0
  unfolding then
  rows_short room h = is room ∙ rw (too_short room (rows (of_kind 2 rs)) (omega (arith, h, rows-length))) refl

  pub rows_all : (room : ℕ) → 3 * counted 2 (entries_in c) ≤ room → referencing t c room ≡ yes (rows (of_kind 2 rs), length (of_kind 2 rs))
  unfolding then
  rows_all room h = is room ∙ rw (fits room (rows (of_kind 2 rs)) (omega (arith, h, rows-length))) refl

-- ---- what an answer says, and leaves in the table

module _ (b : Answer (List ℕ × ℕ)) (table : List ℕ) where
  pub told-refusal : (r : Refusal) → b ≡ refused r.number r.line.0 → (Err r ≡ row_count_of b) × (table ≡ output_of (numbers_of b) table)
  unfolding row_count_of numbers_of output_of
  told-refusal r e = (sym (ap row_count_of e), sym (ap (λ a. output_of (numbers_of a) table) e))

  pub told-answer : (xs : List ℕ) (m : ℕ) → b ≡ yes (xs, m) → (count : ℕ) → count ≡ m → (after : List ℕ) → after ≡ over table 0 xs
      → (Ok count ≡ row_count_of b) × (after ≡ output_of (numbers_of b) table)
  unfolding row_count_of numbers_of output_of over
  told-answer xs m e count n after o =
      let z : 0 + length xs ≡ length xs = omega arith in
      (ap Ok n ∙ sym (ap row_count_of e), o ∙ ap (λ k. xs ++ drop k table) z ∙ sym (ap (λ a. output_of (numbers_of a) table) e))
