-- A step of the walk over SQ entries: the rows from an entry on, and what is written of them.
use Prim.Native.Nat.{ℕ, ◌+◌, ◌≤◌, ◌<◌}
use mathlib.Core.Path.{◌≡◌, refl, sym, ap, subst, ◌∙◌}
use mathlib.Core.Bool.{Bool, true, false, cond}
use mathlib.Core.List.{List, [], ◌∷◌, ◌++◌}
use native.Mathlib.Omega.{arith}
use native.Mathlib.Numerals.{add-one, add-two}
use borrow.Author.Tests.{eqb-false}
use lib.ListN.{length, drop, set}
use lib.Seq.{sets-eq}
use lib.Dec.{eqb}
use Rattle.byte_slices.specs.Over.{over}
use Rattle.byte_slices.specs.Stands.{Each}
use Rattle.byte_slices.proofs.Over.{over_none, over-over}
use Rattle.catalogue_entries.specs.declared.Place.{Place}
use Rattle.catalogue_entries.specs.declared.Entry.{Entry}
use Rattle.catalogue_entries.specs.declared.Entry.TheVariants.{End, Header, ReferenceSequence, ReadGroup, Program, Comment, Field}
use Rattle.catalogue_entries.specs.Entries.{kind_byte, entry_of, entries_in}
use Rattle.catalogue_lookup.specs.Lookup.{entries_from}
use Rattle.name_entries.specs.Next.{next_sq}
use Rattle.name_entries.proofs.NextEntry.{no_more, one_more, sq-within}
use Rattle.references.specs.Rows.{entry_row, rows_in, ShortLength, RowsFit}

-- three stores in a row
pub over-three : (out : List ℕ) (at a b c : ℕ) → at + 3 ≤ length out → set (set (set out at a) (at + 1) b) (at + 2) c ≡ over out at (a ∷ b ∷ c ∷ [])
unfolding over
over-three out at a b c h = rw (add-one at, add-two at) (sets-eq (a ∷ b ∷ c ∷ []) out at h)

-- ---- what comes before the next SQ entry has no row

no_row : (e : Entry) → (kind_byte e ≡ 2 → ⊥) → entry_row e ≡ []
unfolding entry_row kind_byte
no_row End h = refl
no_row (Header v l) h = refl
no_row (ReferenceSequence p n l) h = absurd (h refl)
no_row (ReadGroup p l) h = refl
no_row (Program p l) h = refl
no_row (Comment p l) h = refl
no_row (Field a b p) h = refl

rows-from : (es : List Entry) → rows_in (entries_from 2 0 es) ≡ rows_in es
unfolding rows_in entries_from
rows-from [] = refl
rows-from (e ∷ es) = go (eqb (kind_byte e) 2) refl (rows-from es)
  where
    go : (b : Bool) → eqb (kind_byte e) 2 ≡ b → rows_in (entries_from 2 0 es) ≡ rows_in es → rows_in (cond b (e ∷ es) (entries_from 2 0 es)) ≡ entry_row e ++ rows_in es
    go true q ih = refl
    go false q ih = ih ∙ ap (λ r. r ++ rows_in es) (sym (no_row e (eqb-false (kind_byte e) 2 q)))

short-from : (es : List Entry) → Each ShortLength es → Each ShortLength (entries_from 2 0 es)
unfolding Each entries_from
short-from [] h = tt
short-from (e ∷ es) h = go (eqb (kind_byte e) 2) (short-from es h.1)
  where
    go : (b : Bool) → Each ShortLength (entries_from 2 0 es) → Each ShortLength (cond b (e ∷ es) (entries_from 2 0 es))
    go true ih = h
    go false ih = ih

-- no SQ entry
pub other-kind : (e : Entry) → ((name : Place) (ln line : ℕ) → e ≡ ReferenceSequence name ln line → ⊥) → kind_byte e ≡ 2 → ⊥
unfolding kind_byte
other-kind End h q = omega arith
other-kind (Header v l) h q = omega arith
other-kind (ReferenceSequence p n l) h q = h p n l refl
other-kind (ReadGroup p l) h q = omega arith
other-kind (Program p l) h q = omega arith
other-kind (Comment p l) h q = omega arith
other-kind (Field a b p) h q = omega arith

-- ---- what is still to write

-- from `at` on, to `end` of a table that was `before` at first
pub record Left (c before : List ℕ) (at end : ℕ) (table : List ℕ) : Type 0 where
  pub within : at ≤ length c
  pub same : length table ≡ length before
  pub short : Each ShortLength (entries_in (drop at c))
  pub space : end + length (rows_in (entries_in (drop at c))) ≤ length table
  pub decides : over before 0 (rows_in (entries_in c)) ≡ over table end (rows_in (entries_in (drop at c)))

pub left-all : (c table : List ℕ) → RowsFit (entries_in c) (length table) → Left c table 0 0 table
left-all c table f = record { within = omega arith; same = refl; short = f.short; space = omega (arith, f.space); decides = refl }

-- the walk was at `at`, and `e` is what is at the place of the next SQ entry
module _ (c before : List ℕ) (at end : ℕ) (table : List ℕ) (w : Left c before at end table) (r : ℕ) (is : r ≡ next_sq c at) (e : Entry) (found : e ≡ entry_of (drop r c)) where
  pub left-none : (kind_byte e ≡ 2 → ⊥) → table ≡ over before 0 (rows_in (entries_in c))
  unfolding rows_in
  left-none q =
      let n : rows_in (entries_in (drop at c)) ≡ [] = sym (rows-from (entries_in (drop at c))) ∙ ap rows_in (no_more c at r is e found q) in
      sym (w.decides ∙ ap (over table end) n ∙ over_none table end)

  module _ (name : Place) (ln l : ℕ) (sq : e ≡ ReferenceSequence name ln l) where
    kind : kind_byte e ≡ 2
    unfolding kind_byte
    kind = ap kind_byte sq

    abbrev row : List ℕ
    row = name.at ∷ name.len ∷ ln ∷ []

    abbrev rest : List ℕ
    rest = rows_in (entries_in (drop (r + 21) c))

    opened : entries_from 2 0 (entries_in (drop at c)) ≡ ReferenceSequence name ln l ∷ entries_in (drop (r + 21) c)
    opened = one_more c at r is e found kind ∙ ap (λ x. x ∷ entries_in (drop (r + 21) c)) sq

    rows_next : rows_in (entries_in (drop at c)) ≡ row ++ rest
    unfolding rows_in entry_row
    rows_next = sym (rows-from (entries_in (drop at c))) ∙ ap rows_in opened

    shorts : (ln < 4294967296) × Each ShortLength (entries_in (drop (r + 21) c))
    unfolding Each ShortLength
    shorts = subst (Each ShortLength) opened (short-from (entries_in (drop at c)) w.short)

    pub ln-short : ln < 4294967296
    ln-short = shorts.0

    pub entry-within : r + 21 ≤ length c
    entry-within = sq-within c at r is e found kind

    pub row_room : end + 3 + length rest ≤ length table
    row_room = omega (arith, w.space, ap length rows_next)

    pub left-on : (after : List ℕ) → after ≡ over table end row → length after ≡ length table → Left c before (r + 21) (end + 3) after
    left-on after q n = record {
      within = entry-within;
      same = n ∙ w.same;
      short = shorts.1;
      space = omega (arith, row_room, n);
      decides = w.decides ∙ ap (over table end) rows_next ∙ sym (over-over table end row rest (omega (arith, row_room))) ∙ ap (λ o. over o (end + 3) rest) (sym q);
    }
