-- A catalogue is the bytes of its records' entries.
use Prim.Native.Nat.{ℕ, suc, ◌+◌, ◌<◌}
use mathlib.Core.Path.{◌≡◌, refl, sym, ap, ap₂, ◌∙◌}
use mathlib.Core.Bool.{Bool, true, false, cond}
use mathlib.Core.List.{List, [], ◌∷◌, ◌++◌, map, append_assoc}
use native.Mathlib.Omega.{arith}
use lib.ListN.{length}
use lib.Dec.{eqb}
use borrow.Author.Tests.{ne_eqb}
use Rattle.format.specs.Fields as fields
use Rattle.format.specs.Records.{Record, header, reference, group, program, comment, code, others}
use Rattle.format.specs.Reading.{of_kind}
use Rattle.format.specs.Catalogue.{little, head, tails, catalogue_from, catalogue}
use Rattle.catalogue_entries.specs.declared.Entry.{Entry}
use Rattle.catalogue_entries.specs.Entries.{kind_byte, entry_bytes, entries_bytes, head_entry, field_entry, entries_on, entries_of, counted}

pub bytes-append : (xs ys : List Entry) → entries_bytes (xs ++ ys) ≡ entries_bytes xs ++ entries_bytes ys
unfolding entries_bytes
bytes-append [] ys = refl
bytes-append (e ∷ xs) ys = rw (bytes-append xs ys, append_assoc (entry_bytes e) (entries_bytes xs) (entries_bytes ys)) refl

head-entry : (l : ℕ) (r : Record) → head r ++ little 4 l ≡ entry_bytes (head_entry l r)
unfolding head head_entry entry_bytes
head-entry l (header v fs) = refl
head-entry l (reference p n fs) = refl
head-entry l (group p fs) = refl
head-entry l (program p fs) = refl
head-entry l (comment p) = refl

tails-entries : (fs : List fields.Field) → tails fs ≡ entries_bytes (map field_entry fs)
unfolding tails entries_bytes entry_bytes field_entry
tails-entries [] = refl
tails-entries (f ∷ fs) = ap (λ t. entry_bytes (field_entry f) ++ t) (tails-entries fs)

-- a record's own entry and those of its other fields, and then the others
from_cons : (l : ℕ) (r : Record) (rs : List Record) → catalogue_from l (r ∷ rs) ≡ (head r ++ little 4 l) ++ (tails (others r) ++ catalogue_from (l + 1) rs)
unfolding catalogue_from
from_cons l r rs = append_assoc (head r ++ little 4 l) (tails (others r)) (catalogue_from (l + 1) rs)

from_entries : (l : ℕ) (rs : List Record) → catalogue_from l rs ≡ entries_bytes (entries_on l rs)
unfolding catalogue_from entries_on entries_bytes
from_entries l [] = refl
from_entries l (r ∷ rs) =
    let es : List Entry = map field_entry (others r) in
    let rest : tails (others r) ++ catalogue_from (l + 1) rs ≡ entries_bytes (es ++ entries_on (l + 1) rs) =
    ap₂ (λ x y. x ++ y) (tails-entries (others r)) (from_entries (l + 1) rs) ∙ sym (bytes-append es (entries_on (l + 1) rs)) in
    from_cons l r rs ∙ ap₂ (λ x y. x ++ y) (head-entry l r) rest

pub catalogue-entries : (rs : List Record) → catalogue rs ≡ entries_bytes (entries_of rs)
unfolding catalogue entries_of
catalogue-entries rs = from_entries 0 rs

-- ---- how many of a kind

pub head-kind : (l : ℕ) (r : Record) → kind_byte (head_entry l r) ≡ code r
unfolding kind_byte head_entry code
head-kind l (header v fs) = refl
head-kind l (reference p n fs) = refl
head-kind l (group p fs) = refl
head-kind l (program p fs) = refl
head-kind l (comment p) = refl

-- no field entry is of a record's kind
counted-fields : (k : ℕ) → k < 6 → (fs : List fields.Field) (es : List Entry) → counted k (map field_entry fs ++ es) ≡ counted k es
unfolding counted kind_byte field_entry
counted-fields k h [] es = refl
counted-fields k h (f ∷ fs) es =
    let n : 6 ≡ k → ⊥ = λ e. omega arith in
    rw (ne_eqb 6 k n) (counted-fields k h fs es)

counted-on : (k : ℕ) → k < 6 → (l : ℕ) (rs : List Record) → counted k (entries_on l rs) ≡ length (of_kind k rs)
unfolding counted entries_on of_kind
counted-on k h l [] = refl
counted-on k h l (r ∷ rs) =
    rw (counted-fields k h (others r) (entries_on (l + 1) rs), head-kind l r, counted-on k h (l + 1) rs) (go (eqb (code r) k))
  where
    go : (t : Bool) → cond t (suc (length (of_kind k rs))) (length (of_kind k rs)) ≡ length (cond t (r ∷ of_kind k rs) (of_kind k rs))
    go true = refl
    go false = refl

pub counted-records : (k : ℕ) → k < 6 → (rs : List Record) → counted k (entries_of rs) ≡ length (of_kind k rs)
unfolding entries_of
counted-records k h rs = counted-on k h 0 rs
