-- The catalogue of records, one record at a time, and how long a record's bytes are.
use Prim.Native.Nat.{ℕ, ◌+◌, ◌*◌}
use mathlib.Core.Path.{◌≡◌, refl, sym, ap, ◌∙◌}
use mathlib.Core.List.{List, [], ◌∷◌, ◌++◌, append_assoc, append-nil}
use native.Mathlib.Omega.{arith}
use lib.ListN.{length, length-append}
use Rattle.format.specs.Fields as fields
use Rattle.format.specs.Records.{Record, header, reference, group, program, comment, others, Line, refused_line, read}
use Rattle.format.specs.Catalogue.{little, place, head, tails, catalogue_from, catalogue}
use Rattle.record.specs.Head.{stretch_of, record_head, head_of}
use Rattle.catalogue_entries.specs.Entries.{kind_byte, kind_size, entry_size, place_bytes, entry_bytes, piece_at, head_entry, field_entry}
use Rattle.catalogue_entries.proofs.Written.{entry_length_lem}
use Rattle.catalogue_lines.specs.Line.{record_bytes}
use Rattle.catalogue_lines.specs.Parts.{own_entry, others_of, size_of_head}

-- ---- record by record

pub from_cons : (l : ℕ) (r : Record) (rs : List Record) → catalogue_from l (r ∷ rs) ≡ record_bytes l (read r) ++ catalogue_from (l + 1) rs
unfolding catalogue_from record_bytes
from_cons l r rs = refl

from-append : (l : ℕ) (rs qs : List Record) → catalogue_from l (rs ++ qs) ≡ catalogue_from l rs ++ catalogue_from (l + length rs) qs
unfolding catalogue_from
from-append l [] qs = let e : l ≡ l + 0 = omega arith in ap (λ n. catalogue_from n qs) e
from-append l (r ∷ rs) qs =
    let e : l + 1 + length rs ≡ l + length (r ∷ rs) = omega arith in
    from_cons l r (rs ++ qs)
    ∙ ap (λ x. record_bytes l (read r) ++ x) (from-append (l + 1) rs qs ∙ ap (λ n. catalogue_from (l + 1) rs ++ catalogue_from n qs) e)
    ∙ sym (append_assoc (record_bytes l (read r)) (catalogue_from (l + 1) rs) (catalogue_from (l + length (r ∷ rs)) qs))
    ∙ ap (λ x. x ++ catalogue_from (l + length (r ∷ rs)) qs) (sym (from_cons l r rs))

-- the next record is on the line that has as many before it as there are records
pub catalogue-append : (rs qs : List Record) → catalogue (rs ++ qs) ≡ catalogue rs ++ catalogue_from (length rs) qs
unfolding catalogue
catalogue-append rs qs = let e : 0 + length rs ≡ length rs = omega arith in from-append 0 rs qs ∙ ap (λ n. catalogue_from 0 rs ++ catalogue_from n qs) e

pub catalogue-more : (rs : List Record) (r : Record) → catalogue (rs ++ (r ∷ [])) ≡ catalogue rs ++ record_bytes (length rs) (read r)
unfolding catalogue_from
catalogue-more rs r = catalogue-append rs (r ∷ []) ∙ ap (λ l. catalogue rs ++ l) (from_cons (length rs) r [] ∙ append-nil (record_bytes (length rs) (read r)))

pub catalogue-length : (rs : List Record) (r : Record) → length (catalogue (rs ++ (r ∷ []))) ≡ length (catalogue rs) + length (record_bytes (length rs) (read r))
catalogue-length rs r = ap length (catalogue-more rs r) ∙ length-append (catalogue rs) (record_bytes (length rs) (read r))

-- ---- a record's own entry

pub own-entry : (l : ℕ) (r : Record) → own_entry l (record_head r) ≡ head_entry l r
unfolding own_entry record_head stretch_of head_entry piece_at
own-entry l (header v fs) = refl
own-entry l (reference p n fs) = refl
own-entry l (group p fs) = refl
own-entry l (program p fs) = refl
own-entry l (comment p) = refl

pub own-bytes : (l : ℕ) (r : Record) → entry_bytes (own_entry l (record_head r)) ≡ head r ++ little 4 l
unfolding own_entry record_head stretch_of entry_bytes place_bytes head place
own-bytes l (header v fs) = refl
own-bytes l (reference p n fs) = refl
own-bytes l (group p fs) = refl
own-bytes l (program p fs) = refl
own-bytes l (comment p) = refl

-- as long on any line
pub own-sized : (l : ℕ) (r : Record) → entry_size (own_entry l (record_head r)) ≡ entry_size (own_entry 0 (record_head r))
unfolding own_entry record_head entry_size kind_byte kind_size
own-sized l (header v fs) = refl
own-sized l (reference p n fs) = refl
own-sized l (group p fs) = refl
own-sized l (program p fs) = refl
own-sized l (comment p) = refl

pub own-others : (r : Record) → others_of (record_head r) ≡ length (others r)
unfolding others_of record_head others
own-others (header v fs) = refl
own-others (reference p n fs) = refl
own-others (group p fs) = refl
own-others (program p fs) = refl
own-others (comment p) = refl

-- ---- the entries of its other fields

pub tails-more : (f : fields.Field) (fs : List fields.Field) → tails (f ∷ fs) ≡ entry_bytes (field_entry f) ++ tails fs
unfolding tails place entry_bytes place_bytes field_entry piece_at
tails-more f fs = refl

tails-length : (fs : List fields.Field) → length (tails fs) ≡ length fs * 11
unfolding tails place little
tails-length [] = refl
tails-length (f ∷ fs) = omega (arith, tails-length fs)

-- ---- how long

pub size-length : (l : ℕ) (x : Line) → size_of_head (head_of x) ≡ length (record_bytes l x)
unfolding size_of_head head_of record_bytes own_entry others_of entry_size kind_byte kind_size
size-length l (refused_line n) = refl
size-length l (read r) =
    omega (
      arith,
      length-append (head r ++ little 4 l) (tails (others r)),
      entry_length_lem (own_entry l (record_head r)),
      own-sized l r,
      ap length (own-bytes l r),
      own-others r,
      tails-length (others r),
    )
