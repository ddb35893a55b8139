-- The binary header of the SAM specification, uncompressed (Req 09): written from a text, and read back as a tidy text. Numbers have four bytes, the
-- lowest first; every LN that reading accepts fits into them (Req 08).
use Rattle.std.specs.Prelude.{ℕ, zero, suc, ◌≡◌, cond, List, [], ◌∷◌, ◌++◌, length, take, drop, eqb, leb}
use Rattle.std.proofs.Math.Option.{Option, none, some}
use Rattle.format.specs.Bytes.{all, none?, starts}
use Rattle.format.specs.Records.{Record}
use Rattle.format.specs.Reading.{longest}
use Rattle.format.specs.Catalogue.{little}
use Rattle.format.specs.Programs.{last_or, but_last}
use Rattle.format.specs.Tidy.{tidy, unwritable}
use Rattle.format.specs.Calls.{Answer, refused, yes, then, records, fitting, writing}
use Rattle.format.specs.Little.{of_little}
use Rattle.format.specs.References.{Reference, sq_list, same_references}

-- ---- the bytes

-- `BAM`, then 1
unfoldable pub magic : List ℕ
magic = 66 ∷ 65 ∷ 77 ∷ 1 ∷ []

-- a run of bytes after its length
unfoldable pub sized : List ℕ → List ℕ
unfolding little
sized s = little 4 (length s) ++ s

-- the name with its closing zero byte, after the length of both, and the LN
unfoldable pub reference_bytes : Reference → List ℕ
unfolding sized little
reference_bytes r = sized (r.name ++ (0 ∷ [])) ++ little 4 r.size

unfoldable pub list_bytes : List Reference → List ℕ
unfolding reference_bytes
list_bytes [] = []
list_bytes (r ∷ rs) = reference_bytes r ++ list_bytes rs

-- a text and a reference list
unfoldable pub binary : List ℕ → List Reference → List ℕ
unfolding magic sized little list_bytes
binary text list = magic ++ sized text ++ little 4 (length list) ++ list_bytes list

-- ---- the bytes taken apart: each takes its part off the front and returns the bytes after it

unfoldable pub and_then : {A B : Type 0} → Option A → (A → Option B) → Option B
and_then none f = none
and_then (some a) f = f a

-- `n` bytes
unfoldable pub take_bytes : ℕ → List ℕ → Option (List ℕ × List ℕ)
take_bytes n s = cond (leb n (length s)) (some (take n s, drop n s)) none

-- a number
unfoldable pub take_number : List ℕ → Option (ℕ × List ℕ)
unfolding and_then take_bytes of_little
take_number s = and_then (take_bytes 4 s) (λ p. some (of_little p.0, p.1))

-- a run of bytes after its length
unfoldable pub take_sized : List ℕ → Option (List ℕ × List ℕ)
unfolding and_then take_number take_bytes
take_sized s = and_then (take_number s) (λ n. take_bytes n.0 n.1)

-- the name before its closing zero byte; an empty run has no closing byte
unfoldable pub closed_name : List ℕ → Option (List ℕ)
unfolding last_or but_last
closed_name s = cond (eqb (last_or 1 s) 0) (some (but_last s)) none

-- a reference
unfoldable pub take_reference : List ℕ → Option (Reference × List ℕ)
unfolding and_then take_sized closed_name take_number
take_reference s =
    and_then (take_sized s) (λ c.
    and_then (closed_name c.0) (λ name.
    and_then (take_number c.1) (λ n. some (record { name = name; size = n.0 }, n.1))))

-- `n` references
unfoldable pub take_list : ℕ → List ℕ → Option (List Reference × List ℕ)
unfolding and_then take_reference
take_list zero s = some ([], s)
take_list (suc n) s =
    and_then (take_reference s) (λ r.
    and_then (take_list n r.1) (λ rs. some (r.0 ∷ rs.0, rs.1)))

-- a text and a reference list, with nothing after them
unfoldable pub take_both : List ℕ → Option (List ℕ × List Reference)
unfolding and_then take_sized take_number take_list none?
take_both s =
    and_then (take_sized s) (λ text.
    and_then (take_number text.1) (λ n.
    and_then (take_list n.0 n.1) (λ list.
    cond (none? list.1) (some (text.0, list.0)) none)))

-- what follows `BAM` and 1
unfoldable pub binary_parts : List ℕ → Option (List ℕ × List Reference)
unfolding starts magic take_both
binary_parts s = cond (starts magic s) (take_both (drop 4 s)) none

-- a text without the zero bytes at its end
unfoldable pub unpadded : List ℕ → List ℕ
unfolding all
unpadded [] = []
unpadded (b ∷ s) = cond (all (eqb 0) (b ∷ s)) [] (b ∷ unpadded s)

-- ---- the calls

-- out: the tidy text and the SQ list. Refused as tidying is; 1 is about the tidy text, 20 about the whole
unfoldable pub binary_out : List ℕ → ℕ → Answer (List ℕ)
unfolding then records writing longest unwritable tidy fitting binary sq_list
binary_out text room =
    then (records text) (λ rs.
    then (writing longest (unwritable 0 rs) (tidy rs)) (λ t.
    fitting room (binary t (sq_list rs))))

-- 28: a wrong start, too few bytes, bytes after the end, a name length of 0, or a name without its closing zero
unfoldable pub well_formed : {A : Type 0} → Option A → Answer A
well_formed none = refused 28 0
well_formed (some a) = yes a

-- 29 exactly if the reference list is not the SQ list, in order
unfoldable pub listed_alike : List Reference → List Record → Answer (List Record)
unfolding same_references sq_list
listed_alike list rs = cond (same_references list (sq_list rs)) (yes rs) (refused 29 0)

-- in: the tidy text. The zero bytes at the end of the text part are dropped, and the rest is read
unfoldable pub binary_in : List ℕ → ℕ → Answer (List ℕ)
unfolding then well_formed binary_parts records unpadded listed_alike writing unwritable tidy
binary_in bytes room =
    then (well_formed (binary_parts bytes)) (λ p.
    then (records (unpadded p.0)) (λ rs.
    then (listed_alike p.1 rs) (λ rs.
    writing room (unwritable 0 rs) (tidy rs))))
