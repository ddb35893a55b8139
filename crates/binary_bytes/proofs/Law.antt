-- In after out gives the tidy text back.
use Prim.Native.Nat.{ℕ, ◌+◌, ◌≤◌}
use mathlib.Core.Path.{◌≡◌, refl, sym, ap, ◌∙◌}
use mathlib.Core.Bool.{Bool, true, false, ◌&&◌, cond}
use mathlib.Core.List.{List, [], ◌∷◌, ◌++◌, map, append-nil}
use mathlib.Core.Option.{Option, none, some}
use native.Mathlib.Omega.{arith}
use lib.ListN.{length, length-append}
use lib.Dec.{eqb}
use borrow.Author.Tests.{eq-eqb}
use Rattle.format.specs.Bytes.{all, same}
use Rattle.format.specs.Records.{Record, header, reference, group, program, comment, code}
use Rattle.format.specs.Reading.{accept, read_text, of_kind, longest}
use Rattle.format.specs.Programs.{last_or}
use Rattle.format.specs.Tidy.{tidy, text, in_order, record_text, field_text, fields_text, unwritable}
use Rattle.format.specs.Decimal.{written}
use Rattle.format.specs.Lines.{Piece}
use Rattle.format.specs.Fields.{Field}
use Rattle.format.specs.Calls.{yes, then, read_answer, records, fitting, writing, tidying}
use Rattle.byte_slices.specs.Stands.{Each}
use Rattle.byte_slices.proofs.Equal.{same_self}
use Rattle.accepted.specs.Sound.{FitsRecord, Sound}
use Rattle.lists.proofs.Bools.{never}
use Rattle.accepted.proofs.Text.{text-sound}
use Rattle.tidy_laws.specs.Bare.{bare}
use Rattle.tidy_laws.specs.Line.{record_line}
use Rattle.tidy_laws.specs.Writable.{Writable}
use Rattle.tidy_laws.proofs.Gathered.{text-gathered, gathered-writable}
use Rattle.tidy_laws.proofs.Answered.{Gave, then-yes, read_of, fitting-yes, writing-yes}
use Rattle.tidy_laws.proofs.Back.{Back}
use Rattle.tidy_laws.proofs.Line.{record-line}
use Rattle.tidy_laws.proofs.Total.{record-length, order-length}
use Rattle.tidy_laws.proofs.Tidy.{tidy-back, tidy-again, names-again}
use Rattle.format.specs.References.{Reference, sq_list, same_reference, same_references}
use Rattle.format.specs.Binary.{binary, binary_parts, unpadded, well_formed, listed_alike, binary_out, binary_in}
use Rattle.binary_bytes.specs.Undone.{InAfterOut}
use Rattle.binary_bytes.proofs.Parts.{Small, AllSmall, parts-back}

-- ---- the text part: it ends with LF, so nothing is dropped

and-false : (t : Bool) → t && false ≡ false
and-false true = refl
and-false false = refl

all-last : (b : ℕ) (s : List ℕ) → last_or b s ≡ 10 → all (eqb 0) (b ∷ s) ≡ false
unfolding all last_or
all-last b [] e = rw e refl
all-last b (c ∷ s) e = rw (all-last c s e) (and-false (eqb 0 b))

unpad-last : (d : ℕ) (s : List ℕ) → last_or d s ≡ 10 → unpadded s ≡ s
unfolding unpadded last_or
unpad-last d [] e = refl
unpad-last d (b ∷ s) e = rw (all-last b s e, unpad-last b s e) refl

last-append : (d : ℕ) (s t : List ℕ) → last_or d (s ++ t) ≡ last_or (last_or d s) t
unfolding last_or
last-append d [] t = refl
last-append d (x ∷ s) t = last-append x s t

last_snoc : (d : ℕ) (s : List ℕ) (x : ℕ) → last_or d (s ++ (x ∷ [])) ≡ x
unfolding last_or
last_snoc d s x = last-append d s (x ∷ [])

record-last : (d : ℕ) (r : Record) → last_or d (record_text r) ≡ 10
record-last d r = ap (last_or d) (record-line r) ∙ last_snoc d (record_line r) 10

text-last : (rs : List Record) → last_or 10 (text rs) ≡ 10
unfolding text last_or
text-last [] = refl
text-last (r ∷ rs) = last-append 10 (record_text r) (text rs) ∙ ap (λ d. last_or d (text rs)) (record-last 10 r) ∙ text-last rs

tidy-unpadded : (rs : List Record) → unpadded (tidy rs) ≡ tidy rs
unfolding tidy
tidy-unpadded rs = unpad-last 10 (text (in_order rs)) (text-last (in_order rs))

-- ---- the reference list

same-list : (rs : List Reference) → same_references rs rs ≡ true
unfolding same_references same_reference
same-list [] = refl
same-list (r ∷ rs) = rw (same_self r.name, eq-eqb r.size r.size refl, same-list rs) refl

refs-bare : (rs : List Record) → sq_list (map bare rs) ≡ sq_list rs
unfolding sq_list bare
refs-bare [] = refl
refs-bare (header v fs ∷ rs) = refs-bare rs
refs-bare (reference p n fs ∷ rs) = rw (refs-bare rs) refl
refs-bare (group p fs ∷ rs) = refs-bare rs
refs-bare (program p fs ∷ rs) = refs-bare rs
refs-bare (comment p ∷ rs) = refs-bare rs

refs-append : (rs qs : List Record) → sq_list (rs ++ qs) ≡ sq_list rs ++ sq_list qs
unfolding sq_list
refs-append [] qs = refl
refs-append (header v fs ∷ rs) qs = refs-append rs qs
refs-append (reference p n fs ∷ rs) qs = rw (refs-append rs qs) refl
refs-append (group p fs ∷ rs) qs = refs-append rs qs
refs-append (program p fs ∷ rs) qs = refs-append rs qs
refs-append (comment p ∷ rs) qs = refs-append rs qs

-- ---- sizes

pub more : (r : Record) (rs : List Record) → length (text (r ∷ rs)) ≡ length (record_text r) + length (text rs)
unfolding text
more r rs = length-append (record_text r) (text rs)

refs-count : (rs : List Record) → length (sq_list rs) ≤ length (text rs)
unfolding sq_list
refs-count [] = omega arith
refs-count (header v fs ∷ rs) = omega (arith, more (header v fs) rs, refs-count rs)
refs-count (reference p n fs ∷ rs) = omega (arith, more (reference p n fs) rs, record-length (reference p n fs), refs-count rs)
refs-count (group p fs ∷ rs) = omega (arith, more (group p fs) rs, refs-count rs)
refs-count (program p fs ∷ rs) = omega (arith, more (program p fs) rs, refs-count rs)
refs-count (comment p ∷ rs) = omega (arith, more (comment p) rs, refs-count rs)

-- of one kind
pass : (t : Bool) (r : Record) (qs : List Record) → sq_list (r ∷ []) ≡ [] → sq_list qs ≡ [] → sq_list (cond t (r ∷ qs) qs) ≡ []
pass true r qs e h = refs-append (r ∷ []) qs ∙ rw (e, h) refl
pass false r qs e h = h

refs-none : (k : ℕ) (rs : List Record) → eqb 2 k ≡ false → sq_list (of_kind k rs) ≡ []
unfolding sq_list of_kind code
refs-none k [] h = refl
refs-none k (header v fs ∷ rs) h = pass (eqb 1 k) (header v fs) (of_kind k rs) refl (refs-none k rs h)
refs-none k (reference p n fs ∷ rs) h = rw h (refs-none k rs h)
refs-none k (group p fs ∷ rs) h = pass (eqb 3 k) (group p fs) (of_kind k rs) refl (refs-none k rs h)
refs-none k (program p fs ∷ rs) h = pass (eqb 4 k) (program p fs) (of_kind k rs) refl (refs-none k rs h)
refs-none k (comment p ∷ rs) h = pass (eqb 5 k) (comment p) (of_kind k rs) refl (refs-none k rs h)

refs-two : (rs : List Record) → sq_list (of_kind 2 rs) ≡ sq_list rs
unfolding sq_list of_kind code
refs-two [] = refl
refs-two (header v fs ∷ rs) = refs-two rs
refs-two (reference p n fs ∷ rs) = rw (refs-two rs) refl
refs-two (group p fs ∷ rs) = refs-two rs
refs-two (program p fs ∷ rs) = refs-two rs
refs-two (comment p ∷ rs) = refs-two rs

refs-order : (rs : List Record) → sq_list (in_order rs) ≡ sq_list rs
unfolding in_order
refs-order rs =
    let a : List Record = of_kind 1 rs ++ of_kind 2 rs in
    let b : List Record = a ++ of_kind 3 rs in
    let c : List Record = b ++ of_kind 4 rs in
    refs-append c (of_kind 5 rs) ∙ rw (
      refs-none 5 rs refl,
      refs-append b (of_kind 4 rs),
      refs-none 4 rs refl,
      refs-append a (of_kind 3 rs),
      refs-none 3 rs refl,
      refs-append (of_kind 1 rs) (of_kind 2 rs),
      refs-none 1 rs refl,
      refs-two rs,
    ) (nil4 (sq_list rs))
  where
    nil4 : (s : List Reference) → s ++ [] ++ [] ++ [] ≡ s
    nil4 s = append-nil (s ++ [] ++ []) ∙ append-nil (s ++ []) ∙ append-nil s

refs-found : (rs qs : List Record) → map bare qs ≡ map bare (in_order rs) → sq_list qs ≡ sq_list rs
refs-found rs qs e = sym (refs-bare qs) ∙ ap sq_list e ∙ refs-bare (in_order rs) ∙ refs-order rs

-- a name and nine bytes more, as many as a reference has
pub name-length : (p : Piece) (n : ℕ) (fs : List Field) → length p.bytes + 9 ≤ length (record_text (reference p n fs))
unfolding record_text field_text
name-length p n fs =
    let a : List ℕ = (64 ∷ 83 ∷ 81 ∷ []) ++ field_text 83 78 p.bytes in
    let b : List ℕ = a ++ field_text 76 78 (written n) in
    let c : List ℕ = b ++ fields_text fs in
    omega (arith, length-append c (10 ∷ []), length-append b (fields_text fs), length-append a (field_text 76 78 (written n)))

refs-small : (rs : List Record) → length (text rs) ≤ 16777216 → Each Sound rs → AllSmall (sq_list rs)
unfolding sq_list AllSmall Small Each FitsRecord
refs-small [] h z = tt
refs-small (header v fs ∷ rs) h z = refs-small rs (omega (arith, h, more (header v fs) rs)) z.1
refs-small (reference p n fs ∷ rs) h z = (
  (omega (arith, h, length-append p.bytes (0 ∷ []), name-length p n fs, more (reference p n fs) rs), omega (arith, z.0.fits.1)),
  refs-small rs (omega (arith, h, more (reference p n fs) rs)) z.1,
)
refs-small (group p fs ∷ rs) h z = refs-small rs (omega (arith, h, more (group p fs) rs)) z.1
refs-small (program p fs ∷ rs) h z = refs-small rs (omega (arith, h, more (program p fs) rs)) z.1
refs-small (comment p ∷ rs) h z = refs-small rs (omega (arith, h, more (comment p) rs)) z.1

-- ---- the law

module _ (t : List ℕ) (rs : List Record) (e : read_text t ≡ accept rs) (h : length (tidy rs) ≤ 16777216) (u : unwritable 0 rs ≡ none) where
  long : length (tidy rs) ≡ length (text rs)
  unfolding tidy
  long = order-length rs

  w : Writable rs
  w = gathered-writable t rs (text-gathered t rs e)

  b : Back (in_order rs) (read_text (tidy rs))
  b = tidy-back rs w h

  taken : binary_parts (binary (tidy rs) (sq_list rs)) ≡ some (tidy rs, sq_list rs)
  taken = parts-back (tidy rs) (sq_list rs) (omega (arith, h)) (omega (arith, h, long, refs-count rs)) (refs-small rs (omega (arith, h, long)) (text-sound t rs e))

  found : records (tidy rs) ≡ yes b.found
  unfolding records read_answer
  found = ap read_answer b.reads

  equal : listed_alike (sq_list rs) b.found ≡ yes b.found
  unfolding listed_alike
  equal = rw (refs-found rs b.found b.same, same-list (sq_list rs)) refl

  back : (room : ℕ) → binary_in (binary (tidy rs) (sq_list rs)) room ≡ writing room none (tidy rs)
  unfolding binary_in then well_formed b
  back room = rw (taken, tidy-unpadded rs, found, equal, names-again rs b.found b.same u, tidy-again rs w h) refl

  tidied : (room : ℕ) → tidying t room ≡ writing room none (tidy rs)
  unfolding tidying then records read_answer
  tidied room = rw (e, u) refl

-- ---- what is known where out answers bytes

-- the text was accepted, its names and its tidy text can be written, and these are the bytes
pub record Wrote (t bytes : List ℕ) : Type 0 where
  pub records : List Record
  pub reads : read_text t ≡ accept records
  pub writable : unwritable 0 records ≡ none
  pub small : length (tidy records) ≤ 16777216
  pub bytes-are : bytes ≡ binary (tidy records) (sq_list records)

pub wrote : (t bytes : List ℕ) (room : ℕ) → binary_out t room ≡ yes bytes → Wrote t bytes
unfolding binary_out longest
wrote t bytes room e =
    let a : Gave (records t) (λ rs. then (writing longest (unwritable 0 rs) (tidy rs)) (λ x. fitting room (binary x (sq_list rs)))) bytes = then-yes _ _ bytes e in
    let rs : List Record = a.value in
    let c : Gave (writing longest (unwritable 0 rs) (tidy rs)) (λ x. fitting room (binary x (sq_list rs))) bytes = then-yes _ _ bytes a.second in
    let w : (unwritable 0 rs ≡ none) × (length (tidy rs) ≤ 16777216) × (c.value ≡ tidy rs) = writing-yes 16777216 (unwritable 0 rs) (tidy rs) c.value c.first in
    record {
      records = rs;
      reads = read_of t rs a.first;
      writable = w.0;
      small = w.1;
      bytes-are = fitting-yes room (binary c.value (sq_list rs)) bytes c.second ∙ ap (λ x. binary x (sq_list rs)) w.2;
    }

-- in after out gives the tidy text back
pub in-after-out : InAfterOut
unfolding InAfterOut
in-after-out t bytes room more e =
    let w : Wrote t bytes = wrote t bytes room e in
    ap (λ x. binary_in x more) w.bytes-are ∙ back t w.records w.reads w.small w.writable more
    ∙ sym (tidied t w.records w.reads w.small w.writable more)
