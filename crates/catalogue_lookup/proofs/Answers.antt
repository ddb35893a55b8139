-- What is found in the catalogue of an accepted text is what the records say.
use Prim.Native.Nat.{ℕ, zero, suc, ◌+◌, ◌≤◌, ◌<◌}
use mathlib.Core.Path.{◌≡◌, refl, sym, ap, ap₂, ◌∙◌}
use mathlib.Core.Bool.{Bool, true, false, cond}
use mathlib.Core.List.{List, [], ◌∷◌, ◌++◌, map}
use mathlib.Core.Option.{Option, none, some}
use native.Mathlib.Omega.{arith}
use Rattle.std.specs.Prelude.{None, Some}
use lib.ListN.{drop, get_elem?}
use lib.Dec.{eqb, ltb}
use borrow.Author.Tests.{ltb-true, ltb-false, ne_eqb, eqb-true}
use Rattle.format.specs.Bytes.{any}
use Rattle.format.specs.Lines.{Piece}
use Rattle.format.specs.Fields.{Field, tagged, repeats, later, last_of}
use Rattle.format.specs.Records.{Record, header, reference, group, program, comment, code, key, others}
use Rattle.format.specs.Reading.{read_text, accept, of_kind}
use Rattle.format.specs.Catalogue.{catalogue}
use Rattle.format.specs.Calls.{key_if_there, length_if_there, lines_of, value_if_there}
use Rattle.byte_slices.specs.Stands.{Each}
use Rattle.accepted.specs.Sound.{Sound}
use Rattle.lists.proofs.Bools.{or_left, or_right, and_left, and_right, split}
use Rattle.lists.proofs.Pairs.{each_all}
use Rattle.accepted.proofs.OfKind.{of_kind-none}
use Rattle.accepted.proofs.Text.{text-sound}
use Rattle.catalogue_entries.specs.declared.Entry.{Entry}
use Rattle.catalogue_entries.specs.declared.Entry.TheVariants as entry
use Rattle.catalogue_entries.specs.Entries.{kind_byte, piece_at, head_entry, field_entry, entries_on, entries_of, entries_in}
use Rattle.catalogue_entries.proofs.Records.{head-kind}
use Rattle.catalogue_entries.proofs.Found.{records_from, line_from, first-record}
use Rattle.catalogue_lookup.specs.Lookup.{found_of, sized_of, located_of, entries_from, first_entry, entry_key, entry_length, entry_line, value_in, key_in, length_in, line_in, field_in}
use Rattle.catalogue_lookup.proofs.Kept.{text-entries}

-- ---- a kind of records

-- the entries of fields are passed
from_fields : (k : ℕ) → k < 6 → (i : ℕ) (fs : List Field) (es : List Entry) → entries_from k i (map field_entry fs ++ es) ≡ entries_from k i es
unfolding entries_from kind_byte field_entry
from_fields k h i [] es = refl
from_fields k h zero (f ∷ fs) es = let n : 6 ≡ k → ⊥ = λ e. omega arith in rw (ne_eqb 6 k n) (from_fields k h zero fs es)
from_fields k h (suc i) (f ∷ fs) es = let n : 6 ≡ k → ⊥ = λ e. omega arith in rw (ne_eqb 6 k n) (from_fields k h (suc i) fs es)

-- from a record's entry on they are those of the records from that one on
from_on : (k i : ℕ) → k < 6 → (l : ℕ) (rs : List Record) → entries_from k i (entries_on l rs) ≡ entries_on (line_from k i l rs) (records_from k i rs)
unfolding entries_from entries_on records_from line_from
from_on k i h l [] = refl
from_on k zero h l (r ∷ rs) = rw (head-kind l r, from_fields k h zero (others r) (entries_on (l + 1) rs), from_on k zero h (l + 1) rs) (go (eqb (code r) k))
  where
    go : (t : Bool) → cond t (entries_on l (r ∷ rs)) (entries_on (line_from k 0 (l + 1) rs) (records_from k 0 rs)) ≡ entries_on (cond t l (line_from k 0 (l + 1) rs)) (cond t (r ∷ rs) (records_from k 0 rs))
    go true = refl
    go false = refl
from_on k (suc i) h l (r ∷ rs) =
    rw (
      head-kind l r,
      from_fields k h i (others r) (entries_on (l + 1) rs),
      from_fields k h (suc i) (others r) (entries_on (l + 1) rs),
      from_on k i h (l + 1) rs,
      from_on k (suc i) h (l + 1) rs,
    )
    (go (eqb (code r) k))
  where
    go : (t : Bool) → cond t (entries_on (line_from k i (l + 1) rs) (records_from k i rs)) (entries_on (line_from k (suc i) (l + 1) rs) (records_from k (suc i) rs))
        ≡ entries_on (cond t (line_from k i (l + 1) rs) (line_from k (suc i) (l + 1) rs)) (cond t (records_from k i rs) (records_from k (suc i) rs))
    go true = refl
    go false = refl

from-records : (k i : ℕ) → k < 6 → (rs : List Record) → entries_from k i (entries_of rs) ≡ entries_on (line_from k i 0 rs) (records_from k i rs)
unfolding entries_of
from-records k i h rs = from_on k i h 0 rs

each_from : (P : Record → Type 0) (k i : ℕ) (rs : List Record) → Each P rs → Each P (records_from k i rs)
unfolding Each records_from
each_from P k i [] h = tt
each_from P k zero (r ∷ rs) h = go (eqb (code r) k) (each_from P k zero rs h.1)
  where
    go : (t : Bool) → Each P (records_from k 0 rs) → Each P (cond t (r ∷ rs) (records_from k 0 rs))
    go true ih = h
    go false ih = ih
each_from P k (suc i) (r ∷ rs) h = go (eqb (code r) k) (each_from P k i rs h.1) (each_from P k (suc i) rs h.1)
  where
    go : (t : Bool) → Each P (records_from k i rs) → Each P (records_from k (suc i) rs) → Each P (cond t (records_from k i rs) (records_from k (suc i) rs))
    go true ih jh = ih
    go false ih jh = jh

-- ---- no kind of records

code_below : (r : Record) → code r < 6
unfolding code
code_below (header v fs) = omega arith
code_below (reference p n fs) = omega arith
code_below (group p fs) = omega arith
code_below (program p fs) = omega arith
code_below (comment p) = omega arith

no-records : (k i : ℕ) → 5 < k → (rs : List Record) → get_elem? (of_kind k rs) i ≡ none
no-records k i h rs = ap (λ qs. get_elem? qs i) (of_kind-none k rs (each_all (λ r. eqb (code r) k ≡ false) (λ r. ne_eqb (code r) k (λ e. omega (arith, code_below r))) rs))

no_key_lem : (k : ℕ) → 5 < k → (e : Entry) → kind_byte e ≡ k → entry_key e ≡ None
unfolding kind_byte entry_key
no_key_lem k h entry.End q = refl
no_key_lem k h (entry.Header v l) q = refl
no_key_lem k h (entry.ReferenceSequence p n l) q = absurd (omega arith)
no_key_lem k h (entry.ReadGroup p l) q = absurd (omega arith)
no_key_lem k h (entry.Program p l) q = absurd (omega arith)
no_key_lem k h (entry.Comment p l) q = refl
no_key_lem k h (entry.Field a b p) q = refl

no_line : (k : ℕ) → 5 < k → (e : Entry) → kind_byte e ≡ k → entry_line e ≡ None
unfolding kind_byte entry_line
no_line k h entry.End q = refl
no_line k h (entry.Header v l) q = absurd (omega arith)
no_line k h (entry.ReferenceSequence p n l) q = absurd (omega arith)
no_line k h (entry.ReadGroup p l) q = absurd (omega arith)
no_line k h (entry.Program p l) q = absurd (omega arith)
no_line k h (entry.Comment p l) q = absurd (omega arith)
no_line k h (entry.Field a b p) q = refl

-- what no entry of the kind says, and no end, is not found
no_says : {A : Type 0} (f : Entry → A) (n : A) (k : ℕ) → f entry.End ≡ n → ((e : Entry) → kind_byte e ≡ k → f e ≡ n) → (i : ℕ) (es : List Entry) → f (first_entry (entries_from k i es)) ≡ n
unfolding first_entry entries_from
no_says f n k z h i [] = z
no_says f n k z h zero (e ∷ es) = go (eqb (kind_byte e) k) refl (no_says f n k z h zero es)
  where
    go : (t : Bool) → eqb (kind_byte e) k ≡ t → f (first_entry (entries_from k 0 es)) ≡ n → f (first_entry (cond t (e ∷ es) (entries_from k 0 es))) ≡ n
    go true q ih = h e (eqb-true (kind_byte e) k q)
    go false q ih = ih
no_says f n k z h (suc i) (e ∷ es) = go (eqb (kind_byte e) k) (no_says f n k z h i es) (no_says f n k z h (suc i) es)
  where
    go : (t : Bool) → f (first_entry (entries_from k i es)) ≡ n → f (first_entry (entries_from k (suc i) es)) ≡ n → f (first_entry (cond t (entries_from k i es) (entries_from k (suc i) es))) ≡ n
    go true ih jh = ih
    go false ih jh = jh

-- ---- keys and lengths

first_key : (l : ℕ) (rs : List Record) → entry_key (first_entry (entries_on l rs)) ≡ found_of (key_if_there (get_elem? rs 0))
unfolding entry_key first_entry entries_on found_of key_if_there head_entry key
first_key l [] = refl
first_key l (header v fs ∷ rs) = refl
first_key l (reference p n fs ∷ rs) = refl
first_key l (group p fs ∷ rs) = refl
first_key l (program p fs ∷ rs) = refl
first_key l (comment p ∷ rs) = refl

pub key-records : (k i : ℕ) (rs : List Record) → key_in k i (entries_of rs) ≡ found_of (key_if_there (get_elem? (of_kind k rs) i))
unfolding key_in
key-records k i rs = split (ltb 5 k) (λ q. above (ltb-true 5 k q)) (λ q. below (ltb-false 5 k q))
  where
    above : 5 < k → entry_key (first_entry (entries_from k i (entries_of rs))) ≡ found_of (key_if_there (get_elem? (of_kind k rs) i))
    above h = no_says entry_key None k (unfold entry_key in refl) (no_key_lem k h) i (entries_of rs) ∙ unfold found_of key_if_there in ap (λ o. found_of (key_if_there o)) (sym (no-records k i h rs))

    below : k ≤ 5 → entry_key (first_entry (entries_from k i (entries_of rs))) ≡ found_of (key_if_there (get_elem? (of_kind k rs) i))
    below h =
        ap (λ es. entry_key (first_entry es)) (from-records k i (omega arith) rs) ∙ first_key (line_from k i 0 rs) (records_from k i rs)
        ∙ ap (λ o. found_of (key_if_there o)) (sym (first-record k i rs))

first-length : (l : ℕ) (rs : List Record) → entry_length (first_entry (entries_on l rs)) ≡ sized_of (length_if_there (get_elem? rs 0))
unfolding entry_length first_entry entries_on sized_of length_if_there head_entry
first-length l [] = refl
first-length l (header v fs ∷ rs) = refl
first-length l (reference p n fs ∷ rs) = refl
first-length l (group p fs ∷ rs) = refl
first-length l (program p fs ∷ rs) = refl
first-length l (comment p ∷ rs) = refl

pub length-records : (i : ℕ) (rs : List Record) → length_in i (entries_of rs) ≡ sized_of (length_if_there (get_elem? (of_kind 2 rs) i))
unfolding length_in
length-records i rs =
    ap (λ es. entry_length (first_entry es)) (from-records 2 i (omega arith) rs) ∙ first-length (line_from 2 i 0 rs) (records_from 2 i rs)
    ∙ ap (λ o. sized_of (length_if_there o)) (sym (first-record 2 i rs))

-- ---- lines

own_line : (l : ℕ) (r : Record) → entry_line (head_entry l r) ≡ located_of (some l)
unfolding entry_line located_of head_entry
own_line l (header v fs) = refl
own_line l (reference p n fs) = refl
own_line l (group p fs) = refl
own_line l (program p fs) = refl
own_line l (comment p) = refl

-- a kind of records
line_on : (k i : ℕ) → k < 6 → (l : ℕ) (rs : List Record) → entry_line (first_entry (entries_from k i (entries_on l rs))) ≡ located_of (get_elem? (lines_of k l rs) i)
unfolding entries_from entries_on lines_of first_entry entry_line located_of
line_on k i h l [] = refl
line_on k zero h l (r ∷ rs) = rw (head-kind l r, from_fields k h zero (others r) (entries_on (l + 1) rs)) (go (eqb (code r) k) (line_on k zero h (l + 1) rs))
  where
    go : (t : Bool) → entry_line (first_entry (entries_from k 0 (entries_on (l + 1) rs))) ≡ located_of (get_elem? (lines_of k (l + 1) rs) 0)
        → entry_line (first_entry (cond t (entries_on l (r ∷ rs)) (entries_from k 0 (entries_on (l + 1) rs)))) ≡ located_of (get_elem? (cond t (l ∷ lines_of k (l + 1) rs) (lines_of k (l + 1) rs)) 0)
    go true ih = own_line l r
    go false ih = ih
line_on k (suc i) h l (r ∷ rs) =
    rw (head-kind l r, from_fields k h i (others r) (entries_on (l + 1) rs), from_fields k h (suc i) (others r) (entries_on (l + 1) rs))
    (go (eqb (code r) k) (line_on k i h (l + 1) rs) (line_on k (suc i) h (l + 1) rs))
  where
    go : (t : Bool) → entry_line (first_entry (entries_from k i (entries_on (l + 1) rs))) ≡ located_of (get_elem? (lines_of k (l + 1) rs) i)
        → entry_line (first_entry (entries_from k (suc i) (entries_on (l + 1) rs))) ≡ located_of (get_elem? (lines_of k (l + 1) rs) (suc i))
        → entry_line (first_entry (cond t (entries_from k i (entries_on (l + 1) rs)) (entries_from k (suc i) (entries_on (l + 1) rs))))
        ≡ located_of (get_elem? (cond t (l ∷ lines_of k (l + 1) rs) (lines_of k (l + 1) rs)) (suc i))
    go true ih jh = ih
    go false ih jh = jh

-- no kind of records
no_lines : (k i : ℕ) → 5 < k → (l : ℕ) (rs : List Record) → get_elem? (lines_of k l rs) i ≡ none
unfolding lines_of
no_lines k i h l [] = refl
no_lines k i h l (r ∷ rs) = rw (ne_eqb (code r) k (λ e. omega (arith, code_below r))) (no_lines k i h (l + 1) rs)

pub line-records : (k i : ℕ) (rs : List Record) → line_in k i (entries_of rs) ≡ located_of (get_elem? (lines_of k 0 rs) i)
unfolding line_in entries_of
line-records k i rs = split (ltb 5 k) (λ q. above (ltb-true 5 k q)) (λ q. line_on k i (omega (arith, ltb-false 5 k q)) 0 rs)
  where
    above : 5 < k → entry_line (first_entry (entries_from k i (entries_on 0 rs))) ≡ located_of (get_elem? (lines_of k 0 rs) i)
    above h = no_says entry_line None k (unfold entry_line in refl) (no_line k h) i (entries_on 0 rs) ∙ unfold located_of in ap located_of (sym (no_lines k i h 0 rs))

-- ---- fields

-- a record's entry is no field
no_value_lem : (a b l : ℕ) (rs : List Record) → value_in a b (entries_on l rs) ≡ None
unfolding value_in entries_on head_entry
no_value_lem a b l [] = refl
no_value_lem a b l (header v fs ∷ rs) = refl
no_value_lem a b l (reference p n fs ∷ rs) = refl
no_value_lem a b l (group p fs ∷ rs) = refl
no_value_lem a b l (program p fs ∷ rs) = refl
no_value_lem a b l (comment p ∷ rs) = refl

pub last_none : (a b : ℕ) (fs : List Field) → any (tagged a b) fs ≡ false → last_of a b fs ≡ none
unfolding any last_of later
last_none a b [] h = refl
last_none a b (f ∷ fs) h = rw (or_left (tagged a b f) (any (tagged a b) fs) h, last_none a b fs (or_right (tagged a b f) (any (tagged a b) fs) h)) refl

pub later-none : (o : Option Piece) → later none o ≡ o
unfolding later
later-none none = refl
later-none (some p) = refl

tag_same : (a b : ℕ) (f : Field) → tagged a b f ≡ true → (f.tag₀ ≡ a) × (f.tag₁ ≡ b)
unfolding tagged
tag_same a b f q = (
  eqb-true f.tag₀ a (and_left (eqb f.tag₀ a) (eqb f.tag₁ b) q),
  eqb-true f.tag₁ b (and_right (eqb f.tag₀ a) (eqb f.tag₁ b) q),
)

-- no tag is repeated, so the first value is the last
pub value-fields : (a b : ℕ) (fs : List Field) (l : ℕ) (rs : List Record) → repeats fs ≡ false → value_in a b (map field_entry fs ++ entries_on l rs) ≡ found_of (last_of a b fs)
unfolding value_in field_entry last_of later repeats found_of
value-fields a b [] l rs h = no_value_lem a b l rs
value-fields a b (f ∷ fs) l rs h = go (tagged a b f) refl (value-fields a b fs l rs (or_right (any (tagged f.tag₀ f.tag₁) fs) (repeats fs) h))
  where
    once : tagged a b f ≡ true → last_of a b fs ≡ none
    once q =
        let e = tag_same a b f q in
        last_none a b fs (ap₂ (λ x y. any (tagged x y) fs) (sym e.0) (sym e.1) ∙ or_left (any (tagged f.tag₀ f.tag₁) fs) (repeats fs) h)

    go : (t : Bool) → tagged a b f ≡ t → value_in a b (map field_entry fs ++ entries_on l rs) ≡ found_of (last_of a b fs)
        → cond t (Some (piece_at f.value)) (value_in a b (map field_entry fs ++ entries_on l rs)) ≡ found_of (later (cond t (some f.value) none) (last_of a b fs))
    go true q ih = ap (λ o. found_of (later (some f.value) o)) (sym (once q))
    go false q ih = ih ∙ ap found_of (sym (later-none (last_of a b fs)))

first-value : (a b l : ℕ) (rs : List Record) → Each Sound rs → value_in a b (drop 1 (entries_on l rs)) ≡ found_of (value_if_there a b (get_elem? rs 0))
unfolding Each entries_on value_if_there found_of value_in
first-value a b l [] h = refl
first-value a b l (r ∷ rs) h = value-fields a b (others r) (l + 1) rs h.0.once

pub field-records : (k i a b : ℕ) (rs : List Record) → Each Sound rs → field_in k i a b (entries_of rs) ≡ found_of (value_if_there a b (get_elem? (of_kind k rs) i))
unfolding field_in
field-records k i a b rs s = split (ltb 5 k) (λ q. rw q (above (ltb-true 5 k q))) (λ q. rw q (below (ltb-false 5 k q)))
  where
    above : 5 < k → None ≡ found_of (value_if_there a b (get_elem? (of_kind k rs) i))
    above h = unfold found_of value_if_there in ap (λ o. found_of (value_if_there a b o)) (sym (no-records k i h rs))

    below : k ≤ 5 → value_in a b (drop 1 (entries_from k i (entries_of rs))) ≡ found_of (value_if_there a b (get_elem? (of_kind k rs) i))
    below h =
        ap (λ es. value_in a b (drop 1 es)) (from-records k i (omega arith) rs) ∙ first-value a b (line_from k i 0 rs) (records_from k i rs) (each_from Sound k i rs s)
        ∙ ap (λ o. found_of (value_if_there a b o)) (sym (first-record k i rs))

-- ---- an accepted text

module _ (t : List ℕ) (rs : List Record) (h : read_text t ≡ accept rs) where
  pub text-key : (k i : ℕ) → key_in k i (entries_in (catalogue rs)) ≡ found_of (key_if_there (get_elem? (of_kind k rs) i))
  text-key k i = rw (text-entries t rs h) (key-records k i rs)

  pub text-ln : (i : ℕ) → length_in i (entries_in (catalogue rs)) ≡ sized_of (length_if_there (get_elem? (of_kind 2 rs) i))
  text-ln i = rw (text-entries t rs h) (length-records i rs)

  pub text-line : (k i : ℕ) → line_in k i (entries_in (catalogue rs)) ≡ located_of (get_elem? (lines_of k 0 rs) i)
  text-line k i = rw (text-entries t rs h) (line-records k i rs)

  pub text-field : (k i a b : ℕ) → field_in k i a b (entries_in (catalogue rs)) ≡ found_of (value_if_there a b (get_elem? (of_kind k rs) i))
  text-field k i a b = rw (text-entries t rs h) (field-records k i a b rs (text-sound t rs h))
