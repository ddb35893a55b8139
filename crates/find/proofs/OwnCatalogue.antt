-- What the search for a key answers over a catalogue that is the text's own.
use Prim.Native.Nat.{ℕ, suc, ◌+◌, ◌≤◌}
use mathlib.Core.Path.{◌≡◌, refl, sym, ap, subst, ◌∙◌}
use mathlib.Core.Bool.{Bool, true, false, cond}
use mathlib.Core.List.{List, [], ◌∷◌, ◌++◌, map}
use mathlib.Core.Option.{Option, none, some}
use native.Mathlib.Omega.{arith}
use borrow.Author.Tests.{ne_eqb}
use lib.ListN.{length}
use lib.Dec.{eqb}
use Rattle.std.specs.Prelude.{ok_or}
use Rattle.format.specs.Lines.{Piece}
use Rattle.format.specs.Fields.{Field}
use Rattle.format.specs.Records.{Record, header, reference, group, program, comment, code, key, others}
use Rattle.format.specs.Reading.{of_kind}
use Rattle.format.specs.Catalogue.{catalogue}
use Rattle.format.specs.Calls.{refused, yes, there, fresh}
use Rattle.byte_slices.specs.Stands.{Each, Stands}
use Rattle.accepted.specs.Pieces.{pieces}
use Rattle.accepted.specs.Read.{records_of}
use Rattle.lists.proofs.Bools.{never}
use Rattle.accepted.proofs.Text.{text-stand, text-count, text-fits}
use Rattle.catalogue_entries.specs.declared.Entry.{Entry}
use Rattle.catalogue_entries.specs.Entries.{kind_byte, piece_at, head_entry, field_entry, entries_on, entries_of, entries_in, counted}
use Rattle.program_ids.specs.Places.{InsideText, bytes_at}
use Rattle.program_ids.specs.Search.{id_ordinal_from}
use Rattle.catalogue_lookup.proofs.Kept.{text-entries, text-counted}
use Rattle.names.proofs.References.{stands-bytes}
use Rattle.read.proofs.Fresh.{Current, goes_on, stops}
use Rattle.format.specs.Finding.{equals_key, key_ordinal_from, finding}
use Rattle.calls.proofs.OwnCatalogue.{missing}
use Rattle.find.specs.Answers.{find_answer_of}
use Rattle.find.specs.Keys.{key_place, keys_in, KeysInText, found_of}

-- ---- the keys that the entries of records say

module _ (t : List ℕ) where
  -- the entries of fields are passed
  keys-fields : (k : ℕ) → k ≤ 4 → (fs : List Field) (es : List Entry) → keys_in t k (map field_entry fs ++ es) ≡ keys_in t k es
  unfolding keys_in kind_byte field_entry
  keys-fields k h [] es = refl
  keys-fields k h (f ∷ fs) es = rw (ne_eqb 6 k (λ z. omega (arith, h, z))) (keys-fields k h fs es)

  -- a record's entry and its fields
  module _ (k : ℕ) (lo : 2 ≤ k) (hi : k ≤ 4) (x : List ℕ) where
    abbrev Law : ℕ → ℕ → List Record → Type 0
    Law i l rs = id_ordinal_from x i (keys_in t k (entries_on l rs)) ≡ key_ordinal_from i x (of_kind k rs)

    abbrev ahead : ℕ → Record → List Record → ℕ → Option ℕ
    ahead l r rs i = id_ordinal_from x i (keys_in t k (map field_entry (others r) ++ entries_on (l + 1) rs))

    passes : (i l : ℕ) (r : Record) (rs : List Record) → Law i (l + 1) rs → ahead l r rs i ≡ key_ordinal_from i x (of_kind k rs)
    passes i l r rs ih = ap (id_ordinal_from x i) (keys-fields k hi (others r) (entries_on (l + 1) rs)) ∙ ih

    keyed : (b : Bool) (i l : ℕ) (p : Piece) (r : Record) (rs : List Record) → Stands t 0 p → key r ≡ some p → ((j : ℕ) → Law j (l + 1) rs)
        → id_ordinal_from x i (cond b (bytes_at t (piece_at p) ∷ keys_in t k (map field_entry (others r) ++ entries_on (l + 1) rs)) (keys_in t k (map field_entry (others r) ++ entries_on (l + 1) rs)))
        ≡ key_ordinal_from i x (cond b (r ∷ of_kind k rs) (of_kind k rs))
    unfolding id_ordinal_from key_ordinal_from equals_key bytes_at piece_at
    keyed true i l p r rs s e ih = rw (stands-bytes t p s, e, passes (i + 1) l r rs (ih (i + 1))) refl
    keyed false i l p r rs s e ih = passes i l r rs (ih i)

    on : (i l : ℕ) (rs : List Record) → Each (λ r. Each (Stands t 0) (pieces r)) rs → Law i l rs
    unfolding Each pieces keys_in key_place kind_byte entries_on head_entry of_kind code
    on i l [] h = unfold id_ordinal_from key_ordinal_from in refl
    on i l (header v fs ∷ rs) h = rw (ne_eqb 1 k (λ z. omega (arith, lo, z))) (passes i l (header v fs) rs (on i (l + 1) rs h.1))
    on i l (reference p n fs ∷ rs) h = keyed (eqb 2 k) i l p (reference p n fs) rs h.0.0 (unfold key in refl) (λ j. on j (l + 1) rs h.1)
    on i l (group p fs ∷ rs) h = keyed (eqb 3 k) i l p (group p fs) rs h.0.0 (unfold key in refl) (λ j. on j (l + 1) rs h.1)
    on i l (program p fs ∷ rs) h = keyed (eqb 4 k) i l p (program p fs) rs h.0.0 (unfold key in refl) (λ j. on j (l + 1) rs h.1)
    on i l (comment p ∷ rs) h = rw (ne_eqb 5 k (λ z. omega (arith, hi, z))) (passes i l (comment p) rs (on i (l + 1) rs h.1))

  -- ---- they are within the text

  inside-fields : (fs : List Field) (es : List Entry) → Each (λ e. InsideText (length t) (key_place e)) es → Each (λ e. InsideText (length t) (key_place e)) (map field_entry fs ++ es)
  unfolding Each key_place field_entry
  inside-fields [] es h = h
  inside-fields (f ∷ fs) es h = (omega arith, inside-fields fs es h)

  stands-inside : (p : Piece) → Stands t 0 p → InsideText (length t) (piece_at p)
  unfolding piece_at
  stands-inside p s = omega (arith, s.within)

  inside_on : (l : ℕ) (rs : List Record) → Each (λ r. Each (Stands t 0) (pieces r)) rs → Each (λ e. InsideText (length t) (key_place e)) (entries_on l rs)
  unfolding Each pieces key_place entries_on head_entry others
  inside_on l [] h = tt
  inside_on l (header v fs ∷ rs) h = (omega arith, inside-fields fs (entries_on (l + 1) rs) (inside_on (l + 1) rs h.1))
  inside_on l (reference p n fs ∷ rs) h = (stands-inside p h.0.0, inside-fields fs (entries_on (l + 1) rs) (inside_on (l + 1) rs h.1))
  inside_on l (group p fs ∷ rs) h = (stands-inside p h.0.0, inside-fields fs (entries_on (l + 1) rs) (inside_on (l + 1) rs h.1))
  inside_on l (program p fs ∷ rs) h = (stands-inside p h.0.0, inside-fields fs (entries_on (l + 1) rs) (inside_on (l + 1) rs h.1))
  inside_on l (comment p ∷ rs) h = (omega arith, inside_on (l + 1) rs h.1)

pub kind-few : (k : ℕ) (rs : List Record) → length (of_kind k rs) ≤ length rs
unfolding of_kind
kind-few k [] = omega arith
kind-few k (r ∷ rs) = go (eqb (code r) k) (kind-few k rs)
  where
    go : (t : Bool) → length (of_kind k rs) ≤ length rs → length (cond t (r ∷ of_kind k rs) (of_kind k rs)) ≤ suc (length rs)
    go true h = omega arith
    go false h = omega arith

-- ---- kinds without keys

no_keys_lem : (i : ℕ) (x : List ℕ) (rs : List Record) → Each (λ r. key r ≡ none) rs → key_ordinal_from i x rs ≡ none
unfolding Each key_ordinal_from equals_key
no_keys_lem i x [] h = refl
no_keys_lem i x (r ∷ rs) h = rw h.0 (no_keys_lem (i + 1) x rs h.1)

-- what is of no kind that has keys has none
keyless : (k : ℕ) → (2 ≤ k → k ≤ 4 → ⊥) → (rs : List Record) → Each (λ r. key r ≡ none) (of_kind k rs)
unfolding Each of_kind
keyless k n [] = tt
keyless k n (r ∷ rs) = go r (keyless k n rs)
  where
    other : (j : ℕ) (r : Record) → 2 ≤ j → j ≤ 4 → Each (λ r. key r ≡ none) (of_kind k rs) → Each (λ r. key r ≡ none) (cond (eqb j k) (r ∷ of_kind k rs) (of_kind k rs))
    other j r lo hi ih = rw (ne_eqb j k (λ z. n (omega (arith, lo, z)) (omega (arith, hi, z)))) ih

    none_here : (b : Bool) (r : Record) → key r ≡ none → Each (λ r. key r ≡ none) (of_kind k rs) → Each (λ r. key r ≡ none) (cond b (r ∷ of_kind k rs) (of_kind k rs))
    none_here true r e ih = unfold Each in (e, ih)
    none_here false r e ih = ih

    go : (r : Record) → Each (λ r. key r ≡ none) (of_kind k rs) → Each (λ r. key r ≡ none) (cond (eqb (code r) k) (r ∷ of_kind k rs) (of_kind k rs))
    go (header v fs) ih = unfold code in none_here (eqb 1 k) (header v fs) (unfold key in refl) ih
    go (reference p m fs) ih = unfold code in other 2 (reference p m fs) (omega arith) (omega arith) ih
    go (group p fs) ih = unfold code in other 3 (group p fs) (omega arith) (omega arith) ih
    go (program p fs) ih = unfold code in other 4 (program p fs) (omega arith) (omega arith) ih
    go (comment p) ih = unfold code in none_here (eqb 5 k) (comment p) (unfold key in refl) ih

-- ---- what is found, as an answer

found-answer : (o : Option ℕ) → ok_or (found_of o) missing ≡ find_answer_of (there o)
unfolding found_of there find_answer_of
found-answer none = refl
found-answer (some i) = refl

-- ---- a refusal of the check

pub find-refused : (t c : List ℕ) (n l : ℕ) → fresh t c ≡ refused n l → (k : ℕ) (x : List ℕ) → finding t c k x ≡ refused n l
unfolding finding
find-refused t c n l e k x = stops t c (λ rs. there (key_ordinal_from 0 x (of_kind k rs))) n l e

-- ---- over the text's own catalogue

module _ (t c : List ℕ) (own : Current t c) (k : ℕ) (x : List ℕ) where
  abbrev rs : List Record
  rs = records_of t

  pub finds : finding t c k x ≡ there (key_ordinal_from 0 x (of_kind k rs))
  unfolding finding
  finds = goes_on t c (λ rs. there (key_ordinal_from 0 x (of_kind k rs))) own

  -- another kind
  pub find-other : (2 ≤ k → k ≤ 4 → ⊥) → finding t c k x ≡ refused 25 0
  unfolding there
  find-other n = finds ∙ ap there (no_keys_lem 0 x (of_kind k rs) (keyless k n rs))

  module _ (lo : 2 ≤ k) (hi : k ≤ 4) where
    pub keys-told : KeysInText t k (entries_in c)
    unfolding entries_of
    keys-told =
        let e : entries_in c ≡ entries_on 0 rs = ap entries_in own.own ∙ text-entries t rs own.reads in
        record {
          inside = subst (Each (λ e. InsideText (length t) (key_place e))) (sym e) (inside_on t 0 rs (text-stand t rs own.reads));
          few = omega (arith, ap (λ s. counted k (entries_in s)) own.own, text-counted t rs own.reads k (omega arith), kind-few k rs, text-count t rs own.reads, text-fits t rs own.reads);
        }

    same-search : id_ordinal_from x 0 (keys_in t k (entries_in c)) ≡ key_ordinal_from 0 x (of_kind k rs)
    unfolding entries_of
    same-search =
        ap (λ s. id_ordinal_from x 0 (keys_in t k (entries_in s))) own.own ∙ ap (λ es. id_ordinal_from x 0 (keys_in t k es)) (text-entries t rs own.reads)
        ∙ on t k lo hi x 0 0 rs (text-stand t rs own.reads)

    pub find-served : ok_or (found_of (id_ordinal_from x 0 (keys_in t k (entries_in c)))) missing ≡ find_answer_of (finding t c k x)
    find-served =
        ap (λ o. ok_or (found_of o) missing) same-search ∙ found-answer (key_ordinal_from 0 x (of_kind k rs)) ∙ ap find_answer_of (sym finds)
