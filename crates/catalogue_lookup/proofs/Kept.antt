-- What holds of the entries of an accepted text: their numbers fit, and no more than 1,024 are programs. Keys and values are in the text.
use Prim.Native.Nat.{ℕ, zero, suc, ◌+◌, ◌^◌, ◌≤◌, ◌<◌}
use mathlib.Core.Path.{◌≡◌, refl, subst}
use mathlib.Core.List.{List, [], ◌∷◌, ◌++◌, map}
use mathlib.Core.Option.{Option, none, some}
use native.Mathlib.Omega.{arith}
use lib.ListN.{length, get_elem?}
use Rattle.format.specs.Lines.{Piece}
use Rattle.format.specs.Fields.{Field, last_of}
use Rattle.format.specs.Records.{Record, header, reference, group, program, comment, key, others}
use Rattle.format.specs.Reading.{read_text, accept, of_kind}
use Rattle.format.specs.Catalogue.{catalogue}
use Rattle.format.specs.Calls.{key_if_there, value_if_there}
use Rattle.format.specs.declared.Kind.{Kind}
use Rattle.byte_slices.specs.Stands.{Each, Stands}
use Rattle.accepted.specs.Pieces.{values, pieces}
use Rattle.accepted.specs.Sound as sound
use Rattle.accepted.specs.Sound.{Sound, Other}
use Rattle.lists.proofs.Bools.{never}
use Rattle.accepted.proofs.OfKind.{each-of_kind}
use Rattle.accepted.proofs.Fields.{Of, last_of-of}
use Rattle.accepted.proofs.Clean.{tag-bounds}
use Rattle.accepted.proofs.Text.{text-fits, text-count, text-stand, text-small, text-sound, text-programs}
use Rattle.catalogue_entries.specs.declared.Entry.{Entry}
use Rattle.catalogue_entries.specs.Entries.{piece_at, head_entry, field_entry, entries_on, entries_of, entries_in, counted, FitsPlace, FitsEntry}
use Rattle.catalogue_entries.proofs.Records.{counted-records}
use Rattle.catalogue_entries.proofs.Found.{entries-catalogue}

-- ---- from records to entries

each_append : {A : Type 0} (P : A → Type 0) (xs ys : List A) → Each P xs → Each P ys → Each P (xs ++ ys)
unfolding Each
each_append P [] ys h k = k
each_append P (x ∷ xs) ys h k = (h.0, each_append P xs ys h.1 k)

-- what holds of a record's pieces holds of its fields' values
piece-values : (P : Piece → Type 0) (r : Record) → Each P (pieces r) → Each P (values (others r))
unfolding Each pieces others values
piece-values P (header v fs) h = h
piece-values P (reference p n fs) h = h.1
piece-values P (group p fs) h = h.1
piece-values P (program p fs) h = h.1
piece-values P (comment p) h = tt

pub field-values : (P : Piece → Type 0) (fs : List Field) → Each P (values fs) → Each (λ f. P f.value) fs
unfolding Each values
field-values P [] h = tt
field-values P (f ∷ fs) h = (h.0, field-values P fs h.1)

pub record-values : (P : Piece → Type 0) (r : Record) → Each P (pieces r) → Each (λ f. P f.value) (others r)
record-values P r h = field-values P (others r) (piece-values P r h)

-- and of its key
key-stands : (P : Piece → Type 0) (r : Record) (p : Piece) → Each P (pieces r) → key r ≡ some p → P p
unfolding Each pieces key
key-stands P (header v fs) p h e = absurd (never (cc))
key-stands P (reference q n fs) p h e = let z : q ≡ p = cc in subst P z h.0
key-stands P (group q fs) p h e = let z : q ≡ p = cc in subst P z h.0
key-stands P (program q fs) p h e = let z : q ≡ p = cc in subst P z h.0
key-stands P (comment q) p h e = absurd (never (cc))

each-get : {A : Type 0} (P : A → Type 0) (xs : List A) (i : ℕ) (x : A) → Each P xs → get_elem? xs i ≡ some x → P x
unfolding Each
each-get P [] i x h e = absurd (never (cc))
each-get P (y ∷ xs) zero x h e = let z : y ≡ x = cc in subst P z h.0
each-get P (y ∷ xs) (suc i) x h e = each-get P xs i x h.1 e

-- the last with a tag is one of them
pub last-value : (P : Piece → Type 0) (a b : ℕ) (fs : List Field) (p : Piece) → Each (λ f. P f.value) fs → last_of a b fs ≡ some p → P p
last-value P a b fs p h e = let o : Of (λ f. P f.value) a b p = last_of-of (λ f. P f.value) a b fs p h e in subst P o.value o.holds

module _ (P : Piece → Type 0) (Q : Entry → Type 0)
    (own : (l : ℕ) → l < 2 ^ 32 → (r : Record) → sound.FitsRecord r → Each P (pieces r) → Q (head_entry l r))
    (field : (k : Kind) (f : Field) → Other k f → P f.value → Q (field_entry f)) where
  each-fields : (k : Kind) (fs : List Field) → Each (Other k) fs → Each (λ f. P f.value) fs → Each Q (map field_entry fs)
  unfolding Each
  each-fields k [] h p = tt
  each-fields k (f ∷ fs) h p = (field k f h.0 p.0, each-fields k fs h.1 p.1)

  each-entries : (l : ℕ) (rs : List Record) → l + length rs ≤ 2 ^ 32 → Each Sound rs → Each (λ r. Each P (pieces r)) rs → Each Q (entries_on l rs)
  unfolding Each entries_on
  each-entries l [] n h p = tt
  each-entries l (r ∷ rs) n h p = (
    own l (omega arith) r h.0.fits p.0,
    each_append Q (map field_entry (others r)) (entries_on (l + 1) rs)
        (each-fields (sound.kind r) (others r) h.0.other (record-values P r p.0))
        (each-entries (l + 1) rs (omega arith) h.1 p.1),
  )

-- ---- numbers that fit

abbrev Small : Piece → Type 0
Small p = p.at + length p.bytes ≤ 16777216

small-fits : (p : Piece) → Small p → FitsPlace (piece_at p)
unfolding piece_at
small-fits p h = (omega arith, omega arith)

own-fits : (l : ℕ) → l < 2 ^ 32 → (r : Record) → sound.FitsRecord r → Each Small (pieces r) → FitsEntry (head_entry l r)
unfolding sound.FitsRecord Each pieces FitsEntry head_entry
own-fits l b (header v fs) h p = (h.0, h.1, b)
own-fits l b (reference q n fs) h p = (small-fits q p.0, omega (arith, h.1), b)
own-fits l b (group q fs) h p = (small-fits q p.0, b)
own-fits l b (program q fs) h p = (small-fits q p.0, b)
own-fits l b (comment q) h p = (small-fits q p.0, b)

field_fits : (k : Kind) (f : Field) → Other k f → Small f.value → FitsEntry (field_entry f)
unfolding FitsEntry field_entry
field_fits k f o s =
    let t = tag-bounds f.tag₀ f.tag₁ o.tag in
    (omega (arith, t.0.1), omega (arith, t.1.1), small-fits f.value s)

-- ---- an accepted text

module _ (t : List ℕ) (rs : List Record) (h : read_text t ≡ accept rs) where
  pub text-fit : Each FitsEntry (entries_of rs)
  unfolding entries_of
  text-fit = each-entries Small FitsEntry own-fits field_fits 0 rs (omega (arith, text-count t rs h, text-fits t rs h)) (text-sound t rs h) (text-small t rs h)

  -- its catalogue is read back
  pub text-entries : entries_in (catalogue rs) ≡ entries_of rs
  text-entries = entries-catalogue rs text-fit

  pub text-counted : (k : ℕ) → k < 6 → counted k (entries_in (catalogue rs)) ≡ length (of_kind k rs)
  text-counted k l = rw (text-entries, counted-records k l rs) refl

  pub text-few : counted 4 (entries_in (catalogue rs)) ≤ 1024
  text-few = omega (arith, text-counted 4 (omega arith), text-programs t rs h)

  -- ---- a record's key and values are bytes of the text

  module _ (k i : ℕ) where
    one-stands : (r : Record) → get_elem? (of_kind k rs) i ≡ some r → Each (Stands t 0) (pieces r)
    one-stands r e = each-get (λ r. Each (Stands t 0) (pieces r)) (of_kind k rs) i r (each-of_kind (λ r. Each (Stands t 0) (pieces r)) k rs (text-stand t rs h)) e

    pub text-keyed : (p : Piece) → key_if_there (get_elem? (of_kind k rs) i) ≡ some p → Stands t 0 p
    unfolding key_if_there
    text-keyed p e = go (get_elem? (of_kind k rs) i) refl e
      where
        go : (o : Option Record) → get_elem? (of_kind k rs) i ≡ o → key_if_there o ≡ some p → Stands t 0 p
        go none q e = absurd (never (cc))
        go (some r) q e = key-stands (Stands t 0) r p (one-stands r q) e

    pub text-valued : (a b : ℕ) (p : Piece) → value_if_there a b (get_elem? (of_kind k rs) i) ≡ some p → Stands t 0 p
    unfolding value_if_there
    text-valued a b p e = go (get_elem? (of_kind k rs) i) refl e
      where
        go : (o : Option Record) → get_elem? (of_kind k rs) i ≡ o → value_if_there a b o ≡ some p → Stands t 0 p
        go none q e = absurd (never (cc))
        go (some r) q e = last-value (Stands t 0) a b (others r) p (record-values (Stands t 0) r (one-stands r q)) e
