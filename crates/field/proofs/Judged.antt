-- What the readers of a value answer, as what is judged of its bytes.
use Prim.Native.Nat.{ℕ}
use mathlib.Core.Path.{◌≡◌, refl, sym, ap, ◌∙◌}
use mathlib.Core.Bool.{Bool, true, false, ◌||◌, not, cond, false≢true}
use mathlib.Core.List.{List}
use mathlib.Core.Option.{Option, none, some}
use Rattle.std.specs.Prelude.{Ok, Err}
use lib.ListN.{length}
use lib.Dec.{eqb, ltb}
use Rattle.format.specs.Bytes.{none?}
use Rattle.format.specs.Decimal.{worth, span}
use Rattle.format.specs.Fields.{is_value, is_wide, allows, good, refused_piece, good_then, plain, spelled, version_field, length_field, value_field}
use Rattle.format.specs.Fields as fields
use Rattle.format.specs.Version.{version}
use Rattle.format.specs.declared.Version.{Version}
use Rattle.format.specs.declared.Kind.{Kind}
use Rattle.format.specs.declared.Kind.TheVariants.{Header, ReferenceSequence, ReadGroup, Program, Comment}
use Rattle.field_tag.specs.Numbers.{is_version, is_length}
use Rattle.field.specs.Taken.{taken_of}
use Rattle.field.proofs.value.Taken.{a-value, no_value_lem, none_allowed}
use Rattle.field_length.specs.Parsed.{parsed_length_of}
use Rattle.field.specs.Parsed.{kept_by, versioned_by, length_field_by, parsed_of, field_numbers}

-- in HD no value is in UTF-8
pub header-value : (k : Kind) (a b : ℕ) (v : List ℕ) → k ≡ Header → is_value v ≡ allows k a b v
unfolding allows is_wide
header-value k a b v e = ap (λ l. allows l a b v) (sym e)

-- ---- LN of SQ

-- wherever its value is
pub length-anywhere : (at : ℕ) (ds more : List ℕ) → parsed_of ReferenceSequence (length_field at (ds, more)) ≡ length_field_by (parsed_length_of (length_field 0 (ds, more)))
unfolding parsed_of parsed_length_of length_field length_field_by
length-anywhere at ds more =
    go (none? ds || not (ltb (worth ds) 18446744073709551616)) (eqb (worth ds) 0) (not (ltb (worth ds) 2147483648)) (none? more)
  where
    f : ℕ → fields.Field
    f from = record { tag₀ = 76; tag₁ = 78; value = record { at = from; bytes = ds } }

    judged : ℕ → Bool → Bool → Bool → Bool → fields.JudgedPiece
    judged from t u v w = cond t (refused_piece 12) (cond u (refused_piece 13) (cond v (refused_piece 27) (cond w (good (f from)) (good_then (f from) 6))))

    go : (t u v w : Bool) → parsed_of ReferenceSequence (judged at t u v w) ≡ length_field_by (parsed_length_of (judged 0 t u v w))
    go true u v w = refl
    go false true v w = refl
    go false false true w = refl
    go false false false true = refl
    go false false false false = refl

-- ---- by kind and tag

module _ (a b at : ℕ) (v : List ℕ) where
  -- VN of HD and LN of SQ are judged as numbers
  pub judged-length : (k : Kind) → is_length k a b ≡ true → (k ≡ ReferenceSequence) × (value_field k a b at v ≡ length_field at (span v))
  unfolding value_field is_length
  judged-length Header e = absurd (false≢true e)
  judged-length ReferenceSequence e = (refl, rw e refl)
  judged-length ReadGroup e = absurd (false≢true e)
  judged-length Program e = absurd (false≢true e)
  judged-length Comment e = absurd (false≢true e)

  pub judged-version : (k : Kind) → is_version k a b ≡ true → (k ≡ Header) × (value_field k a b at v ≡ version_field at v)
  unfolding value_field is_version
  judged-version Header e = (refl, rw e refl)
  judged-version ReferenceSequence e = absurd (false≢true e)
  judged-version ReadGroup e = absurd (false≢true e)
  judged-version Program e = absurd (false≢true e)
  judged-version Comment e = absurd (false≢true e)

  -- any other field is plain, whatever the kind
  pub judged-plain : (k : Kind) → is_length k a b ≡ false → is_version k a b ≡ false → value_field k a b at v ≡ plain k a b at v
  unfolding value_field is_length is_version
  judged-plain Header e d = rw d refl
  judged-plain ReferenceSequence e d = rw e refl
  judged-plain ReadGroup e d = refl
  judged-plain Program e d = refl
  judged-plain Comment e d = refl

  -- ---- what is answered

  pub value-length : (k : Kind) → is_length k a b ≡ true → parsed_of k (value_field k a b at v) ≡ length_field_by (parsed_length_of (length_field 0 (span v)))
  value-length k e =
      let j = judged-length k e in
      ap (parsed_of k) j.1 ∙ ap (λ l. parsed_of l (length_field at (span v))) j.0 ∙ length-anywhere at (span v).0 (span v).1

  pub value_none : (k : Kind) → is_length k a b ≡ false → taken_of (allows k a b) v ≡ 0 → parsed_of k (value_field k a b at v) ≡ Err 10
  unfolding parsed_of plain version_field
  value_none k e z = go (is_version k a b) refl
    where
      n : allows k a b v ≡ false
      n = no_value_lem (allows k a b) (none_allowed k a b) v z

      go : (t : Bool) → is_version k a b ≡ t → parsed_of k (value_field k a b at v) ≡ Err 10
      go true d = let j = judged-version k d in ap (parsed_of k) j.1 ∙ rw (header-value k a b v j.0, n) refl
      go false d = ap (parsed_of k) (judged-plain k e d) ∙ rw n refl

  pub value-version : (k : Kind) → is_version k a b ≡ true → (taken_of (allows k a b) v ≡ 0 → ⊥)
      → parsed_of k (value_field k a b at v) ≡ versioned_by (taken_of (allows k a b) v) (version v)
  unfolding parsed_of plain version_field field_numbers allows is_wide
  value-version k d z =
      let j = judged-version k d in
      let w = a-value (allows k a b) v z in
      ap (parsed_of k) j.1 ∙ ap (λ l. parsed_of l (version_field at v)) j.0 ∙ rw (header-value k a b v j.0 ∙ w.0, w.1) (go (version v) refl)
    where
      f : fields.Field
      f = record { tag₀ = 86; tag₁ = 78; value = record { at = at; bytes = v } }

      go : (o : Option Version) → version v ≡ o → parsed_of Header (spelled o (good f)) ≡ versioned_by (length v) o
      go none q = refl
      go (some w) q = rw q refl

  pub value-kept : (k : Kind) → is_length k a b ≡ false → is_version k a b ≡ false → (taken_of (allows k a b) v ≡ 0 → ⊥)
      → parsed_of k (value_field k a b at v) ≡ Ok (kept_by a b (taken_of (allows k a b) v))
  unfolding parsed_of plain field_numbers
  value-kept k e d z = ap (parsed_of k) (judged-plain k e d) ∙ rw ((a-value (allows k a b) v z).0, (a-value (allows k a b) v z).1, e, d) refl
