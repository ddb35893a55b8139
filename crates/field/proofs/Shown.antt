-- What the answer to an accepted field shows: its tag, how long its value is, and the numbers that VN of HD and LN of SQ say.
use Prim.Native.Nat.{ℕ}
use mathlib.Core.Path.{◌≡◌, refl, sym, ap, ◌∙◌}
use mathlib.Core.Bool.{Bool, true, false, ◌&&◌, false≢true, and-eq-true_iff}
use mathlib.Core.Option.{Option, none, some}
use native.Mathlib.Omega.{arith}
use lib.Dec.{eqb}
use lib.ListN.{length}
use borrow.Author.Tests.{eqb-true}
use Rattle.format.specs.Decimal.{worth}
use Rattle.format.specs.Fields.{Field}
use Rattle.format.specs.Version.{version}
use Rattle.format.specs.declared.Version.{Version}
use Rattle.format.specs.declared.Kind.{Kind}
use Rattle.format.specs.declared.Kind.TheVariants.{Header, ReferenceSequence, ReadGroup, Program, Comment}
use Rattle.field_tag.specs.Numbers.{is_version, is_length}
use Rattle.std.specs.Prelude.{Ok}
use Rattle.field.specs.declared.ParsedField.{ParsedField}
use Rattle.field.specs.Parsed.{kept_by, versioned_by, sized_by, field_numbers}
use Rattle.field.proofs.Answer.{Told}

-- the tag and the length that are answered are the field's
pub record Shown (f : Field) (g : ParsedField) : Type 0 where
  pub first : g.tag_0 ≡ f.tag₀
  pub second : g.tag_1 ≡ f.tag₁
  pub len : g.len ≡ length f.value.bytes

-- ---- VN is one tag, and LN another

both : (a b x y : ℕ) → (eqb a x && eqb b y) ≡ true → (a ≡ x) × (b ≡ y)
both a b x y h = let e = (and-eq-true_iff (eqb a x) (eqb b y)).0 h in (eqb-true a x e.0, eqb-true b y e.1)

version-tag : (k : Kind) (a b : ℕ) → is_version k a b ≡ true → (a ≡ 86) × (b ≡ 78)
unfolding is_version
version-tag Header a b h = both a b 86 78 h
version-tag ReferenceSequence a b h = absurd (false≢true h)
version-tag ReadGroup a b h = absurd (false≢true h)
version-tag Program a b h = absurd (false≢true h)
version-tag Comment a b h = absurd (false≢true h)

length-tag : (k : Kind) (a b : ℕ) → is_length k a b ≡ true → (a ≡ 76) × (b ≡ 78)
unfolding is_length
length-tag Header a b h = absurd (false≢true h)
length-tag ReferenceSequence a b h = both a b 76 78 h
length-tag ReadGroup a b h = absurd (false≢true h)
length-tag Program a b h = absurd (false≢true h)
length-tag Comment a b h = absurd (false≢true h)

-- no field is both
pub no-version : (k : Kind) (a b : ℕ) → is_version k a b ≡ true → is_length k a b ≡ false
unfolding is_version is_length
no-version Header a b h = refl
no-version ReferenceSequence a b h = absurd (false≢true h)
no-version ReadGroup a b h = refl
no-version Program a b h = refl
no-version Comment a b h = refl

-- ---- what is answered

module _ (k : Kind) (f : Field) where
  size : ℕ
  size = length f.value.bytes

  pub valued-length : is_length k f.tag₀ f.tag₁ ≡ true → field_numbers k f ≡ Ok (sized_by (length f.value.bytes) (worth f.value.bytes))
  unfolding field_numbers
  valued-length h = rw h refl

  pub valued-kept : is_length k f.tag₀ f.tag₁ ≡ false → is_version k f.tag₀ f.tag₁ ≡ false → field_numbers k f ≡ Ok (kept_by f.tag₀ f.tag₁ (length f.value.bytes))
  unfolding field_numbers
  valued-kept h n = rw (h, n) refl

  valued_by : is_version k f.tag₀ f.tag₁ ≡ true → field_numbers k f ≡ versioned_by (length f.value.bytes) (version f.value.bytes)
  unfolding field_numbers
  valued_by h = rw (no-version k f.tag₀ f.tag₁ h, h) refl

  module _ (t : Told k f) where
    -- a version that was accepted was spelled
    pub told-version : is_version k f.tag₀ f.tag₁ ≡ true → (v : Version) × (version f.value.bytes ≡ some v)
    unfolding versioned_by
    told-version h = go (version f.value.bytes) refl (sym (valued_by h) ∙ t.answer)
      where
        go : (o : Option Version) → version f.value.bytes ≡ o → versioned_by (length f.value.bytes) o ≡ Ok t.parsed → (v : Version) × (version f.value.bytes ≡ some v)
        go none e z = absurd (let z : ◌≡◌ {A = ℕ} 0 1 = cc in omega arith)
        go (some v) e z = (v, e)

    pub valued-version : (h : is_version k f.tag₀ f.tag₁ ≡ true)
        → field_numbers k f ≡ versioned_by (length f.value.bytes) (some (told-version h).0)
    valued-version h = valued_by h ∙ ap (versioned_by (length f.value.bytes)) (told-version h).1

    pub shown : (g : ParsedField) → field_numbers k f ≡ Ok g → Shown f g
    unfolding versioned_by
    shown g q = go (is_length k f.tag₀ f.tag₁) refl (is_version k f.tag₀ f.tag₁) refl
      where
        go : (l : Bool) → is_length k f.tag₀ f.tag₁ ≡ l → (v : Bool) → is_version k f.tag₀ f.tag₁ ≡ v → Shown f g
        go true h v n =
            let e = length-tag k f.tag₀ f.tag₁ h in
            let p : sized_by (length f.value.bytes) (worth f.value.bytes) ≡ g = cc (valued-length h) in
            rw (← p) (record { first = sym e.0; second = sym e.1; len = refl })
        go false h true n =
            let e = version-tag k f.tag₀ f.tag₁ n in
            let p : fresh (told-version n).0 ≡ g = cc (valued-version n) in
            rw (← p) (record { first = sym e.0; second = sym e.1; len = refl })
          where
            fresh : Version → ParsedField
            fresh v = record { tag_0 = 86; tag_1 = 78; len = length f.value.bytes; major = v.major; minor = v.minor; length = 0 }
        go false h false n =
            let p : kept_by f.tag₀ f.tag₁ (length f.value.bytes) ≡ g = cc (valued-kept h n) in
            rw (← p) (record { first = refl; second = refl; len = refl })
