-- What the answer to a field says of what was judged: a refusal is that refusal, and any other answer is an accepted field.
use Prim.Native.Nat.{ℕ, ◌+◌}
use mathlib.Core.Path.{◌≡◌, refl, sym, ap, ◌∙◌}
use mathlib.Core.Bool.{Bool, true, false, not, cond, false≢true}
use mathlib.Core.List.{List, [], ◌∷◌}
use mathlib.Core.Logic.{◌⊎◌, inl, inr}
use mathlib.Core.Option.{Option, none, some}
use Rattle.std.specs.Prelude.{Ok, Err}
use native.Mathlib.Omega.{arith}
use lib.Dec.{eqb, ltb}
use lib.ListN.{length}
use borrow.Author.Tests.{eqb-false}
use Rattle.format.specs.Bytes.{none?}
use Rattle.format.specs.Decimal.{worth}
use Rattle.format.specs.Decimal.{span}
use Rattle.format.specs.Fields.{Field, JudgedPiece, good, refused_piece, good_then, is_value, is_wide, allows, plain, spelled, version_field, length_field, value_field, is_tag, field}
use Rattle.format.specs.Fields as fields
use Rattle.format.specs.Version.{version}
use Rattle.format.specs.declared.Version.{Version}
use Rattle.format.specs.declared.Kind.{Kind}
use Rattle.format.specs.declared.Kind.TheVariants.{Header, ReferenceSequence}
use Rattle.byte_slices.specs.Upto.{before}
use Rattle.field_tag.specs.Numbers.{is_version, is_length}
use Rattle.field.proofs.value.Taken.{some-value, none_allowed}
use Rattle.field.specs.declared.ParsedField.{ParsedField}
use Rattle.field.specs.Parsed.{kept_by, parsed_of, field_numbers}
use Rattle.field.proofs.Judged.{judged-length, judged-version, judged-plain}
use Rattle.field.proofs.Next.{then-onward}

-- an accepted field has an answer that is no refusal, has a value of at least one byte, and LN of SQ is at least 1
pub record Told (k : Kind) (f : Field) : Type 0 where
  pub parsed : ParsedField
  pub answer : field_numbers k f ≡ Ok parsed
  pub some : length f.value.bytes ≡ 0 → ⊥
  pub sized : is_length k f.tag₀ f.tag₁ ≡ true → worth f.value.bytes ≡ 0 → ⊥

-- a refusal has a number
unfoldable Sound : Kind → JudgedPiece → Type 0
Sound k (refused_piece n) = n ≡ 0 → ⊥
Sound k (good f) = Told k f
Sound k (good_then f m) = Told k f

plain-sound : (k : Kind) (a b at : ℕ) (v : List ℕ) → is_length k a b ≡ false → is_version k a b ≡ false → Sound k (plain k a b at v)
unfolding Sound plain field_numbers
plain-sound k a b at v e d = go (allows k a b v) refl
  where
    f : Field
    f = record { tag₀ = a; tag₁ = b; value = record { at = at; bytes = v } }

    go : (t : Bool) → allows k a b v ≡ t → Sound k (cond t (good f) (refused_piece 10))
    go true q = record { parsed = kept_by a b (length v); answer = rw (e, d) refl; some = some-value (allows k a b) (none_allowed k a b) v q; sized = λ l. absurd (false≢true (sym e ∙ l)) }
    go false q = λ z. omega arith

version-sound : (at : ℕ) (v : List ℕ) → Sound Header (version_field at v)
unfolding Sound version_field plain field_numbers is_length allows is_wide is_value
version-sound at v = go (is_value v) refl (version v) refl
  where
    f : Field
    f = record { tag₀ = 86; tag₁ = 78; value = record { at = at; bytes = v } }

    go : (t : Bool) → is_value v ≡ t → (o : Option Version) → version v ≡ o → Sound Header (cond t (spelled o (cond t (good f) (refused_piece 10))) (refused_piece 10))
    go true q none k = λ z. omega arith
    go true q (some w) k = record { parsed = record { tag_0 = 86; tag_1 = 78; len = length v; major = w.major; minor = w.minor; length = 0 }; answer = rw k refl; some = some-value is_value refl v q; sized = λ l. absurd (false≢true l) }
    go false q o k = λ z. omega arith

length-sound : (at : ℕ) (ds more : List ℕ) → Sound ReferenceSequence (length_field at (ds, more))
unfolding Sound length_field field_numbers
length-sound at [] more = λ z. omega arith
length-sound at (b ∷ ds) more =
    go (not (ltb (worth (b ∷ ds)) 18446744073709551616)) (eqb (worth (b ∷ ds)) 0) refl (not (ltb (worth (b ∷ ds)) 2147483648)) (none? more)
  where
    f : Field
    f = record { tag₀ = 76; tag₁ = 78; value = record { at = at; bytes = b ∷ ds } }

    told : eqb (worth (b ∷ ds)) 0 ≡ false → Told ReferenceSequence f
    told e = record { parsed = _; answer = refl; some = λ z. omega arith; sized = λ l. eqb-false (worth (b ∷ ds)) 0 e }

    go : (t u : Bool) → eqb (worth (b ∷ ds)) 0 ≡ u → (v w : Bool)
        → Sound ReferenceSequence (cond t (refused_piece 12) (cond u (refused_piece 13) (cond v (refused_piece 27) (cond w (good f) (good_then f 6)))))
    go true u e v w = λ z. omega arith
    go false true e v w = λ z. omega arith
    go false false e true w = λ z. omega arith
    go false false e false true = told e
    go false false e false false = told e

value-sound : (k : Kind) (a b at : ℕ) (v : List ℕ) → Sound k (value_field k a b at v)
value-sound k a b at v = go (is_length k a b) refl (is_version k a b) refl
  where
    go : (t : Bool) → is_length k a b ≡ t → (u : Bool) → is_version k a b ≡ u → Sound k (value_field k a b at v)
    go true e u d =
        let j = judged-length a b at v k e in
        rw (j.1, j.0) (length-sound at (span v).0 (span v).1)
    go false e true d = let j = judged-version a b at v k d in rw (j.1, j.0) (version-sound at v)
    go false e false d = rw (judged-plain a b at v k e d) (plain-sound k a b at v e d)

field-sound : (k : Kind) (at : ℕ) (p : List ℕ) → Sound k (field k at p)
unfolding Sound field
field-sound k at [] = λ z. omega arith
field-sound k at (a ∷ []) = λ z. omega arith
field-sound k at (a ∷ b ∷ []) = go (is_tag a b)
  where
    go : (t : Bool) → Sound k (cond t (refused_piece 9) (refused_piece 8))
    go true = λ z. omega arith
    go false = λ z. omega arith
field-sound k at (a ∷ b ∷ c ∷ v) = go (is_tag a b) (eqb c 58)
  where
    go : (t u : Bool) → Sound k (cond t (cond u (value_field k a b (at + 3) v) (refused_piece 9)) (refused_piece 8))
    go true true = value-sound k a b (at + 3) v
    go true false = λ z. omega arith
    go false u = λ z. omega arith

-- ---- what an answer says

pub parsed-bad : (k : Kind) (at n : ℕ) (p : List ℕ) → parsed_of k (field k at p) ≡ Err n → field k at p ≡ refused_piece n
unfolding Sound parsed_of
parsed-bad k at n p e = go (field k at p) (field-sound k at p) e
  where
    go : (j : JudgedPiece) → Sound k j → parsed_of k j ≡ Err n → j ≡ refused_piece n
    go (refused_piece m) h e = cc
    go (good f) h e = cc (h.answer)
    go (good_then f m) h e = cc (h.answer)

-- a refusal that is answered has a number
pub parsed-numbered : (k : Kind) (at n : ℕ) (p : List ℕ) → parsed_of k (field k at p) ≡ Err n → n ≡ 0 → ⊥
unfolding Sound parsed_of
parsed-numbered k at n p e z = go (field k at p) (field-sound k at p) e
  where
    go : (j : JudgedPiece) → Sound k j → parsed_of k j ≡ Err n → ⊥
    go (refused_piece m) h e = let q : m ≡ n = cc in h (q ∙ z)
    go (good f) h e = absurd (let z : ◌≡◌ {A = ℕ} 0 1 = cc (h.answer) in omega arith)
    go (good_then f m) h e = absurd (let z : ◌≡◌ {A = ℕ} 0 1 = cc (h.answer) in omega arith)

-- the field that was accepted, whose piece is used up or goes on
pub record Found (k : Kind) (at : ℕ) (s : List ℕ) : Type 0 where
  pub field : Field
  pub told : Told k field
  pub judged : (fields.field k at (before 9 s) ≡ good field) ⊎ (fields.field k at (before 9 s) ≡ good_then field 6)

pub parsed-found : (k : Kind) (at : ℕ) (s : List ℕ) (g : ParsedField) → parsed_of k (field k at (before 9 s)) ≡ Ok g → Found k at s
unfolding Sound parsed_of
parsed-found k at s g z = go (field k at (before 9 s)) refl (field-sound k at (before 9 s)) z
  where
    go : (j : JudgedPiece) → field k at (before 9 s) ≡ j → Sound k j → parsed_of k j ≡ Ok g → Found k at s
    go (refused_piece m) e h z = cc
    go (good f) e h z = record { field = f; told = h; judged = inl e }
    go (good_then f n) e h z = record { field = f; told = h; judged = inr (e ∙ ap (good_then f) (then-onward k at s f n e).1) }
