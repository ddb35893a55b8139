-- What an accepted field says of the bytes that it was read from, and of the byte after it.
use Prim.Native.Nat.{ℕ, ◌+◌, ◌≤◌, ◌<◌}
use mathlib.Core.Path.{◌≡◌, refl, sym, ap, subst, ◌∙◌}
use mathlib.Core.Bool.{Bool, true, false, ◌&&◌, ◌||◌, not, cond, and-eq-true_iff}
use mathlib.Core.List.{List, [], ◌∷◌, ◌++◌}
use mathlib.Core.Option.{Option, none, some}
use native.Mathlib.Omega.{arith}
use lib.ListN.{length, take, drop, get_or, length-append}
use lib.Seq.{take-length, take-take, take-append_seam}
use lib.Dec.{eqb, ltb}
use borrow.Author.Tests.{eqb-true}
use Rattle.format.specs.Bytes.{digit, none?}
use Rattle.format.specs.Decimal.{worth}
use Rattle.format.specs.Decimal.{span}
use Rattle.format.specs.Fields.{Field, JudgedPiece, good, refused_piece, good_then, is_value, allows, plain, spelled, version_field, length_field, value_field, is_tag, field}
use Rattle.format.specs.Version.{version}
use Rattle.format.specs.declared.Version.{Version}
use Rattle.format.specs.declared.Kind.{Kind}
use Rattle.format.specs.declared.Kind.TheVariants.{Header, ReferenceSequence, ReadGroup, Program, Comment}
use Rattle.byte_slices.specs.Upto.{upto, before}
use Rattle.byte_slices.proofs.Before.{before-length}
use Rattle.field.proofs.Place.{in_place, field-in-place, upto-value}

-- ---- a value among the bytes `p`

-- the field with the tag `a`, `b` whose value starts at `at`, the first byte of `p`
pub record Kept (a b at : ℕ) (p : List ℕ) (f : Field) : Type 0 where
  pub first : f.tag₀ ≡ a
  pub second : f.tag₁ ≡ b
  pub starts : f.value.at ≡ at
  pub bytes : f.value.bytes ≡ take (length f.value.bytes) p

-- its value is all of `p`, or `p` goes on where a tab is due
unfoldable pub Used : ℕ → ℕ → ℕ → List ℕ → JudgedPiece → Type 0
Used a b at p (refused_piece n) = Unit
Used a b at p (good f) = Kept a b at p f × (length f.value.bytes ≡ length p)
Used a b at p (good_then f n) = Kept a b at p f × (n ≡ 6) × (length f.value.bytes < length p)

plain-used : (k : Kind) (a b at : ℕ) (p : List ℕ) → Used a b at p (plain k a b at p)
unfolding Used plain
plain-used k a b at p = go (allows k a b p)
  where
    go : (t : Bool) → Used a b at p (cond t (good (record { tag₀ = a; tag₁ = b; value = record { at = at; bytes = p } })) (refused_piece 10))
    go true = (record { first = refl; second = refl; starts = refl; bytes = sym (take-length p) }, refl)
    go false = tt

version-used : (at : ℕ) (p : List ℕ) → Used 86 78 at p (version_field at p)
unfolding Used version_field
version-used at p = go (is_value p) (version p)
  where
    go : (t : Bool) (o : Option Version) → Used 86 78 at p (cond t (spelled o (plain Header 86 78 at p)) (refused_piece 10))
    go true none = tt
    go true (some v) = plain-used Header 86 78 at p
    go false o = tt

span-append : (s : List ℕ) → (span s).0 ++ (span s).1 ≡ s
unfolding span
span-append [] = refl
span-append (b ∷ s) = go (digit b) (span-append s)
  where
    go : (t : Bool) → (span s).0 ++ (span s).1 ≡ s
        → (cond {A = List ℕ × List ℕ} t (b ∷ (span s).0, (span s).1) ([], b ∷ s)).0
        ++ (cond {A = List ℕ × List ℕ} t (b ∷ (span s).0, (span s).1) ([], b ∷ s)).1
        ≡ b ∷ s
    go true e = ap (λ l. b ∷ l) e
    go false e = refl

-- `ds` and then `more`
length-used : (at : ℕ) (ds more : List ℕ) → Used 76 78 at (ds ++ more) (length_field at (ds, more))
unfolding Used length_field
length-used at ds more = go (none? ds || not (ltb (worth ds) 18446744073709551616)) (eqb (worth ds) 0) (not (ltb (worth ds) 2147483648)) more
  where
    f : Field
    f = record { tag₀ = 76; tag₁ = 78; value = record { at = at; bytes = ds } }

    kept : (l : List ℕ) → Kept 76 78 at (ds ++ l) f
    kept l = record { first = refl; second = refl; starts = refl; bytes = sym (take-append_seam ds l) }

    go : (t u v : Bool) (l : List ℕ)
        → Used 76 78 at (ds ++ l) (cond t (refused_piece 12) (cond u (refused_piece 13) (cond v (refused_piece 27) (cond (none? l) (good f) (good_then f 6)))))
    go true u v l = tt
    go false true v l = tt
    go false false true l = tt
    go false false false [] = (kept [], omega (arith, length-append ds []))
    go false false false (b ∷ l) = (kept (b ∷ l), refl, omega (arith, length-append ds (b ∷ l)))

value-used : (k : Kind) (a b at : ℕ) (p : List ℕ) → Used a b at p (value_field k a b at p)
unfolding value_field
value-used Header a b at p = go (eqb a 86 && eqb b 78) refl
  where
    go : (t : Bool) → (eqb a 86 && eqb b 78) ≡ t → Used a b at p (cond t (version_field at p) (plain Header a b at p))
    go true e =
        let h = (and-eq-true_iff (eqb a 86) (eqb b 78)).0 e in
        rw (eqb-true a 86 h.0, eqb-true b 78 h.1) (version-used at p)
    go false e = plain-used Header a b at p
value-used ReferenceSequence a b at p = go (eqb a 76 && eqb b 78) refl
  where
    go : (t : Bool) → (eqb a 76 && eqb b 78) ≡ t → Used a b at p (cond t (length_field at (span p)) (plain ReferenceSequence a b at p))
    go true e =
        let h = (and-eq-true_iff (eqb a 76) (eqb b 78)).0 e in
        rw
        (eqb-true a 76 h.0, eqb-true b 78 h.1)
        (subst (λ (q : List ℕ). Used 76 78 at q (length_field at (span p))) (span-append p) (length-used at (span p).0 (span p).1))
    go false e = plain-used ReferenceSequence a b at p
value-used ReadGroup a b at p = plain-used ReadGroup a b at p
value-used Program a b at p = plain-used Program a b at p
value-used Comment a b at p = plain-used Comment a b at p

-- ---- a field at the front of `s`, its first byte at `at`

-- its piece is used up, or goes on where a tab is due
unfoldable pub Onward : ℕ → List ℕ → JudgedPiece → Type 0
Onward at s (refused_piece n) = Unit
Onward at s (good f) = Kept (get_or s 0 0) (get_or s 1 0) (at + 3) (drop 3 s) f × (3 + length f.value.bytes ≡ upto 9 s)
Onward at s (good_then f n) = Kept (get_or s 0 0) (get_or s 1 0) (at + 3) (drop 3 s) f × (n ≡ 6) × (3 + length f.value.bytes < upto 9 s)

-- the value's bytes, which come before the next tab, are bytes of the line
longer : (a b at : ℕ) (v : List ℕ) (f : Field) → Kept a b at (before 9 v) f → length f.value.bytes ≤ upto 9 v → Kept a b at v f
unfolding before
longer a b at v f h l =
    record {
      first = h.first;
      second = h.second;
      starts = h.starts;
      bytes = h.bytes ∙ take-take (length f.value.bytes) (upto 9 v) v l;
    }

onward : (a b c at : ℕ) (v : List ℕ) → upto 9 (a ∷ b ∷ c ∷ v) ≡ 3 + upto 9 v
    → (j : JudgedPiece) → Used a b (at + 3) (before 9 v) j → Onward at (a ∷ b ∷ c ∷ v) j
unfolding Used Onward
onward a b c at v up (refused_piece n) h = tt
onward a b c at v up (good f) h =
    let l : length (before 9 v) ≡ upto 9 v = before-length 9 v in
    (longer a b (at + 3) v f h.0 (omega (arith, h.1, l)), omega (arith, h.1, l, up))
onward a b c at v up (good_then f n) h =
    let l : length (before 9 v) ≡ upto 9 v = before-length 9 v in
    (longer a b (at + 3) v f h.0 (omega (arith, h.2, l)), h.1, omega (arith, h.2, l, up))

place-onward : (k : Kind) (at : ℕ) (s : List ℕ) → Onward at s (in_place k at s)
unfolding Onward in_place
place-onward k at [] = tt
place-onward k at (a ∷ []) = tt
place-onward k at (a ∷ b ∷ []) = go (is_tag a b)
  where
    go : (t : Bool) → Onward at (a ∷ b ∷ []) (cond t (refused_piece 9) (refused_piece 8))
    go true = tt
    go false = tt
place-onward k at (a ∷ b ∷ c ∷ v) = go (is_tag a b) refl (eqb c 58) refl
  where
    go : (t : Bool) → is_tag a b ≡ t → (u : Bool) → eqb c 58 ≡ u
        → Onward at (a ∷ b ∷ c ∷ v) (cond t (cond u (value_field k a b (at + 3) (before 9 v)) (refused_piece 9)) (refused_piece 8))
    go true e true f = onward a b c at v (upto-value a b c v e f) (value_field k a b (at + 3) (before 9 v)) (value-used k a b (at + 3) (before 9 v))
    go true e false f = tt
    go false e u f = tt

pub field-onward : (k : Kind) (at : ℕ) (s : List ℕ) → Onward at s (field k at (before 9 s))
field-onward k at s = subst (Onward at s) (sym (field-in-place k at s)) (place-onward k at s)

-- an accepted field has the whole piece
pub good-onward : (k : Kind) (at : ℕ) (s : List ℕ) (f : Field) → field k at (before 9 s) ≡ good f
    → Kept (get_or s 0 0) (get_or s 1 0) (at + 3) (drop 3 s) f × (3 + length f.value.bytes ≡ upto 9 s)
unfolding Onward
good-onward k at s f e = subst (Onward at s) e (field-onward k at s)

-- or its piece goes on: a tab is due, and none is there
pub then-onward : (k : Kind) (at : ℕ) (s : List ℕ) (f : Field) (n : ℕ) → field k at (before 9 s) ≡ good_then f n
    → Kept (get_or s 0 0) (get_or s 1 0) (at + 3) (drop 3 s) f × (n ≡ 6) × (3 + length f.value.bytes < upto 9 s)
unfolding Onward
then-onward k at s f n e = subst (Onward at s) e (field-onward k at s)
