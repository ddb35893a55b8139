-- A step of the walk over a PG line: a field that is passed over, and the next of the fields that an image keeps.
use Prim.Native.Nat.{ℕ, ◌+◌, ◌-◌, ◌≤◌, ◌<◌}
use mathlib.Core.Path.{◌≡◌, refl, ap, ap₂, ◌∙◌}
use mathlib.Core.Bool.{Bool, true, false, not, ◌&&◌, ◌||◌}
use mathlib.Core.List.{List, [], ◌∷◌}
use native.Mathlib.Omega.{arith}
use lib.ListN.{length, take, drop, get_or}
use lib.Dec.{eqb}
use Rattle.format.specs.Lines.{Piece}
use Rattle.format.specs.Fields.{Field, tagged, without}
use Rattle.format.specs.declared.Kind.TheVariants.{Program}
use Rattle.byte_slices.specs.Upto.{upto}
use Rattle.format.specs.Keys.{is_key}
use Rattle.lists.proofs.Bools.{never, split, or_left, or_right, or-true}
use Rattle.record_tags.specs.Others.{firsts}
use Rattle.accepted_line.specs.Run.{fields_to, fields_from, AtField}
use Rattle.accepted_line.specs.Next.{is_first, kept_at}
use Rattle.record.specs.declared.Stretch.{Stretch}
use Rattle.accepted_line.proofs.fields.Here.{ended}
use Rattle.accepted_line.proofs.fields.Walked.{Taken}
use Rattle.accepted_line.proofs.fields.Place.{passed-at, taken_at}
use Rattle.merge_fields.specs.Kept.{is_passed, kept_from, told_field, told_fields}
use Rattle.merge_fields.specs.declared.NextField.{NextField}
use Rattle.std.specs.Prelude.{None, Some}

without-one : (f : Field) (fs gs : List Field) → gs ≡ f ∷ fs → tagged 80 80 f ≡ true → without 80 80 gs ≡ without 80 80 fs
unfolding without
without-one f fs gs e t = rw (e, t) refl

without_other : (f : Field) (fs gs : List Field) → gs ≡ f ∷ fs → tagged 80 80 f ≡ false → without 80 80 gs ≡ f ∷ without 80 80 fs
unfolding without
without_other f fs gs e t = rw (e, t) refl

right_of : (a b : Bool) → a ≡ false → a || b ≡ true → b ≡ true
right_of true b k t = absurd (never (cc))
right_of false b k t = t

-- nothing is left
pub kept-end : (once : Bool) (at : ℕ) (line : List ℕ) (i : ℕ) → AtField once at line i → length line ≤ i → kept_from at line i ≡ []
unfolding kept_from firsts without
kept-end once at line i h l = ap (λ fs. without 80 80 (firsts Program (fields_to at line i) fs)) (ended once at line i h l)

module _ (once : Bool) (at : ℕ) (line : List ℕ) (i : ℕ) (h : AtField once at line i) (l : i < length line) (end : ℕ) (q : end ≡ i + 1 + upto 9 (drop (i + 1) line)) where
  abbrev x : ℕ
  x = get_or line (i + 1) 0

  abbrev y : ℕ
  y = get_or line (i + 2) 0

  tag_of : (v : Stretch) (g : Taken at line Program i end v) → tagged 80 80 g.field ≡ eqb x 80 && eqb y 80
  unfolding tagged
  tag_of v g = ap₂ (λ a b. eqb a 80 && eqb b 80) g.tag-0 g.tag-1

  -- a tag that comes before
  pub kept-later : is_first at line i ≡ false → kept_from at line i ≡ kept_from at line end
  unfolding kept_from
  kept-later f = ap (without 80 80) (passed-at once at line i h l end q Program (ap (λ t. is_key Program x y || not t) f ∙ or-true (is_key Program x y)))

  -- ID or PP
  pub kept-passed : is_passed x y ≡ true → kept_from at line i ≡ kept_from at line end
  unfolding kept_from is_passed is_key
  kept-passed t =
      split (is_key Program x y)
      (λ k. ap (without 80 80) (passed-at once at line i h l end q Program (ap (λ t. t || not (is_first at line i)) k)))
      (λ k. split (is_first at line i)
      (λ f. let g = taken_at once at line i h l end q Program (kept_at at line i end) k f refl in
      without-one g.field _ _ g.first (tag_of (kept_at at line i end) g ∙ pp k))
      (λ f. kept-later f))
    where
      pp : is_key Program x y ≡ false → eqb x 80 && eqb y 80 ≡ true
      pp k = right_of (eqb x 73 && eqb y 68) (eqb x 80 && eqb y 80) k t

  -- any other, at its tag's first place: it is the next
  pub kept_next : is_passed x y ≡ false → is_first at line i ≡ true → (v : Stretch) → v ≡ kept_at at line i end
      → (kept_from at line i ≡ record { tag₀ = x; tag₁ = y; value = record { at = v.at; bytes = take v.len (drop (v.at - at) line) } } ∷ kept_from at line end) × (at ≤ v.at) × (v.at - at + v.len ≤ length line)
  unfolding kept_from is_passed is_key
  kept_next t f v e =
      let k : is_key Program x y ≡ false = or_left (eqb x 73 && eqb y 68) (eqb x 80 && eqb y 80) t in
      let g : Taken at line Program i end v = taken_at once at line i h l end q Program v k f e in (
        without_other g.field _ _ g.first (tag_of v g ∙ or_right (eqb x 73 && eqb y 68) (eqb x 80 && eqb y 80) t)
            ∙ ap (λ f. f ∷ without 80 80 (firsts Program (fields_to at line end) (fields_from at line end))) (made g.tag-0 g.tag-1 (spot g.place g.bytes)),
        omega (arith, g.place, g.stands.from),
        omega (arith, g.place, g.size, g.stands.within),
      )
    where
      spot : {a b : ℕ} {s t : List ℕ} → a ≡ b → s ≡ t → ◌≡◌ {A = Piece} (record { at = a; bytes = s }) (record { at = b; bytes = t })
      spot e f = rw (e, f) refl

      made : {a b c d : ℕ} {p q : Piece} → a ≡ b → c ≡ d → p ≡ q → ◌≡◌ {A = Field} (record { tag₀ = a; tag₁ = c; value = p }) (record { tag₀ = b; tag₁ = d; value = q })
      made e f g = rw (e, f, g) refl

-- ---- by what the next field is

pub told_none : (at : ℕ) (line : List ℕ) → told_fields at line None ≡ []
unfolding told_fields
told_none at line = refl

module _ (at : ℕ) (line : List ℕ) (r : NextField) where
  pub told-one : told_fields at line (Some r) ≡ told_field at line r ∷ kept_from at line r.next
  unfolding told_fields
  told-one = refl
