-- A step of a walk over a line, as its bytes say it: from the tab at `i` to the end of the field there.
use Prim.Native.Nat.{ℕ, ◌+◌, ◌%◌, ◌≤◌, ◌<◌}
use mathlib.Core.Path.{◌≡◌, refl, sym, ap, ap₂, subst, ◌∙◌}
use mathlib.Core.Bool.{Bool, true, false, not, ◌&&◌, ◌||◌, cond}
use mathlib.Core.List.{List, ◌∷◌}
use native.Mathlib.Omega.{arith}
use lib.ListN.{length, drop, get_or, set}
use lib.Dec.{eqb}
use Rattle.format.specs.Fields.{tagged, is_tag, last_of}
use Rattle.format.specs.declared.Kind.{Kind}
use Rattle.byte_slices.specs.Upto.{upto}
use Rattle.byte_slices.specs.Stands.{Each}
use Rattle.accepted_line.specs.Number.{tag_number}
use Rattle.format.specs.Keys.{is_key}
use Rattle.record_tags.specs.Others.{firsts}
use Rattle.accepted_line.specs.Run.{fields_to, fields_from, AtField}
use Rattle.accepted_line.specs.Next.{is_first, or_value, last_in, value_at, kept_at, field_length}
use Rattle.accepted_line.specs.Tables.{field_number, HasTag, spread, marked, noted, Noted}
use Rattle.record.specs.declared.Stretch.{Stretch}
use Rattle.accepted_line.proofs.fields.Here.{Found, found}
use Rattle.accepted_line.proofs.fields.NextField.{first-once, last-same, last-other, kept-own}
use Rattle.accepted_line.proofs.fields.Walked.{Taken, taken, passed}
use Rattle.accepted_line.proofs.fields.Noted.{number-below, tags-here, first-noted, kept-last}

module _ (strict : Bool) (at : ℕ) (line : List ℕ) (i : ℕ) (h : AtField strict at line i) (l : i < length line) (end : ℕ) (q : end ≡ i + 1 + upto 9 (drop (i + 1) line)) where
  -- the field there
  own : Found strict at line i
  own = found strict at line i h l

  ends : end ≡ i + field_length own.field
  ends = q ∙ own.here.end

  pub next-at : AtField strict at line end
  next-at = rw ends own.here.next

  pub bounds : (i + 4 ≤ end) × (end ≤ length line)
  bounds = (omega (arith, ends, own.here.size), next-at.within)

  pub first-at : strict ≡ true → is_first at line i ≡ true
  first-at s = first-once strict at line i h own.field own.here s

  pub passed-at : (k : Kind) → is_key k (get_or line (i + 1) 0) (get_or line (i + 2) 0) || not (is_first at line i) ≡ true
      → firsts k (fields_to at line i) (fields_from at line i) ≡ firsts k (fields_to at line end) (fields_from at line end)
  passed-at k n = rw ends (passed strict at line i h own.field own.here k n)

  pub taken_at : (k : Kind) (v : Stretch) → is_key k (get_or line (i + 1) 0) (get_or line (i + 2) 0) ≡ false → is_first at line i ≡ true → v ≡ kept_at at line i end → Taken at line k i end v
  taken_at k v n t q = rw (q, ends) (taken strict at line i h own.field own.here k n t)

  tag : (a b : ℕ) → tagged a b own.field ≡ eqb (get_or line (i + 1) 0) a && eqb (get_or line (i + 2) 0) b
  unfolding tagged
  tag a b = rw (own.here.tag-0, own.here.tag-1) refl

  pub same_at : (a b : ℕ) (v : Stretch) → eqb (get_or line (i + 1) 0) a && eqb (get_or line (i + 2) 0) b ≡ true
      → or_value v (last_of a b (fields_from at line i)) ≡ or_value (value_at at i end) (last_of a b (fields_from at line end))
  same_at a b v t = rw ends (last-same strict at line i h own.field own.here a b v (tag a b ∙ t))

  pub other_at : (a b : ℕ) (v : Stretch) → eqb (get_or line (i + 1) 0) a && eqb (get_or line (i + 2) 0) b ≡ false
      → or_value v (last_of a b (fields_from at line i)) ≡ or_value v (last_of a b (fields_from at line end))
  other_at a b v t = rw ends (last-other strict at line i h own.field own.here a b v (tag a b ∙ t))

  pub own_at : strict ≡ true → kept_at at line i end ≡ value_at at i end
  own_at s = rw ends (kept-own strict at line i h own.field own.here s)

  -- ---- by the number of its tag

  number-at : tag_number (get_or line (i + 1) 0) (get_or line (i + 2) 0) ≡ field_number own.field
  unfolding field_number
  number-at = rw (own.here.tag-0, own.here.tag-1) refl

  rest_at : fields_from at line i ≡ own.field ∷ fields_from at line end
  rest_at = own.here.rest ∙ ap (λ n. own.field ∷ fields_from at line n) (sym ends)

  pub spread_at : (seen : List Bool) (n : ℕ) → n ≡ tag_number (get_or line (i + 1) 0) (get_or line (i + 2) 0)
      → spread seen (fields_from at line i) ≡ cond (get_or seen (n % 112) false) false (spread (set seen (n % 112) true) (fields_from at line end))
  unfolding spread
  spread_at seen n e = ap (spread seen) rest_at ∙ rw (e ∙ number-at) refl

  pub noted-at : (t : List ℕ) (n : ℕ) → n ≡ tag_number (get_or line (i + 1) 0) (get_or line (i + 2) 0)
      → noted t (at + i) (fields_from at line i) ≡ noted (marked t n (at + i)) (at + end) (fields_from at line end)
  unfolding noted
  noted-at t n e =
      ap (noted t (at + i)) rest_at
      ∙ ap (λ m. noted (marked t m (at + i)) (at + i + field_length own.field) (fields_from at line end)) (sym (e ∙ number-at))
      ∙ ap (λ p. noted (marked t n (at + i)) p (fields_from at line end)) (omega (arith, ends))

  pub tags-at : Each HasTag (fields_from at line i) → (tag_number (get_or line (i + 1) 0) (get_or line (i + 2) 0) < 3224) × Each HasTag (fields_from at line end)
  unfolding Each
  tags-at g = let r = subst (Each HasTag) rest_at g in (rw number-at (number-below own.field r.0), r.1)

  module _ (t : List ℕ) (n : Noted at line t) where
    pub tag_at : is_tag (get_or line (i + 1) 0) (get_or line (i + 2) 0) ≡ true
    unfolding HasTag
    tag_at = rw (own.here.tag-0, own.here.tag-1) (tags-here strict at line i h own.field own.here n.tags).1

    pub first-tabled : eqb (get_or t (tag_number (get_or line (i + 1) 0) (get_or line (i + 2) 0)) 0) (at + i) ≡ is_first at line i
    first-tabled = ap (λ m. eqb (get_or t m 0) (at + i)) number-at ∙ first-noted strict at line i h own.field own.here t n

  pub kept-tabled : last_in at line (get_or line (i + 1) 0) (get_or line (i + 2) 0) ≡ kept_at at line i end
  kept-tabled = ap₂ (last_in at line) own.here.tag-0 own.here.tag-1 ∙ sym (ap (kept_at at line i) ends ∙ kept-last strict at line i h own.field own.here)
