-- The other fields of an accepted line as they are walked over: what is still to be written, and how long it is.
use Prim.Native.Nat.{ℕ, ◌+◌, ◌-◌, ◌≤◌, ◌<◌}
use mathlib.Core.Path.{◌≡◌, refl, ap, ◌∙◌}
use mathlib.Core.Bool.{Bool, true, false, not, ◌&&◌, ◌||◌, cond}
use mathlib.Core.List.{List, [], ◌∷◌, ◌++◌}
use native.Mathlib.Omega.{arith}
use lib.ListN.{length, take, drop, get_or, length-drop}
use borrow.Author.Tests.{not-true}
use Rattle.format.specs.Fields.{Field}
use Rattle.format.specs.Tidy.{field_text, fields_text}
use Rattle.format.specs.declared.Kind.{Kind}
use Rattle.byte_slices.specs.Upto.{upto}
use Rattle.format.specs.Keys.{is_key}
use Rattle.lists.proofs.Bools.{never, and_left, and_right}
use Rattle.record_tags.specs.Others.{unkeyed, firsts}
use Rattle.record_tags.proofs.Firsts.{settled-firsts}
use Rattle.accepted_line.specs.Run.{fields_of, fields_to, fields_from, AtField}
use Rattle.accepted_line.specs.Next.{is_first, kept_at}
use Rattle.record.specs.declared.Stretch.{Stretch}
use Rattle.accepted_line.proofs.fields.Here.{ended}
use Rattle.accepted_line.proofs.fields.Walked.{Taken}
use Rattle.accepted_line.proofs.fields.Place.{passed-at, taken_at}
use Rattle.tidy_laws.proofs.Length.{one_more, settled-length}
use Rattle.tidy_fields.specs.Others.{others_text}

-- the text of the fields that come from the place `pos` on
abbrev pub rest_text : Kind → ℕ → List ℕ → ℕ → List ℕ
rest_text k at line pos = fields_text (firsts k (fields_to at line pos) (fields_from at line pos))

-- all of them come from the third byte on
pub rest_all : (k : Kind) (at : ℕ) (line : List ℕ) → rest_text k at line 3 ≡ others_text k at line
unfolding others_text fields_of
rest_all k at line = refl

-- none is left
pub rest-none : (once : Bool) (at : ℕ) (line : List ℕ) (k : Kind) (i : ℕ) → AtField once at line i → length line ≤ i → rest_text k at line i ≡ []
unfolding fields_text firsts
rest-none once at line k i h l = ap (λ fs. fields_text (firsts k (fields_to at line i) fs)) (ended once at line i h l)

module _ (once : Bool) (at : ℕ) (line : List ℕ) (k : Kind) (i : ℕ) (h : AtField once at line i) (l : i < length line) (end : ℕ) (q : end ≡ i + 1 + upto 9 (drop (i + 1) line)) where
  -- a field that is not written
  pub rest-past : not (is_key k (get_or line (i + 1) 0) (get_or line (i + 2) 0)) && is_first at line i ≡ false → rest_text k at line i ≡ rest_text k at line end
  rest-past t = ap fields_text (passed-at once at line i h l end q k (turn (is_key k (get_or line (i + 1) 0) (get_or line (i + 2) 0)) (is_first at line i) t))
    where
      turn : (a b : Bool) → not a && b ≡ false → a || not b ≡ true
      turn true b e = refl
      turn false true e = absurd (never (cc))
      turn false false e = refl

  -- one that is
  module _ (t : not (is_key k (get_or line (i + 1) 0) (get_or line (i + 2) 0)) && is_first at line i ≡ true) (v : Stretch) (e : v ≡ kept_at at line i end) where
    taken : Taken at line k i end v
    taken =
        let n = is_key k (get_or line (i + 1) 0) (get_or line (i + 2) 0) in
        taken_at once at line i h l end q k v (not-true n (and_left (not n) (is_first at line i) t)) (and_right (not n) (is_first at line i) t) e

    pub rest_more : rest_text k at line i ≡ field_text (get_or line (i + 1) 0) (get_or line (i + 2) 0) (take v.len (drop (v.at - at) line)) ++ rest_text k at line end
    unfolding fields_text
    rest_more = ap fields_text taken.first ∙ rw (taken.tag-0, taken.tag-1, ← taken.bytes) refl

    pub rest-size : length (rest_text k at line i) ≡ 4 + v.len + length (rest_text k at line end)
    rest-size = ap (λ l. length (fields_text l)) taken.first ∙ omega (arith, one_more taken.field (firsts k (fields_to at line end) (fields_from at line end)), taken.size)

    -- its value is in the line
    pub value-inside : (at ≤ v.at) × (v.at - at + v.len ≤ length line)
    value-inside = (omega (arith, taken.stands.from, taken.place), omega (arith, taken.stands.within, taken.stands.from, taken.place, taken.size))

-- ---- how long they are

unkeyed-length : (k : Kind) (fs : List Field) → length (fields_text (unkeyed k fs)) ≤ length (fields_text fs)
unfolding unkeyed
unkeyed-length k [] = omega arith
unkeyed-length k (f ∷ fs) = go (is_key k f.tag₀ f.tag₁) (unkeyed-length k fs)
  where
    go : (t : Bool) → length (fields_text (unkeyed k fs)) ≤ length (fields_text fs)
        → length (fields_text (cond t (unkeyed k fs) (f ∷ unkeyed k fs))) ≤ length (fields_text (f ∷ fs))
    go true ih = omega (arith, one_more f fs)
    go false ih = omega (arith, one_more f (unkeyed k fs), one_more f fs)

-- no longer than the line
pub others-short : (strict : Bool) (at : ℕ) (line : List ℕ) (k : Kind) → AtField strict at line 3 → length (others_text k at line) ≤ length line
unfolding others_text
others-short strict at line k h =
    let fs : List Field = fields_from at line 3 in
    omega (
      arith,
      ap (λ l. length (fields_text l)) (settled-firsts k fs),
      settled-length (unkeyed k fs),
      unkeyed-length k fs,
      ap length h.rest.spells,
      length-drop 3 line,
    )
