-- A walk meets the other fields of a line one by one: what a field says of those that are still to come.
use Prim.Native.Nat.{ℕ, ◌+◌, ◌-◌}
use mathlib.Core.Path.{◌≡◌, refl, sym, ap, subst, ◌∙◌}
use mathlib.Core.Bool.{Bool, true, false, not, ◌||◌}
use mathlib.Core.List.{List, ◌∷◌}
use mathlib.Core.Option.{Option, none, some}
use lib.ListN.{length, take, drop, get_or}
use borrow.Author.Tests.{not-true}
use Rattle.format.specs.Bytes.{any}
use Rattle.format.specs.Lines.{Piece}
use Rattle.format.specs.Fields.{Field, tagged, last_of}
use Rattle.format.specs.declared.Kind.{Kind}
use Rattle.byte_slices.specs.Stands.{Stands, Each}
use Rattle.byte_slices.proofs.Stands.{each_map, stands-onward}
use Rattle.format.specs.Keys.{is_key}
use Rattle.accepted.proofs.Fields.{Of, last_of-of}
use Rattle.record_tags.specs.Others.{or_last, latest, firsts}
use Rattle.accepted_line.specs.Run.{fields_to, fields_from, AtField}
use Rattle.accepted_line.specs.Next.{is_first, kept_at, field_length}
use Rattle.record.specs.declared.Stretch.{Stretch}
use Rattle.accepted_line.proofs.fields.Runs.{runs-stand}
use Rattle.accepted_line.proofs.fields.Here.{Here}
use Rattle.accepted_line.proofs.fields.NextField.{first-here, further, kept-latest}

-- the field from `i` up to `end` is the next of the other fields that are still to come, with the value that is at `v`
pub record Taken (at : ℕ) (line : List ℕ) (k : Kind) (i end : ℕ) (v : Stretch) : Type 0 where
  pub field : Field
  pub tag-0 : field.tag₀ ≡ get_or line (i + 1) 0
  pub tag-1 : field.tag₁ ≡ get_or line (i + 2) 0
  pub place : field.value.at ≡ v.at
  pub size : length field.value.bytes ≡ v.len
  pub stands : Stands line at field.value
  pub bytes : field.value.bytes ≡ take v.len (drop (v.at - at) line)
  pub first : firsts k (fields_to at line i) (fields_from at line i) ≡ field ∷ firsts k (fields_to at line end) (fields_from at line end)

-- the values of the fields from a place on are in the line
values-stand : (strict : Bool) (at : ℕ) (line : List ℕ) (pos : ℕ) → AtField strict at line pos → Each (λ f. Stands line at f.value) (fields_from at line pos)
values-stand strict at line pos h =
    each_map (λ f. Stands (drop pos line) (at + pos) f.value) (λ f. Stands line at f.value)
    (λ f s. stands-onward line at pos h.within f.value s)
    (fields_from at line pos) (runs-stand (at + pos) (drop pos line) (fields_from at line pos) h.rest)

latest-stands : (line : List ℕ) (at : ℕ) (f : Field) (fs : List Field) → Stands line at f.value → Each (λ f. Stands line at f.value) fs → Stands line at (latest fs f).value
unfolding latest or_last
latest-stands line at f fs s h = go (last_of f.tag₀ f.tag₁ fs) refl
  where
    go : (o : Option Piece) → last_of f.tag₀ f.tag₁ fs ≡ o → Stands line at (or_last f.value o)
    go none e = s
    go (some p) e = let o : Of (λ f. Stands line at f.value) f.tag₀ f.tag₁ p = last_of-of (λ f. Stands line at f.value) f.tag₀ f.tag₁ fs p h e in subst (Stands line at) o.value o.holds

module _ (strict : Bool) (at : ℕ) (line : List ℕ) (pos : ℕ) (h : AtField strict at line pos) (f : Field) (e : Here strict at line pos f) (k : Kind) where
  -- not a key, and its tag comes nowhere before
  pub taken : is_key k (get_or line (pos + 1) 0) (get_or line (pos + 2) 0) ≡ false → is_first at line pos ≡ true → Taken at line k pos (pos + field_length f) (kept_at at line pos (pos + field_length f))
  unfolding latest Each
  taken n t =
      let fs = fields_from at line (pos + field_length f) in
      let each : Each (λ f. Stands line at f.value) (f ∷ fs) = subst (Each (λ f. Stands line at f.value)) e.rest (values-stand strict at line pos h) in
      let s : Stands line at (latest fs f).value = latest-stands line at f fs each.0 each.1 in
      let key : is_key k f.tag₀ f.tag₁ ≡ false = rw (← e.tag-0, ← e.tag-1) n in
      let alone : any (tagged f.tag₀ f.tag₁) (fields_to at line pos) ≡ false = not-true (any (tagged f.tag₀ f.tag₁) (fields_to at line pos)) (sym (first-here strict at line pos h f e) ∙ t) in
      rw (kept-latest strict at line pos h f e)
      (record {
        field = latest fs f;
        tag-0 = sym e.tag-0;
        tag-1 = sym e.tag-1;
        place = refl;
        size = refl;
        stands = s;
        bytes = s.bytes;
        first = further strict at line pos h f e k ∙ rw (key, alone) refl;
      })

  -- a key, or its tag comes before
  pub passed : is_key k (get_or line (pos + 1) 0) (get_or line (pos + 2) 0) || not (is_first at line pos) ≡ true
      → firsts k (fields_to at line pos) (fields_from at line pos) ≡ firsts k (fields_to at line (pos + field_length f)) (fields_from at line (pos + field_length f))
  passed n =
      let b : Bool = any (tagged f.tag₀ f.tag₁) (fields_to at line pos) in
      let t : is_key k f.tag₀ f.tag₁ || b ≡ true =
      ap (λ u. is_key k f.tag₀ f.tag₁ || u) (sym (twice b))
      ∙ rw (← first-here strict at line pos h f e, ← e.tag-0, ← e.tag-1) n in
      further strict at line pos h f e k ∙ rw t refl
    where
      twice : (t : Bool) → not (not t) ≡ t
      twice true = refl
      twice false = refl
