-- One field further: what a walk finds at a place, by the field there.
use Prim.Native.Nat.{ℕ, ◌+◌, ◌-◌}
use mathlib.Core.Path.{◌≡◌, refl, sym, ap, ◌∙◌}
use mathlib.Core.Bool.{Bool, true, false, not, ◌&&◌, ◌||◌, cond}
use mathlib.Core.List.{List, [], ◌∷◌, ◌++◌}
use mathlib.Core.Option.{Option, none, some}
use native.Mathlib.Omega.{arith}
use lib.ListN.{length}
use Rattle.format.specs.Bytes.{any}
use Rattle.format.specs.Lines.{Piece}
use Rattle.format.specs.Fields.{Field, tagged, repeats, later, last_of}
use Rattle.format.specs.declared.Kind.{Kind}
use Rattle.format.specs.Keys.{is_key}
use Rattle.lists.proofs.Bools.{or_left, or_right, any_append}
use Rattle.accepted.proofs.Tags.{tagged-sym}
use Rattle.record_tags.specs.Others.{or_last, latest, firsts}
use Rattle.accepted_line.specs.Run.{fields_to, fields_from, AtField}
use Rattle.accepted_line.specs.Next.{is_first, value_of_piece, or_value, value_at, kept_at, field_length}
use Rattle.record.specs.declared.Stretch.{Stretch}
use Rattle.accepted_line.proofs.fields.Here.{Here}

-- ---- no tag twice

-- a field's tag comes neither before nor after it
apart : (d : List Field) (f : Field) (fs : List Field) → repeats (d ++ (f ∷ fs)) ≡ false
    → (any (tagged f.tag₀ f.tag₁) d ≡ false) × (any (tagged f.tag₀ f.tag₁) fs ≡ false)
unfolding repeats any
apart [] f fs h = (refl, or_left (any (tagged f.tag₀ f.tag₁) fs) (repeats fs) h)
apart (g ∷ d) f fs h =
    let s : Bool = any (tagged g.tag₀ g.tag₁) (d ++ (f ∷ fs)) in
    let l : any (tagged g.tag₀ g.tag₁) d || any (tagged g.tag₀ g.tag₁) (f ∷ fs) ≡ false =
    sym (any_append (tagged g.tag₀ g.tag₁) d (f ∷ fs)) ∙ or_left s (repeats (d ++ (f ∷ fs))) h in
    let k : tagged g.tag₀ g.tag₁ f ≡ false = or_left (tagged g.tag₀ g.tag₁ f) (any (tagged g.tag₀ g.tag₁) fs) (or_right (any (tagged g.tag₀ g.tag₁) d) (any (tagged g.tag₀ g.tag₁) (f ∷ fs)) l) in
    let ih = apart d f fs (or_right s (repeats (d ++ (f ∷ fs))) h) in
    (ap (λ t. t || any (tagged f.tag₀ f.tag₁) d) (tagged-sym f g ∙ k) ∙ ih.0, ih.1)

last_of_none : (a b : ℕ) (fs : List Field) → any (tagged a b) fs ≡ false → last_of a b fs ≡ none
unfolding any last_of later
last_of_none a b [] h = refl
last_of_none a b (f ∷ fs) h =
    let t : Bool = tagged a b f in
    let u : Bool = any (tagged a b) fs in
    rw (or_left t u h, last_of_none a b fs (or_right t u h)) refl

-- ---- a value, or else another

or_same : (v : Stretch) (p : Piece) (o : Option Piece) → or_value v (later (some p) o) ≡ or_value (value_of_piece p) o
unfolding or_value later
or_same v p none = refl
or_same v p (some q) = refl

or_later : (v : Stretch) (o : Option Piece) → or_value v (later none o) ≡ or_value v o
unfolding or_value later
or_later v none = refl
or_later v (some q) = refl

or-latest : (p : Piece) (o : Option Piece) → or_value (value_of_piece p) o ≡ value_of_piece (or_last p o)
unfolding or_value or_last
or-latest p none = refl
or-latest p (some q) = refl

-- ---- one field further

module _ (strict : Bool) (at : ℕ) (line : List ℕ) (pos : ℕ) (h : AtField strict at line pos) (f : Field) (e : Here strict at line pos f) where
  -- where repeats are forbidden
  alone : strict ≡ true → (any (tagged f.tag₀ f.tag₁) (fields_to at line pos) ≡ false) × (any (tagged f.tag₀ f.tag₁) (fields_from at line (pos + field_length f)) ≡ false)
  alone s =
      apart (fields_to at line pos) f (fields_from at line (pos + field_length f))
      (ap (λ l. repeats (fields_to at line pos ++ l)) (sym e.rest) ∙ ap (λ t. t && repeats (fields_to at line pos ++ fields_from at line pos)) (sym s) ∙ h.once)

  -- does its tag come before it?
  pub first-here : is_first at line pos ≡ not (any (tagged f.tag₀ f.tag₁) (fields_to at line pos))
  unfolding is_first
  first-here = rw (e.tag-0, e.tag-1) refl

  pub first-once : strict ≡ true → is_first at line pos ≡ true
  first-once s = first-here ∙ ap not (alone s).0

  -- the other fields that are still to come, one field further
  pub further : (k : Kind) → firsts k (fields_to at line pos) (fields_from at line pos)
      ≡ cond (is_key k f.tag₀ f.tag₁ || any (tagged f.tag₀ f.tag₁) (fields_to at line pos))
      (firsts k (fields_to at line (pos + field_length f)) (fields_from at line (pos + field_length f)))
      (latest (fields_from at line (pos + field_length f)) f ∷ firsts k (fields_to at line (pos + field_length f)) (fields_from at line (pos + field_length f)))
  unfolding firsts
  further k =
      ap (firsts k (fields_to at line pos)) e.rest
      ∙ ap
      (λ d.
      cond (is_key k f.tag₀ f.tag₁ || any (tagged f.tag₀ f.tag₁) (fields_to at line pos))
      (firsts k d (fields_from at line (pos + field_length f)))
      (latest (fields_from at line (pos + field_length f)) f ∷ firsts k d (fields_from at line (pos + field_length f))))
      (sym e.done)

  -- ---- the last value

  pub own : value_at at pos (pos + field_length f) ≡ value_of_piece f.value
  unfolding field_length
  own =
      let l : pos + field_length f - (pos + 4) ≡ length f.value.bytes = omega (arith, e.size) in
      rw (e.place, l) refl

  -- a field with the tag `a`, `b` has a later value than those before it
  pub last-same : (a b : ℕ) (v : Stretch) → tagged a b f ≡ true
      → or_value v (last_of a b (fields_from at line pos)) ≡ or_value (value_at at pos (pos + field_length f)) (last_of a b (fields_from at line (pos + field_length f)))
  unfolding last_of
  last-same a b v t =
      ap (λ l. or_value v (last_of a b l)) e.rest
      ∙ rw (t, own) (or_same v f.value (last_of a b (fields_from at line (pos + field_length f))))

  pub last-other : (a b : ℕ) (v : Stretch) → tagged a b f ≡ false
      → or_value v (last_of a b (fields_from at line pos)) ≡ or_value v (last_of a b (fields_from at line (pos + field_length f)))
  unfolding last_of
  last-other a b v t =
      ap (λ l. or_value v (last_of a b l)) e.rest
      ∙ rw t (or_later v (last_of a b (fields_from at line (pos + field_length f))))

  -- where repeats are forbidden, its own value is the last
  pub kept-own : strict ≡ true → kept_at at line pos (pos + field_length f) ≡ value_at at pos (pos + field_length f)
  unfolding kept_at or_value
  kept-own s = rw (e.tag-0, e.tag-1, last_of_none f.tag₀ f.tag₁ (fields_from at line (pos + field_length f)) (alone s).1) refl

  -- the last value, as the walk finds it
  pub kept-latest : kept_at at line pos (pos + field_length f) ≡ value_of_piece (latest (fields_from at line (pos + field_length f)) f).value
  unfolding kept_at latest
  kept-latest = rw (e.tag-0, e.tag-1, own) (or-latest f.value (last_of f.tag₀ f.tag₁ (fields_from at line (pos + field_length f))))
