-- Runs of fields: the first field of a run, a field put in front of one, and one run after another.
use Prim.Native.Nat.{ℕ, suc, ◌+◌, ◌-◌}
use mathlib.Core.Path.{◌≡◌, refl, sym, ap, subst, ◌∙◌}
use mathlib.Core.Bool.{Bool, true, false, cond}
use mathlib.Core.List.{List, [], ◌∷◌, ◌++◌, append_assoc}
use native.Mathlib.Omega.{arith}
use lib.ListN.{length, drop, length-append}
use lib.Seq.{drop-append_seam, take-append_seam}
use lib.Dec.{eqb}
use borrow.Author.Tests.{ne_eqb}
use Rattle.format.specs.Lines.{onto, cut, placed}
use Rattle.format.specs.Fields.{Field}
use Rattle.format.specs.Tidy.{field_text, fields_text}
use Rattle.byte_slices.specs.Upto.{upto}
use Rattle.byte_slices.specs.Stands.{Stands, Each}
use Rattle.byte_slices.proofs.Stands.{each_map, stands-onward}
use Rattle.record_tags.proofs.Region.{Clean}
use Rattle.accepted_line.specs.Run.{field_of, fields_of, Runs}
use Rattle.accepted_line.specs.Next.{field_length}

-- ---- cutting at tabs

-- bytes that are no tab, and then nothing, or a tab and more
cut_all : (w : List ℕ) → upto 9 w ≡ length w → cut 9 (w ++ []) ≡ w ∷ []
unfolding cut upto onto
cut_all [] h = refl
cut_all (c ∷ w) h = go (eqb c 9) h (cut_all w)
  where
    go : (t : Bool) → cond t 0 (suc (upto 9 w)) ≡ suc (length w) → (upto 9 w ≡ length w → cut 9 (w ++ []) ≡ w ∷ [])
        → cond t ([] ∷ cut 9 (w ++ [])) (onto c (cut 9 (w ++ []))) ≡ (c ∷ w) ∷ []
    go true h ih = absurd (omega arith)
    go false h ih = ap (onto c) (ih (omega arith))

cut-past : (w s : List ℕ) → upto 9 w ≡ length w → cut 9 (w ++ 9 ∷ s) ≡ w ∷ cut 9 s
unfolding cut upto onto
cut-past [] s h = refl
cut-past (c ∷ w) s h = go (eqb c 9) h (cut-past w s)
  where
    go : (t : Bool) → cond t 0 (suc (upto 9 w)) ≡ suc (length w) → (upto 9 w ≡ length w → cut 9 (w ++ 9 ∷ s) ≡ w ∷ cut 9 s)
        → cond t ([] ∷ cut 9 (w ++ 9 ∷ s)) (onto c (cut 9 (w ++ 9 ∷ s))) ≡ (c ∷ w) ∷ cut 9 s
    go true h ih = absurd (omega arith)
    go false h ih = ap (onto c) (ih (omega arith))

-- ---- the first field

abbrev pub bytes_of : Field → List ℕ
bytes_of f = field_text f.tag₀ f.tag₁ f.value.bytes

-- what is between a field's tab and the next
abbrev pub piece : Field → List ℕ
piece f = f.tag₀ ∷ f.tag₁ ∷ 58 ∷ f.value.bytes

pub piece-free : (f : Field) → Clean f → upto 9 (piece f) ≡ length (piece f)
unfolding upto
piece-free f k = rw (ne_eqb _ _ k.first, ne_eqb _ _ k.second, k.value) refl

-- `f` as it is at the offset `at`
abbrev pub seated : ℕ → Field → Field
seated at f = record { tag₀ = f.tag₀; tag₁ = f.tag₁; value = record { at = at + 4; bytes = f.value.bytes } }

fields-more : (at : ℕ) (f : Field) (fs : List Field) → Clean f
    → fields_of at (fields_text (f ∷ fs)) ≡ seated at f ∷ fields_of (at + field_length f) (fields_text fs)
unfolding fields_of fields_text field_text field_of field_length placed
fields-more at f [] k = let q : at + 1 + 3 ≡ at + 4 = omega arith in rw (cut_all (piece f) (piece-free f k), q) refl
fields-more at f (g ∷ gs) k =
    let q : at + 1 + 3 ≡ at + 4 = omega arith in
    let n : ℕ = length f.value.bytes in
    let e : at + 1 + suc (suc (suc n)) + 1 ≡ at + suc (suc (suc (suc n))) + 1 = omega arith in
    rw (cut-past (piece f) (g.tag₀ ∷ g.tag₁ ∷ 58 ∷ g.value.bytes ++ fields_text gs) (piece-free f k), q, e) refl

-- the first field of a run is at its start, and the others after it
pub record Opened (at : ℕ) (f : Field) (fs : List Field) : Type 0 where
  pub clean : Clean f
  pub place : f.value.at ≡ at + 4
  pub tail : Runs (at + field_length f) (fields_text fs) fs

pub runs-open : (at : ℕ) (s : List ℕ) (f : Field) (fs : List Field) → Runs at s (f ∷ fs) → Opened at f fs
unfolding Each
runs-open at s f fs r =
    let k : Clean f = r.clean.0 in
    let e : seated at f ∷ fields_of (at + field_length f) (fields_text fs) ≡ f ∷ fs = sym (fields-more at f fs k) ∙ (rw r.spells at r.places) in
    let p : seated at f ≡ f = cc in
    record { clean = k; place = sym (ap (λ f. f.value.at) p); tail = record { spells = refl; clean = r.clean.1; places = cc } }

pub runs_none : (at : ℕ) → Runs at [] []
unfolding Each fields_text fields_of
runs_none at = record { spells = refl; clean = tt; places = refl }

-- a field in front
pub runs-more : (at : ℕ) (f : Field) (s : List ℕ) (fs : List Field) → Clean f → f.value.at ≡ at + 4 → Runs (at + field_length f) s fs
    → Runs at (bytes_of f ++ s) (f ∷ fs)
unfolding Each fields_text
runs-more at f s fs k p r = record {
  spells = ap (λ l. bytes_of f ++ l) r.spells;
  clean = (k, r.clean);
  places =
      ap (λ l. fields_of at (bytes_of f ++ l)) r.spells
      ∙ fields-more at f fs k
      ∙ ap (λ l. seated at f ∷ fields_of (at + field_length f) l) (sym r.spells)
      ∙ ap (λ l. seated at f ∷ l) r.places
      ∙ ap (λ n. record { tag₀ = f.tag₀; tag₁ = f.tag₁; value = record { at = n; bytes = f.value.bytes } } ∷ fs) (sym p);
}

-- one run after another
pub runs_append : (at : ℕ) (s t : List ℕ) (fs gs : List Field) → Runs at s fs → Runs (at + length s) t gs → Runs at (s ++ t) (fs ++ gs)
unfolding fields_text field_text field_length
runs_append at s t [] gs r q = rw r.spells (let z : at + 0 ≡ at = omega arith in rw (r.spells, z) at q)
runs_append at s t (f ∷ fs) gs r q =
    let o : Opened at f fs = runs-open at s f fs r in
    let v : List ℕ = f.value.bytes in
    let p : at + length s ≡ at + field_length f + length (fields_text fs) = omega (arith, ap length r.spells, length-append v (fields_text fs)) in
    rw (r.spells, append_assoc v (fields_text fs) t)
    (runs-more at f (fields_text fs ++ t) (fs ++ gs) o.clean o.place (runs_append (at + field_length f) (fields_text fs) t fs gs o.tail (subst (λ n. Runs n t gs) p q)))

-- the values of a run are in it
pub runs-stand : (at : ℕ) (s : List ℕ) (fs : List Field) → Runs at s fs → Each (λ f. Stands s at f.value) fs
unfolding Each fields_text field_text field_length
runs-stand at s [] r = tt
runs-stand at s (f ∷ fs) r =
    let o : Opened at f fs = runs-open at s f fs r in
    let d : drop (field_length f) s ≡ fields_text fs = ap (drop (field_length f)) r.spells ∙ drop-append_seam (bytes_of f) (fields_text fs) in
    let l : length s ≡ field_length f + length (fields_text fs) = ap length r.spells ∙ length-append (bytes_of f) (fields_text fs) in
    let e : f.value.at - at ≡ 4 = omega (arith, o.place) in (
      record {
        from = omega (arith, o.place);
        within = omega (arith, o.place);
        bytes = rw (e, r.spells) (sym (take-append_seam f.value.bytes (fields_text fs)));
      },
      each_map (λ g. Stands (fields_text fs) (at + field_length f) g.value) (λ g. Stands s at g.value) (λ g k. stands-onward s at (field_length f) (omega arith) g.value (rw d k)) fs (runs-stand (at + field_length f) (fields_text fs) fs o.tail),
    )
