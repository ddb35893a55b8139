-- Given fields that are in form are written as they came, and their values are in them.
use Prim.Native.Nat.{ℕ, suc, ◌+◌, ◌-◌, ◌≤◌, ◌<◌}
use mathlib.Core.Path.{◌≡◌, refl, sym, ap, subst, ◌∙◌}
use mathlib.Core.List.{List, ◌∷◌}
use mathlib.Core.Option.{some}
use native.Mathlib.Omega.{arith}
use lib.ListN.{length, take, drop}
use Rattle.format.specs.Lines.{Piece}
use Rattle.format.specs.Fields.{last_of}
use Rattle.format.specs.Adding.{given}
use Rattle.format.specs.Tidy.{fields_text}
use Rattle.format.specs.declared.Kind.TheVariants.{Program}
use Rattle.byte_slices.specs.Stands.{Stands, Each}
use Rattle.byte_slices.proofs.Stands.{by_parts, each_map, stands-onward}
use Rattle.byte_slices.proofs.Lines.{upto_le}
use Rattle.accepted.proofs.Fields.{Of, last_of-of}
use Rattle.record_parser.proofs.FieldByField.{tail_scan, prepend}
use Rattle.accepted_line.specs.Run.{Runs}
use Rattle.accepted_line.proofs.fields.Runs.{runs_none}
use Rattle.add_input.proofs.Front as fr
use Rattle.add_input.proofs.Front.{Front, front, given-tail, size, onward, more-run, own-stands}

-- ---- the text

-- fields that are read to their end are the bytes that they are read from
abbrev Run : ℕ → List ℕ → Type 0
Run at s = (tail_scan Program at s).stop ≡ 0 → Runs at s (tail_scan Program at s).fields

fields-run : (at : ℕ) (s : List ℕ) → Run at s
unfolding tail_scan prepend
fields-run = by_parts Run (λ at s. go at s (front at s))
  where
    go : (at : ℕ) (s : List ℕ) → Front at s → ((n : ℕ) → 0 < n → n ≤ length s → Run (at + n) (drop n s)) → Run at s
    go at s fr.ends ih h = runs_none at
    go at s (fr.stops n m e) ih h = absurd (m (sym (ap (λ z. z.stop) e) ∙ h))
    go at s (fr.starts r g t) ih h =
        let n : ℕ = size at r g t in
        let e = onward at r g t in
        let p : 0 < suc n = omega arith in
        let w : suc n ≤ length (9 ∷ r) = omega (arith, t.within, upto_le 9 r) in
        subst (Runs at (9 ∷ r)) (sym (ap (λ z. z.fields) e))
        (more-run at r g t (tail_scan Program (at + suc n) (drop n r)).fields (ih (suc n) p w (sym (ap (λ z. z.stop) e) ∙ h)))

-- given fields in form are written as they came
pub given-text : (s : List ℕ) → (given s).stop ≡ 0 → fields_text (given s).fields ≡ s
given-text s h =
    let r : Runs 0 s (tail_scan Program 0 s).fields = fields-run 0 s (sym (ap (λ z. z.stop) (given-tail s)) ∙ h) in
    ap (λ z. fields_text z.fields) (given-tail s) ∙ sym r.spells

-- ---- the values

-- the value of each field that is read is in the bytes
abbrev Stand : ℕ → List ℕ → Type 0
Stand at s = Each (λ f. Stands s at f.value) (tail_scan Program at s).fields

fields-stand : (at : ℕ) (s : List ℕ) → Stand at s
unfolding tail_scan prepend Each
fields-stand = by_parts Stand (λ at s. go at s (front at s))
  where
    go : (at : ℕ) (s : List ℕ) → Front at s → ((n : ℕ) → 0 < n → n ≤ length s → Stand (at + n) (drop n s)) → Stand at s
    go at s fr.ends ih = tt
    go at s (fr.stops n m e) ih = subst (λ z. Each (λ f. Stands s at f.value) z.fields) (sym e) tt
    go at s (fr.starts r g t) ih =
        let n : ℕ = size at r g t in
        let p : 0 < suc n = omega arith in
        let w : suc n ≤ length (9 ∷ r) = omega (arith, t.within, upto_le 9 r) in
        subst (λ z. Each (λ f. Stands (9 ∷ r) at f.value) z.fields) (sym (onward at r g t)) (
          own-stands at r g t,
          each_map (λ f. Stands (drop (suc n) (9 ∷ r)) (at + suc n) f.value) (λ f. Stands (9 ∷ r) at f.value)
              (λ f k. stands-onward (9 ∷ r) at (suc n) w f.value k)
              (tail_scan Program (at + suc n) (drop n r)).fields (ih (suc n) p w),
        )

-- the given PP is among the given fields
pub previous-stands : (s : List ℕ) (p : Piece) → last_of 80 80 (given s).fields ≡ some p
    → (p.at + length p.bytes ≤ length s) × (p.bytes ≡ take (length p.bytes) (drop p.at s))
previous-stands s p e =
    let o : Of (λ f. Stands s 0 f.value) 80 80 p =
    last_of-of (λ f. Stands s 0 f.value) 80 80 (tail_scan Program 0 s).fields p (fields-stand 0 s) (sym (ap (λ z. last_of 80 80 z.fields) (given-tail s)) ∙ e) in
    let k : Stands s 0 p = subst (Stands s 0) o.value o.holds in
    let z : p.at - 0 ≡ p.at = omega arith in
    (omega (arith, k.within), k.bytes ∙ rw z refl)
