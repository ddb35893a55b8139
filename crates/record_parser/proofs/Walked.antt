-- What holds of the field loop at a place of the line, and one step of it.
use Prim.Native.Nat.{ℕ, ◌+◌, ◌-◌, ◌≤◌}
use mathlib.Core.Path.{◌≡◌, sym, ap, ◌∙◌}
use mathlib.Core.Bool.{Bool, true, false, ◌&&◌}
use mathlib.Core.List.{List, [], ◌∷◌}
use mathlib.Core.Logic.{⊎_elim}
use native.Mathlib.Omega.{arith}
use lib.ListN.{length, take, drop, get_or}
use lib.Dec.{eqb}
use borrow.Author.Tests.{eqb-true, eqb-false}
use Rattle.format.specs.Fields.{Field, repeats, refused_piece, good, good_then, is_tag, field}
use Rattle.format.specs.Records.{judged, fielded}
use Rattle.format.specs.Tidy.{fields_text}
use Rattle.format.specs.declared.Kind.{Kind}
use Rattle.byte_slices.specs.Upto.{upto, before}
use Rattle.byte_slices.specs.Stands.{Each}
use Rattle.byte_slices.proofs.Lines.{upto_le}
use Rattle.std.specs.Prelude.{Result, Ok, Err}
use Rattle.field.specs.declared.ParsedField.{ParsedField}
use Rattle.field.specs.Parsed.{parsed_of, field_numbers}
use Rattle.field.proofs.Anywhere.{field-anywhere}
use Rattle.field.proofs.Answer.{Told, Found, parsed-bad, parsed-numbered, parsed-found}
use Rattle.field.proofs.Next.{Kept, good-onward, then-onward}
use Rattle.field.proofs.Place.{field-in-place, place-tag, place-colon, colon-other}
use Rattle.lists.proofs.Bools.{never, split}
use Rattle.record_tags.proofs.Region.{Clean}
use Rattle.record.specs.declared.Keys.{Keys}
use Rattle.record.specs.Keys.{keys_of}
use Rattle.record_parser.proofs.marks.Marks.{Marked}
use Rattle.record_parser.proofs.FieldByField.{tail_scan, prepend, turn-bad, turn-good, turn-then}

-- at the place `pos` of the line `src`
pub record Walked (kind : Kind) (src : List ℕ) (at : ℕ) (strict exact : Bool) (seen : List Bool) (keys : Keys) (pos : ℕ) : Type 0 where
  pub fields : List Field
  pub low : 3 ≤ pos
  pub high : pos ≤ length src
  pub region : take (pos - 3) (drop 3 src) ≡ fields_text fields
  pub clean : Each Clean fields
  pub left : fielded strict kind (at + 3) (drop 3 src) ≡ judged strict kind (prepend fields (tail_scan kind (at + pos) (drop pos src)))
  pub once : strict && repeats fields ≡ false
  pub says : keys ≡ keys_of kind fields
  pub told : Each (Told kind) fields
  pub marked : Marked exact seen fields
  pub few : keys.others ≤ pos

-- ---- a field's own bytes

-- a piece that is a field has its tag and its colon
module _ (k : Kind) (at : ℕ) (s : List ℕ) (h : 3 ≤ length s) (n : (m : ℕ) → field k at (before 9 s) ≡ refused_piece m → ⊥) where
  has-tag : is_tag (get_or s 0 0) (get_or s 1 0) ≡ true
  has-tag = split (is_tag (get_or s 0 0) (get_or s 1 0)) (λ t. t) (λ t. absurd (n 8 (field-in-place k at s ∙ place-tag k at s (omega arith) t)))

  has-colon : get_or s 2 0 ≡ 58
  has-colon =
      split (eqb (get_or s 2 0) 58) (eqb-true (get_or s 2 0) 58)
      (λ e. absurd (n 9 (field-in-place k at s ∙ place-colon k at s (omega arith) has-tag ∙ colon-other k (get_or s 0 0) (get_or s 1 0) (at + 3) s (omega arith) (eqb-false (get_or s 2 0) 58 e))))

kept-tag : {a b at : ℕ} {s : List ℕ} {f : Field} → Kept a b at s f → is_tag a b ≡ true → is_tag f.tag₀ f.tag₁ ≡ true
kept-tag {b = b} {f = f} k t = ap (λ x. is_tag x f.tag₁) k.first ∙ ap (is_tag _) k.second ∙ t

-- ---- what the answer to a field says

-- a field that was answered, where the tab before it has the offset `at` and `s` follows that tab
pub record Turned (kind : Kind) (at : ℕ) (s : List ℕ) (g : ParsedField) : Type 0 where
  pub field : Field
  pub answer : field_numbers kind field ≡ Ok g
  pub told : Told kind field
  pub kept : Kept (get_or s 0 0) (get_or s 1 0) (at + 1 + 3) (drop 3 s) field
  pub tag : is_tag field.tag₀ field.tag₁ ≡ true
  pub colon : get_or s 2 0 ≡ 58
  pub within : 3 + length field.value.bytes ≤ upto 9 s
  pub onward : tail_scan kind at (9 ∷ s)
      ≡ prepend (field ∷ []) (tail_scan kind (at + 1 + (3 + length field.value.bytes)) (drop (3 + length field.value.bytes) s))

module _ (kind : Kind) (at : ℕ) (s : List ℕ) (r : Result ParsedField ℕ) (e : r ≡ parsed_of kind (field kind 0 (before 9 s))) where
  -- wherever the line is
  answered : r ≡ parsed_of kind (field kind (at + 1) (before 9 s))
  answered = e ∙ sym (field-anywhere kind (at + 1) (before 9 s))

  pub refused-here : (n : ℕ) → r ≡ Err n → tail_scan kind at (9 ∷ s) ≡ record { fields = []; stop = n }
  refused-here n q = turn-bad kind at s n (parsed-bad kind (at + 1) n (before 9 s) (sym answered ∙ q))

  pub numbered-here : (n : ℕ) → r ≡ Err n → n ≡ 0 → ⊥
  numbered-here n q = parsed-numbered kind (at + 1) n (before 9 s) (sym answered ∙ q)

  pub turned : (g : ParsedField) → r ≡ Ok g → Turned kind at s g
  unfolding parsed_of
  turned g q = go (parsed-found kind (at + 1) s g (sym answered ∙ q))
    where
      go : Found kind (at + 1) s → Turned kind at s g
      go w = ⊎_elim yes onward w.judged
        where
          f : Field
          f = w.field

          yes : field kind (at + 1) (before 9 s) ≡ good f → Turned kind at s g
          yes b =
              let o = good-onward kind (at + 1) s f b in
              let l : 3 ≤ length s = omega (arith, o.1, upto_le 9 s) in
              let n : (m : ℕ) → field kind (at + 1) (before 9 s) ≡ refused_piece m → ⊥ = λ m c. never (let q : good f ≡ refused_piece m = sym b ∙ c in cc) in
              record {
                field = f;
                answer = sym (answered ∙ ap (parsed_of kind) b) ∙ q;
                told = w.told;
                kept = o.0;
                tag = kept-tag o.0 (has-tag kind (at + 1) s l n);
                colon = has-colon kind (at + 1) s l n;
                within = omega (arith, o.1);
                onward = turn-good kind at s f b o.1;
              }

          onward : field kind (at + 1) (before 9 s) ≡ good_then f 6 → Turned kind at s g
          onward b =
              let o = then-onward kind (at + 1) s f 6 b in
              let l : 3 ≤ length s = omega (arith, o.2, upto_le 9 s) in
              let n : (m : ℕ) → field kind (at + 1) (before 9 s) ≡ refused_piece m → ⊥ = λ m c. never (let q : good_then f 6 ≡ refused_piece m = sym b ∙ c in cc) in
              record {
                field = f;
                answer = sym (answered ∙ ap (parsed_of kind) b) ∙ q;
                told = w.told;
                kept = o.0;
                tag = kept-tag o.0 (has-tag kind (at + 1) s l n);
                colon = has-colon kind (at + 1) s l n;
                within = omega (arith, o.2);
                onward = turn-then kind at s f b o.2;
              }
