-- What is at the front of given fields: nothing, a field, or a refusal.
use Prim.Native.Nat.{ℕ, suc, ◌+◌, ◌-◌, ◌<◌}
use mathlib.Core.Path.{◌≡◌, refl, sym, ap, subst, ◌∙◌}
use mathlib.Core.Bool.{true}
use mathlib.Core.List.{List, [], ◌∷◌, ◌++◌, append-nil}
use native.Mathlib.Omega.{arith}
use lib.ListN.{length, take, drop, take-append-drop}
use lib.Seq.{drop-cons}
use lib.Dec.{eqb, ltb}
use borrow.Author.Tests.{eqb-true, ne_eqb, ltb-true, ltb-false}
use Rattle.format.specs.Fields.{Field, field}
use Rattle.format.specs.Adding.{given}
use Rattle.format.specs.Tidy.{field_text}
use Rattle.format.specs.declared.Kind.TheVariants.{Program}
use Rattle.byte_slices.specs.Upto.{upto, before}
use Rattle.byte_slices.specs.Stands.{Stands}
use Rattle.byte_slices.proofs.Lines.{upto_le}
use Rattle.std.specs.Prelude.{Result, Ok, Err}
use Rattle.field.specs.declared.ParsedField.{ParsedField}
use Rattle.field.specs.Parsed.{parsed_of}
use Rattle.lists.proofs.Bools.{split}
use Rattle.record_parser.proofs.FieldByField.{tail_scan, prepend, upto-not}
use Rattle.record_parser.proofs.Walked.{Turned, turned, refused-here, numbered-here}
use Rattle.record_parser.proofs.Step.{clean-field, spelled-text}
use Rattle.accepted_line.specs.Run.{Runs}
use Rattle.accepted_line.specs.Next.{field_length}
use Rattle.accepted_line.proofs.fields.Runs.{bytes_of, runs_none, runs-more}

-- the given fields are what is left of a line after its kind bytes
pub given-tail : (s : List ℕ) → given s ≡ tail_scan Program 0 s
unfolding given tail_scan
given-tail [] = refl
given-tail (b ∷ s) = refl

-- fields that are read from the offset `at` on
pub data Front (at : ℕ) : List ℕ → Type 0 where
  ends : Front at []
  stops : {s : List ℕ} (n : ℕ) → (n ≡ 0 → ⊥) → tail_scan Program at s ≡ record { fields = []; stop = n } → Front at s
  starts : (s : List ℕ) (g : ParsedField) → Turned Program at s g → Front at (9 ∷ s)

pub front : (at : ℕ) (s : List ℕ) → Front at s
unfolding tail_scan
front at [] = ends
front at (b ∷ s) = split (eqb b 9) tab (λ n. stops 6 (λ e. omega arith) (rw n refl))
  where
    at-tab : (r : Result ParsedField ℕ) → r ≡ parsed_of Program (field Program 0 (before 9 s)) → Front at (9 ∷ s)
    at-tab (Ok g) q = starts s g (turned Program at s (Ok g) q g refl)
    at-tab (Err n) q = stops n (numbered-here Program at s (Err n) q n refl) (refused-here Program at s (Err n) q n refl)

    tab : eqb b 9 ≡ true → Front at (b ∷ s)
    tab e = rw (eqb-true b 9 e) (at-tab (parsed_of Program (field Program 0 (before 9 s))) refl)

-- ---- a field

module _ (at : ℕ) (s : List ℕ) (g : ParsedField) (t : Turned Program at s g) where
  -- how many bytes it has after its tab
  abbrev pub size : ℕ
  size = 3 + length t.field.value.bytes

  field-size : field_length t.field ≡ suc size
  unfolding field_length field_text
  field-size = omega arith

  pub place : t.field.value.at ≡ at + 4
  place = omega (arith, t.kept.starts)

  -- the fields from it on are this one, and those after it
  pub onward : tail_scan Program at (9 ∷ s) ≡ prepend (t.field ∷ []) (tail_scan Program (at + suc size) (drop size s))
  onward = let e : at + 1 + size ≡ at + suc size = omega arith in t.onward ∙ rw e refl

  -- by itself it is a run of fields
  pub one-run : Runs at (9 ∷ take size s) (t.field ∷ [])
  one-run =
      rw (spelled-text Program at s g t, ← append-nil (bytes_of t.field))
      (runs-more at t.field [] [] (clean-field Program at s g t) place (runs_none (at + field_length t.field)))

  -- in front of a run, it is the first of it
  pub more-run : (fs : List Field) → Runs (at + suc size) (drop size s) fs → Runs at (9 ∷ s) (t.field ∷ fs)
  more-run fs r =
      subst (λ l. Runs at l (t.field ∷ fs))
      (ap (λ l. l ++ drop size s) (sym (spelled-text Program at s g t)) ∙ ap (λ l. 9 ∷ l) (take-append-drop size s))
      (runs-more at t.field (drop size s) fs (clean-field Program at s g t) place (rw field-size r))

  -- its value is in it
  pub own-stands : Stands (9 ∷ s) at t.field.value
  own-stands =
      let e : t.field.value.at - at ≡ 4 = omega (arith, place) in
      record {
        from = omega (arith, place);
        within = omega (arith, place, t.within, upto_le 9 s);
        bytes = t.kept.bytes ∙ rw e refl;
      }

  -- where what follows is in form, its value goes up to the next tab
  pub whole : (tail_scan Program (at + suc size) (drop size s)).stop ≡ 0 → size ≡ upto 9 s
  unfolding tail_scan
  whole h = split (ltb size (upto 9 s)) short (λ e. omega (arith, t.within, ltb-false size (upto 9 s) e))
    where
      short : ltb size (upto 9 s) ≡ true → size ≡ upto 9 s
      short e =
          let l : size < upto 9 s = ltb-true size (upto 9 s) e in
          let z = rw (drop-cons s size 0 (omega (arith, upto_le 9 s)), ne_eqb _ _ (upto-not 9 s size l)) at h in
          absurd (omega arith)
