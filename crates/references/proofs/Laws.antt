-- Each row is what `calls::key` and `calls::length` answer for its SQ, and there are as many as `calls::count` answers.
use Prim.Native.Nat.{ℕ, zero, suc, ◌*◌, ◌<◌}
use mathlib.Core.Path.{◌≡◌, refl, sym, ap, ◌∙◌}
use mathlib.Core.Bool.{Bool, true, false, cond}
use mathlib.Core.List.{List, [], ◌∷◌}
use mathlib.Core.Option.{some}
use native.Mathlib.Omega.{arith}
use lib.ListN as list
use lib.ListN.{take, drop, get_elem?}
use lib.Dec.{ltb}
use Rattle.format.specs.Lines.{Piece}
use Rattle.format.specs.Fields.{Field}
use Rattle.format.specs.Records.{Record, header, reference, group, program, comment, code, key}
use Rattle.format.specs.Reading.{of_kind}
use Rattle.format.specs.Calls.{refused, yes, then, fitting, there, key_if_there, length_if_there, counting, keying, sizing}
use Rattle.accepted.specs.Read.{records_of}
use Rattle.read.proofs.Fresh.{Current, refused-is-no-answer, passed, goes_on}
use Rattle.calls.proofs.OwnCatalogue.{count-served}
use Rattle.format.specs.Referencing.{row, rows, referencing}
use Rattle.references.specs.Laws.{RowOf}
use Rattle.references.proofs.OwnCatalogue.{count-is}

-- ---- over records

record Here (qs : List Record) (i : ℕ) : Type 0 where
  pub name : Piece
  pub ln : ℕ
  pub others : List Field
  pub is : get_elem? qs i ≡ some (reference name ln others)
  pub row : take 3 (drop (3 * i) (rows qs)) ≡ name.at ∷ list.length name.bytes ∷ ln ∷ []

here : (rs : List Record) (i : ℕ) → i < list.length (of_kind 2 rs) → Here (of_kind 2 rs) i
unfolding of_kind code rows row
here [] i h = absurd (omega arith)
here (header v fs ∷ rs) i h = here rs i h
here (reference p n fs ∷ rs) zero h = record { name = p; ln = n; others = fs; is = refl; row = refl }
here (reference p n fs ∷ rs) (suc i) h =
    let x = here rs i (omega arith) in
    let m : 3 * suc i ≡ suc (suc (suc (3 * i))) = omega arith in
    record {
      name = x.name;
      ln = x.ln;
      others = x.others;
      is = x.is;
      row = ap (λ k. take 3 (drop k (p.at ∷ list.length p.bytes ∷ n ∷ rows (of_kind 2 rs)))) m ∙ x.row;
    }
here (group p fs ∷ rs) i h = here rs i h
here (program p fs ∷ rs) i h = here rs i h
here (comment p ∷ rs) i h = here rs i h

-- ---- whatever the text and the catalogue are

module _ (t c : List ℕ) (room : ℕ) (a : List ℕ × ℕ) (e : referencing t c room ≡ yes a) where
  abbrev sq : List Record
  sq = of_kind 2 (records_of t)

  own : Current t c
  unfolding referencing
  own = passed t c (λ rs. then (fitting room (rows (of_kind 2 rs))) (λ xs. yes (xs, list.length (of_kind 2 rs)))) a e

  told : (a.0 ≡ rows sq) × (a.1 ≡ list.length sq)
  unfolding referencing then fitting
  told = go (ltb room (list.length (rows sq))) (sym (goes_on t c (λ rs. then (fitting room (rows (of_kind 2 rs))) (λ xs. yes (xs, list.length (of_kind 2 rs)))) own) ∙ e)
    where
      go : (b : Bool) → then (cond b (refused 20 0) (yes (rows sq))) (λ xs. yes (xs, list.length sq)) ≡ yes a → (a.0 ≡ rows sq) × (a.1 ≡ list.length sq)
      go true q = absurd (refused-is-no-answer 20 0 a q)
      go false q = let z : ◌≡◌ {A = List ℕ × ℕ} (rows sq, list.length sq) a = cc in (sym (ap (λ x. x.0) z), sym (ap (λ x. x.1) z))

  pub row_count : counting t c 2 ≡ yes a.1
  row_count = count-served t c own 2 (omega arith) (omega arith) ∙ ap yes (count-is t c own ∙ sym told.1)

  pub row_of : (i : ℕ) → i < a.1 → RowOf t c a.0 i
  unfolding keying sizing there key_if_there length_if_there key
  row_of i h =
      let x = here (records_of t) i (omega (arith, h, told.1)) in
      record {
        name = x.name;
        ln = x.ln;
        key = goes_on t c (λ rs. there (key_if_there (get_elem? (of_kind 2 rs) i))) own ∙ ap (λ o. there (key_if_there o)) x.is;
        length = goes_on t c (λ rs. there (length_if_there (get_elem? (of_kind 2 rs) i))) own ∙ ap (λ o. there (length_if_there o)) x.is;
        row = ap (λ xs. take 3 (drop (3 * i) xs)) told.0 ∙ x.row;
      }
