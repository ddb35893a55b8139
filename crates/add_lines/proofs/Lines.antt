-- The parts of a new program's line: what they are, and how long.
use Prim.Native.Nat.{ℕ, ◌+◌, ◌-◌, ◌*◌, ◌/◌, ◌≤◌, ◌<◌}
use mathlib.Core.Path.{◌≡◌, refl, sym, ap, ◌∙◌}
use mathlib.Core.Bool.{Bool, true, false}
use mathlib.Core.List.{List, [], ◌∷◌, ◌++◌}
use native.Mathlib.Omega.{arith}
use native.Mathlib.Numerals.{add-one}
use lib.ListN.{length, drop, get_or, length-append, length-take, length-drop, drop_of_length-le}
use lib.Seq.{drop-cons}
use lib.Dec.{ltb}
use borrow.Author.Tests.{ltb-true, ltb-false}
use Rattle.format.specs.Tidy.{field_text}
use Rattle.format.specs.declared.Kind.TheVariants.{Program}
use Rattle.byte_slices.proofs.Over.{over_none}
use Rattle.tidy_parts.specs.Parts.{prefix_text}
use Rattle.tidy_parts.proofs.Wrote.{Wrote}
use Rattle.lists.proofs.Bools.{split}
use Rattle.program_ids.specs.Ids.{ids_at, IdsInText}
use Rattle.add_ids.specs.Taken.{id_in}
use Rattle.add_ids.proofs.Search.{id-none, id-some}
use Rattle.add_lines.specs.Lines.{new_lines, added_text}
use Rattle.add_lines.specs.Line.{joining, linking, ending, new_line}

pub joining-none : (alone : Bool) (id : List ℕ) → alone ≡ true → joining alone id ≡ []
unfolding joining
joining-none alone id e = rw e refl

pub joining-some : (alone : Bool) (id : List ℕ) → alone ≡ false → joining alone id ≡ 45 ∷ id
unfolding joining
joining-some alone id e = rw e refl

pub linking-some : (linked : Bool) (id : List ℕ) → linked ≡ true → linking linked id ≡ field_text 80 80 id
unfolding linking
linking-some linked id e = rw e refl

pub linking-none : (linked : Bool) (id : List ℕ) → linked ≡ false → linking linked id ≡ []
unfolding linking
linking-none linked id e = rw e refl

pub joining-most : (alone : Bool) (id : List ℕ) → length (joining alone id) ≤ 1 + length id
unfolding joining
joining-most true id = omega arith
joining-most false id = omega arith

pub linking-most : (linked : Bool) (id : List ℕ) → length (linking linked id) ≤ 4 + length id
unfolding linking field_text
linking-most true id = omega arith
linking-most false id = omega arith

-- nothing is written
pub wrote_none : (out : List ℕ) (o : ℕ) (xs : List ℕ) → xs ≡ [] → Wrote out o out o xs
wrote_none out o xs e = rw e (omega arith, sym (over_none out o))

pub ending-size : (linked : Bool) (fields id : List ℕ) → length (ending linked fields id) ≡ length fields + length (linking linked id) + 1
unfolding ending
ending-size linked fields id = length-append (fields ++ linking linked id) (10 ∷ []) ∙ ap (λ n. n + 1) (length-append fields (linking linked id))

-- the line up to its end
front-size : (alone : Bool) (prefix id : List ℕ)
    → length (prefix_text Program ++ (9 ∷ 73 ∷ 68 ∷ 58 ∷ []) ++ prefix ++ joining alone id) ≡ 7 + length prefix + length (joining alone id)
unfolding prefix_text
front-size alone prefix id =
    omega (arith, length-append (prefix_text Program ++ (9 ∷ 73 ∷ 68 ∷ 58 ∷ []) ++ prefix) (joining alone id), length-append (prefix_text Program ++ (9 ∷ 73 ∷ 68 ∷ 58 ∷ [])) prefix)

pub line-size : (alone linked : Bool) (prefix fields id : List ℕ)
    → length (new_line alone linked prefix fields id) ≡ 8 + length prefix + length fields + length (joining alone id) + length (linking linked id)
unfolding new_line
line-size alone linked prefix fields id =
    length-append (prefix_text Program ++ (9 ∷ 73 ∷ 68 ∷ 58 ∷ []) ++ prefix ++ joining alone id) (ending linked fields id)
    ∙ omega (arith, front-size alone prefix id, ending-size linked fields id)

-- ---- one after each leaf

module _ (ids : List (List ℕ)) (linked : Bool) (prefix fields ks : List ℕ) where
  pub lines_more : (first : Bool) (i : ℕ) → i < length ks
      → new_lines ids first linked prefix fields (drop i ks)
      ≡ new_line first linked prefix fields (id_in ids (get_or ks i 0)) ++ new_lines ids false linked prefix fields (drop (i + 1) ks)
  unfolding new_lines
  lines_more first i h = rw (drop-cons ks i 0 h, add-one i) refl

  pub lines-done : (first : Bool) (i : ℕ) → length ks ≤ i → new_lines ids first linked prefix fields (drop i ks) ≡ []
  unfolding new_lines
  lines-done first i h = rw (drop_of_length-le ks h) refl

-- an ID is no longer than the text
pub id-most : (t ids : List ℕ) → IdsInText t ids → (k : ℕ) → length (id_in (ids_at t ids) k) ≤ length t
id-most t ids p k =
    split (ltb k (length ids / 3)) (λ q. within (ltb-true k (length ids / 3) q)) (λ q. omega (arith, ap length (id-none t ids p k (ltb-false k (length ids / 3) q))))
  where
    within : k < length ids / 3 → length (id_in (ids_at t ids) k) ≤ length t
    within h =
        let a = get_or ids (k * 3) 0 in
        omega (arith, ap length (id-some t ids p k h), length-take (a + get_or ids (k * 3 + 1) 0 - a) (drop a t), length-drop a t)

module _ (ids : List (List ℕ)) (empty alone linked : Bool) (prefix fields ks : List ℕ) where
  pub added-one : empty ≡ true → added_text ids empty alone linked prefix fields ks ≡ new_line true false prefix fields []
  unfolding added_text
  added-one e = rw e refl

  pub added-each : empty ≡ false → added_text ids empty alone linked prefix fields ks ≡ new_lines ids alone linked prefix fields ks
  unfolding added_text
  added-each e = rw e refl
