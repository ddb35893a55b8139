-- What one pass over a line notes of its tags, by their numbers: which tags occur, and where each occurs first and last.
use Rattle.std.specs.Prelude.{ℕ, ◌+◌, ◌%◌, ◌≡◌, Bool, true, false, cond, List, [], ◌∷◌, length, get_or, set, eqb}
use Rattle.format.specs.Bytes.{none?}
use Rattle.format.specs.Fields.{Field, is_tag}
use Rattle.byte_slices.specs.Stands.{Each}
use Rattle.accepted_line.specs.Number.{tag_number}
use Rattle.accepted_line.specs.Run.{fields_from, AtField}
use Rattle.accepted_line.specs.Next.{field_length}

unfoldable pub field_number : Field → ℕ
unfolding tag_number
field_number f = tag_number f.tag₀ f.tag₁

-- the tag of a field is a letter, then a letter or digit
unfoldable pub HasTag : Field → Type 0
unfolding is_tag
HasTag f = is_tag f.tag₀ f.tag₁ ≡ true

-- ---- marks

-- do all fields have different marks out of 112, none of them set before?
unfoldable pub spread : List Bool → List Field → Bool
unfolding field_number
spread seen [] = true
spread seen (f ∷ fs) = cond (get_or seen (field_number f % 112) false) false (spread (set seen (field_number f % 112) true) fs)

-- ---- two tables in one list: 3,224 first places, then 3,224 last places, 0 for a tag that does not occur

-- the tables after noting a field at the offset `p` whose tag has the number `n`
unfoldable pub marked : List ℕ → ℕ → ℕ → List ℕ
marked t n p = set (cond (eqb (get_or t n 0) 0) (set t n p) t) (3224 + n) p

-- the tables after noting the fields from the offset `p` on
unfoldable pub noted : List ℕ → ℕ → List Field → List ℕ
unfolding marked field_number field_length
noted t p [] = t
noted t p (f ∷ fs) = noted (marked t (field_number f) p) (p + field_length f) fs

-- no tag has been noted yet
pub record Blank (t : List ℕ) : Type 0 where
  pub size : length t ≡ 6448
  pub zero : (n : ℕ) → get_or t n 0 ≡ 0

-- the tables of a line
pub record Noted (at : ℕ) (line t : List ℕ) : Type 0 where
  pub blank : List ℕ
  pub start : Blank blank
  pub tags : Each HasTag (fields_from at line 3)
  pub is : t ≡ noted blank (at + 3) (fields_from at line 3)

-- a walk over a line may start with the tables `t`: they are none and no tag is repeated in the line, or they are the line's
pub record Walkable (at : ℕ) (line t : List ℕ) : Type 0 where
  pub start : AtField (none? t) at line 3
  pub tables : none? t ≡ false → Noted at line t
