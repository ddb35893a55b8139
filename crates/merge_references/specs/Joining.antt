-- What a list of references has of a name, and what is left to judge of a merged list.
use Rattle.std.specs.Prelude.{ℕ, ◌≤◌, ◌≡◌, Bool, false, ◌&&◌, cond, List, [], ◌∷◌, ◌++◌, length, eqb, Option, None, Some}
use Rattle.format.specs.Bytes.{any}
use Rattle.format.specs.References.{Reference, same_references}
use Rattle.format.specs.Merge.{same_name, agreeing, lacking}
use Rattle.binary_references.specs.Next.{sq_from}

-- the first reference with this name decides: whether it has the length too
unfoldable pub met_in : Reference → List Reference → Option Bool
unfolding same_name
met_in q [] = None
met_in q (r ∷ rs) = cond (same_name q r) (Some (eqb q.size r.size)) (met_in q rs)

-- the rest of the merged list has these references, if A's are its front
unfoldable pub after_front : Bool → List ℕ → Option ℕ → List Reference → Bool
unfolding same_references
after_front strict m None l = false
after_front strict m (Some next) l = same_references (sq_from strict m next) l

-- the references from the offset `at` of the text `t` on are the last ones of its list
pub record From (strict : Bool) (t : List ℕ) (at : ℕ) : Type 0 where
  pub within : at ≤ length t
  pub front : List Reference
  pub joined : sq_from strict t 0 ≡ front ++ sq_from strict t at

-- no two have the same name
unfoldable pub Apart : List Reference → Type 0
unfolding any same_name
Apart [] = Unit
Apart (r ∷ rs) = (any (same_name r) rs ≡ false) × Apart rs

-- `b` is left to judge of B, and `m` of the merged list after A's references
unfoldable pub left_of : List Reference → List Reference → List Reference → Bool
unfolding agreeing same_references lacking
left_of a b m = agreeing a b && same_references m (lacking a b)
