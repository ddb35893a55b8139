-- How an accepted add changes the chains of a header that has a program (Req 11), without and with a given PP.
use Rattle.std.specs.Prelude.{ℕ, ◌+◌, ◌<◌, ◌≡◌, true, not, ◌&&◌, ◌||◌, cond, List, [], ◌∷◌, map, length, get_or, drop, eqb, leb, ltb}
use Rattle.std.proofs.Math.Option.{none, some}
use Rattle.format.specs.Bytes.{any, distinct}
use Rattle.format.specs.Lines.{Piece}
use Rattle.format.specs.Fields.{last_of}
use Rattle.format.specs.Programs.{Link, root, dangling, child, programs, link, links, depth, roots, leaves}
use Rattle.format.specs.Adding.{given}
use Rattle.format.specs.Calls.{yes, adding}
use Rattle.accepted.specs.Read.{records_of}

-- ---- what is counted

-- the links of a text's programs; none if the text is refused
unfoldable pub links_in : List ℕ → List Link
unfolding records_of links programs
links_in text = links (programs (records_of text))

-- the number of parent links from the program `k` to its root
unfoldable pub depth_at : List Link → ℕ → ℕ
unfolding depth
depth_at ls k = depth ls (length ls) (get_or ls k root)

-- how many programs have the parent `k`
unfoldable pub children : ℕ → List Link → ℕ
children k [] = 0
children k (root ∷ ls) = children k ls
children k (dangling ∷ ls) = children k ls
children k (child j ∷ ls) = cond (eqb k j) 1 0 + children k ls

-- ---- the programs before, and those after, which are more

-- what never changes
pub record OldStay (before after : List Link) : Type 0 where
  pub same_roots : roots after ≡ roots before
  pub same_depths : (k : ℕ) → k < length before → depth_at after k ≡ depth_at before k

-- the laws if no PP is given
pub record Grown (before after : List Link) : Type 0 where
  -- the leaves are the new programs, each once
  pub new : (k : ℕ) → any (eqb k) (leaves after) ≡ (leb (length before) k && ltb k (length after))
  pub once : distinct (leaves after) ≡ true
  -- there are as many leaves as before
  pub many : length (leaves after) ≡ length (leaves before)
  pub stay : OldStay before after
  -- each old leaf is the parent of one new program
  pub follower : (k : ℕ) → any (eqb k) (leaves before) ≡ true → children k (drop (length before) after) ≡ 1
  -- the new programs come in the order of the leaves
  pub follow : drop (length before) after ≡ map child (leaves before)

-- the laws if a PP is given that names the program `j`
pub record GrownUnder (j : ℕ) (before after : List Link) : Type 0 where
  -- the leaves are the new programs, and the old leaves except `j`
  pub leaf : (k : ℕ) → any (eqb k) (leaves after) ≡ ((leb (length before) k && ltb k (length after)) || (any (eqb k) (leaves before) && not (eqb k j)))
  pub once : distinct (leaves after) ≡ true
  pub stay : OldStay before after
  -- there is one new program per old leaf, and `j` is the parent of all of them
  pub follow : drop (length before) after ≡ map (λ k. child j) (leaves before)

-- ---- the laws of every add that is answered

unfoldable pub AllGrown : Type 0
unfolding adding links_in last_of given
AllGrown =
    (text c prefix fields : List ℕ) (room : ℕ) (out : List ℕ) → adding text c prefix fields room ≡ yes out
    → 0 < length (links_in text) → last_of 80 80 (given fields).fields ≡ none → Grown (links_in text) (links_in out)

unfoldable pub AllGrownUnder : Type 0
unfolding adding links_in last_of given link programs records_of
AllGrownUnder =
    (text c prefix fields : List ℕ) (room : ℕ) (out : List ℕ) → adding text c prefix fields room ≡ yes out
    → (p : Piece) → last_of 80 80 (given fields).fields ≡ some p → (j : ℕ) → link (programs (records_of text)) (some p) ≡ child j
    → GrownUnder j (links_in text) (links_in out)
