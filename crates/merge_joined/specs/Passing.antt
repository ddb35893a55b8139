-- How far B and the merged list have been passed, and what one step leaves.
use Rattle.std.specs.Prelude.{ℕ, ◌+◌, ◌≤◌, ◌<◌, ◌≡◌, Bool, true, false, ◌&&◌, List, [], ◌∷◌, ◌++◌, length, Option, IfSome}
use Rattle.format.specs.References.{Reference, same_references}
use Rattle.binary_references.specs.Next.{sq_from, told_reference, told_list}
use Rattle.binary_references.specs.declared.NextReference.{NextReference}
use Rattle.merge_references.specs.Joining.{Apart, left_of}
use Rattle.merge_joined.specs.declared.Rules.{Rules}
use Rattle.merge_joined.specs.declared.Left.{Left}
use Rattle.merge_joined.specs.declared.Turn.{Turn}
use Rattle.merge_joined.specs.declared.Turn.TheVariants.{Settled, Open}

-- what is known of the three texts: they are not too long, and no name occurs twice in A's list or in the merged list
pub record Readable (of : Rules) (a b m : List ℕ) : Type 0 where
  pub small-a : length a ≤ 16777216
  pub small_b : length b ≤ 16777216
  pub small-m : length m ≤ 16777216
  pub apart-a : Apart (sq_from of.a a 0)
  pub apart-m : Apart (sq_from of.merged m 0)

-- where the next reference of the merged text and those after it are
pub record IsAhead (t : List ℕ) (n : NextReference) : Type 0 where
  pub name : n.name.at + n.name.len ≤ length t
  pub within : n.next ≤ length t

-- the same, if there is one
abbrev pub Ahead : List ℕ → Option NextReference → Type 0
Ahead t n = IfSome n (λ x. IsAhead t x)

-- A's references, `rs`, come before them
pub record Behind (rs : List Reference) (strict : Bool) (t : List ℕ) (n : Option NextReference) : Type 0 where
  pub more : List Reference
  pub joined : sq_from strict t 0 ≡ rs ++ (more ++ told_list strict t n)

-- places in B and in the merged text
pub record Reached (rs : List Reference) (b : List ℕ) (strict : Bool) (m : List ℕ) (left : Left) : Type 0 where
  pub within : left.at ≤ length b
  pub merged : Ahead m left.ahead
  pub behind : Behind rs strict m left.ahead

-- all agrees from `from` on exactly if it agrees up to `x` and from there on
pub record Passed (rs : List Reference) (strict-b : Bool) (b : List ℕ) (strict-m : Bool) (m : List ℕ) (from x : Left) : Type 0 where
  pub leaves : left_of rs (sq_from strict-b b from.at) (told_list strict-m m from.ahead)
      ≡ x.good && left_of rs (sq_from strict-b b x.at) (told_list strict-m m x.ahead)
  pub reached : Reached rs b strict-m m x
  pub well : x.more ≡ true → x.good ≡ true
  pub spent : x.more ≡ false → x.good ≡ true → sq_from strict-b b x.at ≡ []
  pub onward : from.at ≤ x.at

-- the next reference of B is settled
pub record IsSettled (strict-b : Bool) (b : List ℕ) (strict-m : Bool) (m : List ℕ) (from x : Left) : Type 0 where
  pub passed : (rs : List Reference) → Reached rs b strict-m m from → Passed rs strict-b b strict-m m from x
  pub ahead : x.more ≡ true → from.at < x.at

-- it comes first and is not the next of the merged list
pub record IsOpen (strict-b : Bool) (b : List ℕ) (strict-m : Bool) (m : List ℕ) (from : Left) (q : NextReference) : Type 0 where
  pub name : q.name.at + q.name.len ≤ length b
  pub within : q.next ≤ length b
  pub first : sq_from strict-b b from.at ≡ told_reference b q ∷ sq_from strict-b b q.next
  pub onward : from.at < q.next
  pub gone : (k : List Reference) → same_references (told_list strict-m m from.ahead) (told_reference b q ∷ k) ≡ false

-- one or the other
abbrev pub IsNext : Bool → List ℕ → Bool → List ℕ → Left → Turn → Type 0
IsNext strict-b b strict-m m from (Settled x) = IsSettled strict-b b strict-m m from x
IsNext strict-b b strict-m m from (Open q) = IsOpen strict-b b strict-m m from q
