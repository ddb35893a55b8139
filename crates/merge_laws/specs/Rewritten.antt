-- Headers that were written from one another, and which of them are judged to be merges.
use Rattle.std.specs.Prelude.{ℕ, ◌<◌, ◌≡◌, Bool, List, [], ◌++◌, map, length}
use Rattle.format.specs.Records.{Record}
use Rattle.format.specs.Programs.{Link, root, dangling, child, programs, numbers_from}
use Rattle.format.specs.Calls.{yes, records}
use Rattle.format.specs.References.{sq_list}
use Rattle.format.specs.Prune.{chosen}
use Rattle.format.specs.Merge.{merged, unmerged, judging_merge}
use Rattle.byte_slices.specs.Stands.{Each}
use Rattle.accepted.specs.Read.{records_of}
use Rattle.tidy_laws.specs.Bare.{bares}
use Rattle.merge_laws.specs.Fit.{Fit, Fits, parent_links}
use Rattle.merge_laws.specs.IsMerge.{Hits, image_link, Assigns, Images}
use Rattle.merge_laws.specs.Exactly.{JoinsTexts}

-- how many programs a text has
unfoldable pub program_count : List ℕ → ℕ
unfolding programs records_of
program_count t = length (programs (records_of t))

-- the list in which each program is its own image
unfoldable pub itself : List ℕ → List ℕ
unfolding numbers_from program_count
itself t = numbers_from 0 (program_count t)

-- the same references, with the same names and lengths
unfoldable pub SameSq : List ℕ → List ℕ → Type 0
unfolding sq_list records_of
SameSq t u = sq_list (records_of u) ≡ sq_list (records_of t)

-- a root, or a child of one of the first `n` programs
unfoldable pub FollowsOld : ℕ → Link → Type 0
FollowsOld n root = Unit
FollowsOld n dangling = ⊥
FollowsOld n (child k) = k < n

-- `u` has the programs of `t` and others after them that follow those, as adding writes them
pub record Longer (t u : List ℕ) : Type 0 where
  pub accepted : records u ≡ yes (records_of u)
  pub references : SameSq t u
  pub more : List Record
  pub more_links : List Link
  pub behind : bares 4 (records_of u) ≡ bares 4 (records_of t) ++ more
  pub behind_links : parent_links u ≡ parent_links t ++ more_links
  pub follows : Each (FollowsOld (length (parent_links t))) more_links

-- the list of the programs of `t` that stay
unfoldable pub stayed : List ℕ → (ℕ → Bool) → List ℕ
unfolding chosen itself
stayed t stays = chosen stays 0 (itself t)

-- `u` has the programs of `t` that stay, and each PP names the program that it named, as pruning writes them
pub record Shorter (t u : List ℕ) (stays : ℕ → Bool) : Type 0 where
  pub references : SameSq t u
  pub fewer : bares 4 (records_of u) ≡ chosen stays 0 (bares 4 (records_of t))
  pub fewer_links : map (image_link (stayed t stays)) (parent_links u) ≡ chosen stays 0 (parent_links t)

pub record Rewritten : Type 0 where
  -- a header is a merge of itself with itself
  pub own : (t : List ℕ) → Fit t → judging_merge t t t (itself t) (itself t) ≡ merged
  -- a header is a merge of itself and the empty text, on either side
  pub with_nothing : (t : List ℕ) → Fit t → (judging_merge t [] t (itself t) [] ≡ merged) × (judging_merge [] t t [] (itself t) ≡ merged)
  -- a text with equal references and programs, such as the tidy text, is a merge of a header with itself too
  pub equal : (t u : List ℕ) → Fit t → records u ≡ yes (records_of u) → SameSq t u → bares 4 (records_of u) ≡ bares 4 (records_of t)
      → judging_merge t t u (itself t) (itself t) ≡ merged
  -- if all programs of a header have images in another one, the other one is a merge of both
  pub absorbed : (t u list : List ℕ) → Fit t → Fit u → SameSq t u → Assigns (program_count u) (program_count t) list
      → Images (records_of u) (records_of t) list → judging_merge t u t (itself t) list ≡ merged
  -- a merged program that no list hits is refused; a program that the merging tool adds for itself is one
  pub unlisted : (a b m list_a list_b : List ℕ) (i : ℕ) → Fits a b m → JoinsTexts a b m → i < program_count m
      → (Hits list_a i → ⊥) → (Hits list_b i → ⊥) → judging_merge a b m list_a list_b ≡ unmerged 31
  -- a header with more programs is not a merge of a header with itself, whatever the list: some program is not hit
  pub unhit : (t u list : List ℕ) → Fit t → Fit u → SameSq t u → program_count t < program_count u → judging_merge t t u list list ≡ unmerged 31
  -- it is not a merge of that header and the empty text either
  pub unhit_alone : (t u list : List ℕ) → Fit t → Fit u → SameSq t u → program_count t < program_count u → judging_merge t [] u list [] ≡ unmerged 31
  -- a header with programs added is fit, and is a merge of itself and the old header; it is not a merge of the old header with itself
  pub grown : (t u : List ℕ) → Fit t → Longer t u → Fit u × (judging_merge u t u (itself u) (itself t) ≡ merged)
  pub grown_unhit : (t u list : List ℕ) → Fit t → Longer t u → program_count t < program_count u → judging_merge t t u list list ≡ unmerged 31
  -- a header is a merge of itself and the same header with programs dropped
  pub pruned : (t u : List ℕ) (stays : ℕ → Bool) → Fit t → Fit u → Shorter t u stays → judging_merge t u t (itself t) (stayed t stays) ≡ merged
