-- What an accepted merge means: every reference and every program of A and of B is in the merged header, and following parents there gives the same
-- as following them in A or B.
use Rattle.std.specs.Prelude.{ℕ, zero, suc, ◌<◌, ◌≡◌, ◌⊎◌, length, get_or, take}
use mathlib.Core.List.{List, [], ◌∷◌, map, Memᴰ}
use Rattle.format.specs.Records.{Record}
use Rattle.format.specs.Programs.{Link, root, dangling, child, programs, links, depth}
use Rattle.format.specs.References.{Reference, sq_list}
use Rattle.format.specs.Merge.{merged, judging_merge}
use Rattle.accepted.specs.Read.{records_of}
use Rattle.merge_laws.specs.Fit.{Fits}
use Rattle.merge_laws.specs.IsMerge.{image_in, Lists, Images, parent_at}

-- ---- references, by name and length

pub record HoldsReferences (a b m : List Reference) : Type 0 where
  -- A's come first, in A's order
  pub first : take (length a) m ≡ a
  -- B's are there too
  pub of_b : (q : Reference) → Memᴰ q b → Memᴰ q m
  -- there are no others
  pub only : (r : Reference) → Memᴰ r m → Memᴰ r a ⊎ Memᴰ r b

-- ---- chains

-- the programs from `l` on, from parent to parent, at most `f` of them
unfoldable pub ancestors : List Link → ℕ → Link → List ℕ
ancestors ls zero l = []
ancestors ls (suc f) root = []
ancestors ls (suc f) dangling = []
ancestors ls (suc f) (child k) = k ∷ ancestors ls f (get_or ls k root)

-- the number of parent links from the program `k` to its root
unfoldable pub depth_of : List Record → ℕ → ℕ
unfolding depth links programs parent_at
depth_of rs k = depth (links (programs rs)) (length (links (programs rs))) (parent_at rs k)

-- the programs of `a` and their images in `m`
pub record KeepsChains (a m : List Record) (list : List ℕ) : Type 0 where
  -- the ancestors of an image are the images of the ancestors, in order
  pub chain : (f k : ℕ) → k < length (programs a)
      → ancestors (links (programs m)) f (parent_at m (image_in list k)) ≡ map (image_in list) (ancestors (links (programs a)) f (parent_at a k))
  -- so an image is as deep as its program
  pub same_depth : (k : ℕ) → k < length (programs a) → depth_of m (image_in list k) ≡ depth_of a k

-- ---- the law

pub record Means (a b m list_a list_b : List ℕ) : Type 0 where
  pub fit : Fits a b m
  pub references : HoldsReferences (sq_list (records_of a)) (sq_list (records_of b)) (sq_list (records_of m))
  pub lists : Lists (length (programs (records_of a))) (length (programs (records_of b))) (length (programs (records_of m))) list_a list_b
  pub images_a : Images (records_of a) (records_of m) list_a
  pub images_b : Images (records_of b) (records_of m) list_b
  pub chains_a : KeepsChains (records_of a) (records_of m) list_a
  pub chains_b : KeepsChains (records_of b) (records_of m) list_b

-- the law of every merge that is accepted
unfoldable pub AllMeans : Type 0
unfolding judging_merge
AllMeans = (a b m list_a list_b : List ℕ) → judging_merge a b m list_a list_b ≡ merged → Means a b m list_a list_b
