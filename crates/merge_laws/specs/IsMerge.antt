-- The conditions of document 02 on a merge, one by one: on the records of A, of B and of the merged header, and on the two lists.
use Rattle.std.specs.Prelude.{ℕ, ◌<◌, ◌≡◌, ◌↔◌, ◌⊎◌, length, get_or}
use mathlib.Core.List.{List, [], ◌++◌, map, Memᴰ}
use Rattle.format.specs.Fields.{Field, without}
use Rattle.format.specs.Records.{Record, others}
use Rattle.format.specs.Reading.{of_kind}
use Rattle.format.specs.Programs.{Link, root, dangling, child, programs, links}
use Rattle.format.specs.References.{Reference, sq_list}
use Rattle.format.specs.Merge.{lacking}
use Rattle.tidy_laws.specs.Bare.{bare_field}

-- ---- 30: the references

pub record Joins (a b m : List Reference) : Type 0 where
  -- a name that both have has the same length in both
  pub agree : (r q : Reference) → Memᴰ r a → Memᴰ q b → r.name ≡ q.name → r.size ≡ q.size
  -- the merged list is A's, followed by those of B whose name A lacks
  pub list : m ≡ a ++ lacking a b

-- ---- 31: the lists

-- the image of the program `k`
unfoldable pub image_in : List ℕ → ℕ → ℕ
image_in list k = get_or list k 0

-- `i` is the image of a program
unfoldable pub Hits : List ℕ → ℕ → Type 0
unfolding image_in
Hits list i = (k : ℕ) × (k < length list) × (image_in list k ≡ i)

-- one image for each of `n` programs: an ordinal below `m`, and none twice
pub record Assigns (n m : ℕ) (list : List ℕ) : Type 0 where
  pub count : length list ≡ n
  pub valid : (k : ℕ) → k < n → image_in list k < m
  pub once : (j k : ℕ) → j < n → k < n → image_in list j ≡ image_in list k → j ≡ k

-- the lists of `a` programs of A and `b` of B, with `m` programs in the merged header
pub record Lists (a b m : ℕ) (list_a list_b : List ℕ) : Type 0 where
  pub of_a : Assigns a m list_a
  pub of_b : Assigns b m list_b
  -- every merged program is the image of a program of A or of B
  pub every : (i : ℕ) → i < m → Hits list_a i ⊎ Hits list_b i

-- ---- 32: the programs

-- what the PP of the program `k` means
unfoldable pub parent_at : List Record → ℕ → Link
unfolding links programs
parent_at rs k = get_or (links (programs rs)) k root

-- a program's fields other than ID and PP, in order; where they are in the text doesn't count
unfoldable pub other_fields : Record → List Field
unfolding bare_field without others
other_fields r = map bare_field (without 80 80 (others r))

-- those of the program `k`
unfoldable pub fields_at : List Record → ℕ → List Field
unfolding other_fields of_kind
fields_at rs k = get_or (map other_fields (of_kind 4 rs)) k []

-- the link of an image leads to the image of the program that the original's link leads to
unfoldable pub image_link : List ℕ → Link → Link
unfolding image_in
image_link list root = root
image_link list dangling = dangling
image_link list (child k) = child (image_in list k)

-- the program `k` of `a` has an image in `m`
pub record ImageOf (a m : List Record) (list : List ℕ) (k : ℕ) : Type 0 where
  pub same_fields : fields_at m (image_in list k) ≡ fields_at a k
  -- it is a root exactly if the program is one
  pub same_root : (parent_at a k ≡ root) ↔ (parent_at m (image_in list k) ≡ root)
  -- its parent is the image of the program's parent
  pub parent : (p : ℕ) → parent_at a k ≡ child p → parent_at m (image_in list k) ≡ child (image_in list p)

-- every program has an image
unfoldable pub Images : List Record → List Record → List ℕ → Type 0
unfolding programs
Images a m list = (k : ℕ) → k < length (programs a) → ImageOf a m list k

-- ---- all of them

pub record IsMerge (a b m : List Record) (list_a list_b : List ℕ) : Type 0 where
  pub references : Joins (sq_list a) (sq_list b) (sq_list m)
  pub lists : Lists (length (programs a)) (length (programs b)) (length (programs m)) list_a list_b
  pub images_a : Images a m list_a
  pub images_b : Images b m list_b
