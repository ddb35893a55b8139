-- Two headers that share a reference and their IDs, merged with new IDs for the programs of B; three merges that are refused; and a header
-- with a program added, and with one dropped.
use Prim.Native.Nat.{ℕ}
use mathlib.Core.Path.{◌≡◌, refl}
use mathlib.Core.Bool.{Bool, not}
use mathlib.Core.List.{List, [], ◌∷◌}
use native.Mathlib.Omega.{arith}
use lib.ListN.{drop}
use lib.Dec.{eqb}
use Rattle.format.specs.Bytes.{any}
use Rattle.format.specs.Programs.{child, is_dangling, loops_from}
use Rattle.format.specs.Calls.{records}
use Rattle.format.specs.Prune.{chosen}
use Rattle.format.specs.Merge.{merged, unmerged, judging_merge}
use Rattle.byte_slices.specs.Stands.{Each}
use Rattle.accepted.specs.Read.{records_of}
use Rattle.tidy_laws.specs.Bare.{bares}
use Rattle.format.proofs.Ascii.{ascii}
use Rattle.merge_laws.specs.Fit.{parent_links, Fit}
use Rattle.merge_laws.specs.IsMerge.{image_link}
use Rattle.merge_laws.specs.Means.{depth_of}
use Rattle.merge_laws.specs.Rewritten.{SameSq, FollowsOld, Longer, stayed, Shorter}

unfoldable first : List ℕ
unfolding ascii
first = ascii "@SQ\tSN:s1\tLN:8\n@SQ\tSN:s2\tLN:9\n@PG\tID:a\tPN:x\n@PG\tID:b\tPP:a\tVN:1\n"

unfoldable second : List ℕ
unfolding ascii
second = ascii "@SQ\tSN:s3\tLN:7\n@SQ\tSN:s1\tLN:8\n@PG\tID:b\tPP:a\tVN:1\n@PG\tID:a\n"

-- where the PP is among the fields is free
unfoldable together : List ℕ
unfolding ascii
together =
    ascii "@SQ\tSN:s1\tLN:8\n@SQ\tSN:s2\tLN:9\n@SQ\tSN:s3\tLN:7\n@PG\tID:a\tPN:x\n@PG\tID:a.1\n@PG\tID:b.1\tPP:a.1\tVN:1\n@PG\tID:b\tVN:1\tPP:a\n"

example-merged : judging_merge first second together (0 ∷ 3 ∷ []) (2 ∷ 1 ∷ []) ≡ merged
unfolding ascii first second together judging_merge
example-merged = refl

-- the program `b` of B and its image
example-depth : (depth_of (records_of second) 0 ≡ 1) × (depth_of (records_of together) 2 ≡ 1)
unfolding ascii second together depth_of records_of
example-depth = (refl, refl)

-- B's references first
example-30 : judging_merge second first together (2 ∷ 1 ∷ []) (0 ∷ 3 ∷ []) ≡ unmerged 30
unfolding ascii first second together judging_merge
example-30 = refl

-- nobody hits the program 3
example-31 : judging_merge first second together (0 ∷ 2 ∷ []) (2 ∷ 1 ∷ []) ≡ unmerged 31
unfolding ascii first second together judging_merge
example-31 = refl

-- the child of A is taken for that of B
example-32 : judging_merge first second together (0 ∷ 2 ∷ []) (3 ∷ 1 ∷ []) ≡ unmerged 32
unfolding ascii first second together judging_merge
example-32 = refl

-- ---- a program added to A

unfoldable added : List ℕ
unfolding ascii
added = ascii "@SQ\tSN:s1\tLN:8\n@SQ\tSN:s2\tLN:9\n@PG\tID:a\tPN:x\n@PG\tID:b\tPP:a\tVN:1\n@PG\tID:c\tPP:b\n"

example-fit : Fit first
unfolding ascii first records records_of parent_links any is_dangling loops_from
example-fit = record { accepted = refl; linked = refl; acyclic = refl }

example-longer : Longer first added
unfolding ascii first added records records_of parent_links SameSq bares Each FollowsOld
example-longer =
    record {
      accepted = refl;
      references = refl;
      more = drop 2 (bares 4 (records_of added));
      more_links = child 1 ∷ [];
      behind = refl;
      behind_links = refl;
      follows = (omega arith, tt);
    }

-- ---- a program dropped

unfoldable four : List ℕ
unfolding ascii
four = ascii "@PG\tID:a\n@PG\tID:d\n@PG\tID:c\tPP:b\n@PG\tID:b\tPP:a\n"

unfoldable three : List ℕ
unfolding ascii
three = ascii "@PG\tID:a\n@PG\tID:c\tPP:b\n@PG\tID:b\tPP:a\n"

-- all but the program 1
stays : ℕ → Bool
stays k = not (eqb k 1)

example-shorter : Shorter four three stays
unfolding ascii four three records_of parent_links SameSq bares chosen stayed image_link stays
example-shorter = record { references = refl; fewer = refl; fewer_links = refl }

example-stayed : stayed four stays ≡ 0 ∷ 2 ∷ 3 ∷ []
unfolding ascii four stayed stays
example-stayed = refl
