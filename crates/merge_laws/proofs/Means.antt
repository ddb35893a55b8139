-- What an accepted merge means.
use Prim.Native.Nat.{ℕ}
use mathlib.Core.List.{List}
use Rattle.format.specs.References.{sq_list}
use Rattle.accepted.specs.Read.{records_of}
use Rattle.merge_laws.specs.Fit.{parent_links, Fits}
use Rattle.merge_laws.specs.IsMerge.{IsMerge}
use Rattle.merge_laws.specs.Exactly.{AllExactly}
use Rattle.merge_laws.specs.Means.{Means, AllMeans}
use Rattle.merge_laws.proofs.Joins.{holds-references}
use Rattle.merge_laws.proofs.Chains.{keeps-chains}
use Rattle.merge_laws.proofs.Exactly.{all-exactly}

module _ (a b m list_a list_b : List ℕ) (f : Fits a b m) (i : IsMerge (records_of a) (records_of b) (records_of m) list_a list_b) where
  means : Means a b m list_a list_b
  unfolding parent_links
  means =
      record {
        fit = f;
        references = holds-references (sq_list (records_of a)) (sq_list (records_of b)) (sq_list (records_of m)) i.references;
        lists = i.lists;
        images_a = i.images_a;
        images_b = i.images_b;
        chains_a = keeps-chains (records_of a) (records_of m) list_a f.fit_a.linked i.images_a f.fit_a.acyclic f.fit_merged.acyclic i.lists.of_a.valid;
        chains_b = keeps-chains (records_of b) (records_of m) list_b f.fit_b.linked i.images_b f.fit_b.acyclic f.fit_merged.acyclic i.lists.of_b.valid;
      }

pub all-means : AllMeans
unfolding AllMeans AllExactly
all-means a b m list_a list_b e = let h = (all-exactly a b m list_a list_b).accepted.0 e in means a b m list_a list_b h.0 h.1
