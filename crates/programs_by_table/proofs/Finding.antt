-- What is found along the parents is what the links of the programs say.
use Prim.Native.Nat.{ℕ, ◌≤◌, ◌<◌}
use mathlib.Core.Path.{◌≡◌, refl, sym, ap, ap₂, ◌∙◌}
use mathlib.Core.Bool.{Bool, true, false, cond}
use mathlib.Core.List.{List, [], ◌∷◌, map}
use native.Mathlib.Omega.{arith}
use lib.ListN.{length, take, length-map}
use lib.Dec.{eqb}
use borrow.Author.Tests.{eqb-true}
use Rattle.std.specs.Prelude.{Some, None, unwrap_or}
use Rattle.format.specs.Programs.{Program, Link, root, child, links, loops_from, tangled, depth, hops, leaves}
use Rattle.program_chains.specs.declared.Ordinals.{Ordinals}
use Rattle.program_chains.specs.Parents.{nobody, link_of, links_of, in_array}
use Rattle.program_depths.specs.declared.Depths.{Depths}
use Rattle.program_depths.specs.Depths.{depths_of}
use Rattle.program_depths.proofs.Deep.{links-length}
use Rattle.program_depths.proofs.Noting.{cycle-is}
use Rattle.format.specs.declared.Node.{Node}
use Rattle.program_parents.specs.declared.Parents.{Parents}
use Rattle.program_parents.specs.Parents.{parents_of}
use Rattle.program_parents.proofs.Road.{lent-array, lent-count, lent-links, refusal-dangling, refusal-loops}
use Rattle.programs_by_table.specs.declared.DeepGraph.{DeepGraph}
use Rattle.format.specs.Table.{parent_number, nodes}
use Rattle.programs_by_table.specs.Plans.{parents_in, depths_in, no_graph_of, DeepGraphOf}

-- a number is the parent that its link says
same-parent : (p : ℕ) → p ≡ parent_number (link_of p)
unfolding link_of nobody parent_number
same-parent p = go (eqb p 4294967295) refl
  where
    go : (t : Bool) → eqb p 4294967295 ≡ t → p ≡ parent_number (cond t root (child p))
    go true q = eqb-true p 4294967295 q
    go false q = refl

-- so that the numbers are the parents of the records
parents-are : (qs : List ℕ) → qs ≡ map parent_number (links_of qs)
unfolding links_of
parents-are [] = refl
parents-are (p ∷ qs) = ap₂ (λ n l. n ∷ l) (same-parent p) (parents-are qs)

module _ (f : Link → ℕ) where
  abbrev made : List Link → List Node
  made ls = map (λ l. record { parent = parent_number l; depth = f l }) ls

  made-parents : (ls : List Link) → map (λ n. n.parent) (made ls) ≡ map parent_number ls
  made-parents [] = refl
  made-parents (l ∷ ls) = ap (λ r. parent_number l ∷ r) (made-parents ls)

  made-depths : (ls : List Link) → map (λ n. n.depth) (made ls) ≡ map f ls
  made-depths [] = refl
  made-depths (l ∷ ls) = ap (λ r. f l ∷ r) (made-depths ls)

depths-are : (ls : List Link) → map (λ n. n.depth) (nodes ls) ≡ map (depth ls (length ls)) ls
unfolding nodes
depths-are ls = made-depths (depth ls (length ls)) ls

pub nodes-length : (ls : List Link) → length (nodes ls) ≡ length ls
unfolding nodes
nodes-length ls = length-map ls (λ l. record { parent = parent_number l; depth = depth ls (length ls) l })

-- a refusal, and nothing else
pub found_nothing : (ls : List Link) (n : ℕ) → n ≡ tangled ls → 0 < n → (f : DeepGraph) → f ≡ no_graph_of n → DeepGraphOf ls f
unfolding no_graph_of
found_nothing ls n e z f is =
    let r : f.refusal ≡ n = ap (λ x. x.refusal) is in
    let no : f.refusal ≡ 0 → ⊥ = λ q. omega (arith, r, z, q) in
    record {
      refusal = r ∙ e;
      count = λ q. absurd (no q);
      parents = λ q. absurd (no q);
      depths = λ q. absurd (no q);
      hops = λ q. absurd (no q);
      listed = λ q. absurd (no q);
      counted = λ q. absurd (no q);
    }

module _ (ps : List Program) (few : length ps ≤ 1024) (q : Parents) (is : q ≡ parents_of (links ps)) where
  abbrev lent : List ℕ
  lent = take q.count q.list

  pub found-dangling : q.dangling ≡ true → (f : DeepGraph) → f ≡ no_graph_of 22 → DeepGraphOf (links ps) f
  found-dangling d = found_nothing (links ps) 22 (refusal-dangling ps few q is d) (omega arith)

  module _ (d : q.dangling ≡ false) where
    pub found-cycle : None ≡ depths_of (links_of lent) → (f : DeepGraph) → f ≡ no_graph_of 23 → DeepGraphOf (links ps) f
    found-cycle none = found_nothing (links ps) 23 (refusal-loops ps few q is d true (sym (cycle-is (links_of lent) None none))) (omega arith)

    -- the depths that are found where there is no cycle
    module _ (k : Depths) (told : Some k ≡ depths_of (links_of lent)) where
      acyclic : loops_from (links_of lent) 0 (links_of lent) ≡ false
      acyclic = sym (cycle-is (links_of lent) (Some k) told)

      abbrev all : List ℕ
      all = map (depth (links_of lent) (length (links_of lent))) (links_of lent)

      deep : k ≡ record { list = in_array all; hops = hops (links_of lent) }
      unfolding depths_of
      deep = ap (λ o. unwrap_or o k) (told ∙ ap (λ t. cond t None (Some (record { list = in_array all; hops = hops (links_of lent) }))) acyclic)

      -- the parents that are lent are those of the records
      numbered : links_of lent ≡ links ps → q.list ≡ in_array (map (λ n. n.parent) (nodes (links ps)))
      unfolding nodes
      numbered same =
          lent-array ps few q is ∙ ap in_array (parents-are lent ∙ ap (map parent_number) same ∙ sym (made-parents (depth (links ps) (length (links ps))) (links ps)))

      module _ (xs : Ordinals) (found : (xs.list ≡ in_array (leaves (links_of lent))) × (xs.count ≡ length (leaves (links_of lent)))) where
        pub found-leaves : DeepGraphOf (links ps) (record { refusal = 0; parents = q.list; depths = k.list; count = q.count; hops = k.hops; leaves = xs })
        unfolding parents_in depths_in
        found-leaves =
            let same : links_of lent ≡ links ps = lent-links ps few q is d in
            record {
              refusal = refusal-loops ps few q is d false acyclic;
              count = λ _. lent-count ps few q is ∙ sym (links-length lent) ∙ ap length same;
              parents = λ _. numbered same;
              depths = λ _. ap (λ x. x.list) deep ∙ ap (λ ls. in_array (map (depth ls (length ls)) ls)) same ∙ ap in_array (sym (depths-are (links ps)));
              hops = λ _. ap (λ x. x.hops) deep ∙ ap hops same;
              listed = λ _. found.0 ∙ ap (λ ls. in_array (leaves ls)) same;
              counted = λ _. found.1 ∙ ap (λ ls. length (leaves ls)) same;
            }
