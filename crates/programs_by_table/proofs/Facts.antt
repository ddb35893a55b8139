-- What a table says of the programs of a text.
use Prim.Native.Nat.{ℕ, zero, suc, ◌+◌, ◌≤◌, ◌<◌}
use mathlib.Core.Path.{◌≡◌, refl, sym, ap, subst, ◌∙◌}
use mathlib.Core.Bool.{Bool, true, false, cond, false≢true}
use mathlib.Core.List.{List, [], ◌∷◌, map}
use mathlib.Core.Option.{none, some}
use native.Mathlib.Omega.{arith}
use lib.ListN.{length, get_or}
use Rattle.format.specs.Bytes.{same, any}
use Rattle.format.specs.Lines.{Piece}
use Rattle.format.specs.Programs.{Program, Link, root, dangling, child, programs, ordinal_from, found, link, links, is_dangling, depth, depths, hops, loops_from, tangled}
use Rattle.format.specs.Adding.{no_program}
use Rattle.format.specs.Table.{parent_number, nodes}
use Rattle.byte_slices.proofs.Equal.{same-equal}
use Rattle.accepted.specs.Read.{records_of}
use Rattle.program_chains.specs.Listed.{named}
use Rattle.lists.proofs.Bools.{both_false}
use Rattle.program_chains.proofs.Walks.{map_at, depth-root}
use Rattle.program_chains.proofs.Paths.{depth-less}
use Rattle.program_chains.proofs.Bound.{depth-next}
use Rattle.program_parents.proofs.Numbers.{links-count, links-named}
use Rattle.program_parents.proofs.Opened.{opened}
use Rattle.program_parents.proofs.Road.{none-dangles, none-loops}
use Rattle.programs.proofs.Bound.{answered, current}
use Rattle.programs_by_table.specs.Facts.{program_at, node_at, depth_sum, HasParent, TableSays, AllTablesSay}
use Rattle.programs_by_table.proofs.Finding.{nodes-length}
use Rattle.programs_by_table.proofs.Same.{same-as-first}

-- ---- the program that a PP names

not-dangling : (ls : List Link) (i : ℕ) → any is_dangling ls ≡ false → get_or ls i root ≡ dangling → ⊥
unfolding any is_dangling
not-dangling [] i d e = false≢true (ap is_dangling e)
not-dangling (l ∷ ls) zero d e = false≢true (sym (both_false (is_dangling l) (any is_dangling ls) d).0 ∙ ap is_dangling e)
not-dangling (l ∷ ls) (suc i) d e = not-dangling ls i (both_false (is_dangling l) (any is_dangling ls) d).1 e

-- the first program with this ID, counted from `k`
abbrev First : List Program → List ℕ → ℕ → Type 0
First ps id k = (j : ℕ) × (j < length ps) × ((program_at ps j).id ≡ id) × (found (ordinal_from k id ps) ≡ child (k + j))

first : (k : ℕ) (id : List ℕ) (ps : List Program) → (found (ordinal_from k id ps) ≡ dangling → ⊥) → First ps id k
unfolding found ordinal_from program_at no_program
first k id [] e = absurd (e refl)
first k id (p ∷ ps) e = go (same id p.id) refl e (first (k + 1) id ps)
  where
    go : (t : Bool) → same id p.id ≡ t → (found (cond t (some k) (ordinal_from (k + 1) id ps)) ≡ dangling → ⊥)
        → ((found (ordinal_from (k + 1) id ps) ≡ dangling → ⊥) → First ps id (k + 1))
        → (j : ℕ) × (j < suc (length ps)) × ((program_at (p ∷ ps) j).id ≡ id) × (found (cond t (some k) (ordinal_from (k + 1) id ps)) ≡ child (k + j))
    go true q h ih = (0, omega arith, sym (same-equal id p.id q), ap child (omega arith))
    go false q h ih = let r = ih h in (suc r.0, omega (arith, r.1), r.2, r.3 ∙ ap child (omega arith))

-- ---- over links

module _ (ps : List Program) where
  abbrev ls : List Link
  ls = links ps

  link-is : (i : ℕ) → i < length ps → get_or ls i root ≡ link ps (program_at ps i).previous
  unfolding links program_at no_program
  link-is i h = map_at (λ p. link ps p.previous) ps i no_program root h

  node-is : (i : ℕ) → i < length ps → node_at (nodes ls) i ≡ record { parent = parent_number (get_or ls i root); depth = depth ls (length ls) (get_or ls i root) }
  unfolding nodes node_at
  node-is i h =
      map_at (λ l. record { parent = parent_number l; depth = depth ls (length ls) l }) ls i root (record { parent = 4294967295; depth = 0 })
      (omega (arith, links-count ps))

  root-says : (i : ℕ) → i < length ps → (program_at ps i).previous ≡ none → node_at (nodes ls) i ≡ record { parent = 4294967295; depth = 0 }
  unfolding link parent_number
  root-says i h e =
      let is : get_or ls i root ≡ root = link-is i h ∙ ap (link ps) e in
      node-is i h
      ∙ ap (λ l. record { parent = parent_number l; depth = depth ls (length ls) l }) is
      ∙ ap (λ d. record { parent = 4294967295; depth = d }) (depth-root ls (length ls))

  module _ (few : length ps ≤ 1024) (whole : any is_dangling ls ≡ false) (acyclic : loops_from ls 0 ls ≡ false) where
    child-says : (i : ℕ) → i < length ps → (p : Piece) → (program_at ps i).previous ≡ some p → HasParent ps (nodes ls) p (node_at (nodes ls) i)
    unfolding link parent_number
    child-says i h p e =
        let is : get_or ls i root ≡ found (ordinal_from 0 p.bytes ps) = link-is i h ∙ ap (link ps) e in
        let n = first 0 p.bytes ps (λ q. not-dangling ls i whole (is ∙ q)) in
        let k = n.0 in
        let up : get_or ls i root ≡ child k = is ∙ n.3 ∙ ap child (omega arith) in
        let less = depth-less ls acyclic (λ j m. omega (arith, links-count ps, links-named ps few whole j m)) k (omega (arith, links-count ps, n.1)) in
        let here : node_at (nodes ls) i ≡ record { parent = k; depth = suc (depth ls (length ls) (get_or ls k root)) } =
        node-is i h
        ∙ ap (λ l. record { parent = parent_number l; depth = depth ls (length ls) l }) up
        ∙ ap (λ d. record { parent = k; depth = d }) (depth-next ls (length ls) k less) in
        subst (HasParent ps (nodes ls) p) (sym here)
        (record { listed = n.1; named = n.2; deeper = ap suc (sym (ap (λ x. x.depth) (node-is k n.1))) })

sums : (ls ms : List Link) → depth_sum (map (λ l. record { parent = parent_number l; depth = depth ls (length ls) l }) ms) ≡ depths ls ms
unfolding depth_sum depths
sums ls [] = refl
sums ls (m ∷ ms) = ap (λ n. depth ls (length ls) m + n) (sums ls ms)

pub links-say : (ps : List Program) → length ps ≤ 1024 → tangled (links ps) ≡ 0 → TableSays ps (hops (links ps)) (nodes (links ps))
links-say ps few z = record {
  each = nodes-length (links ps) ∙ links-count ps;
  roots = root-says ps;
  children = child-says ps few (none-dangles (links ps) z) (none-loops (links ps) z);
  summed = unfold nodes hops in sym (sums (links ps) (links ps));
}

-- ---- over texts

pub all-tables-say : AllTablesSay
unfolding AllTablesSay
all-tables-say t c room seats xs h ns e =
    let s = (same-as-first t c room seats).answers xs h ns e in
    let own = current t c room (xs, h) s.0 in
    let ps = programs (records_of t) in
    let few = (opened t c own.reads own.own).few in
    subst (TableSays ps h) (sym s.1) (answered t c own (λ a. TableSays ps a.1 (nodes (links ps))) room (xs, h) s.0 (links-say ps few))
