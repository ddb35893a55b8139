-- The links of at most 1,024 programs as numbers: a parent is one of the programs, and the numbers say the same links, roots and dangling PP.
use Prim.Native.Nat.{ℕ, ◌+◌, ◌≤◌, ◌<◌}
use mathlib.Core.Path.{◌≡◌, refl, sym, ap, ap₂, ◌∙◌}
use mathlib.Core.Bool.{Bool, true, false, ◌||◌, cond}
use mathlib.Core.List.{List, [], ◌∷◌, ◌++◌, map}
use mathlib.Core.Option.{Option, none, some}
use native.Mathlib.Omega.{arith}
use native.Mathlib.Numerals.{add-one}
use lib.ListN.{length, take, get_or, set, replicate, length-map}
use lib.Seq.{take_all, take-suc, length-take-le}
use lib.Dec.{eqb}
use borrow.Author.Tests.{eq-eqb, ne_eqb, lt-ltb}
use Rattle.format.specs.Bytes.{same, any, all}
use Rattle.format.specs.Lines.{Piece}
use Rattle.format.specs.Programs.{Program, Link, root, dangling, child, ordinal_from, found, link, links, is_dangling, roots, roots_from}
use Rattle.byte_slices.specs.Stands.{Each}
use Rattle.lists.proofs.Bools.{never, or-true, or-false, any_snoc}
use Rattle.lists.proofs.Pairs.{each_at}
use Rattle.program_chains.specs.Parents.{nobody, links_of, are_parents, in_array}
use Rattle.program_chains.specs.Listed.{named}
use Rattle.program_chains.proofs.Arrays.{array-push}
use Rattle.program_chains.proofs.Paths.{Below}
use Rattle.program_chains.proofs.Bound.{within-below}
use Rattle.program_chains.proofs.Walks.{map_at, link-none, link-some}
use Rattle.program_parents.specs.declared.Parents.{Parents}
use Rattle.program_parents.specs.Parents.{stranger, link_number, parents_of}

-- ---- a child's parent is one of the programs

found_below : (n k : ℕ) (id : List ℕ) (ps : List Program) → k + length ps ≤ n → Below n (found (ordinal_from k id ps))
unfolding found ordinal_from
found_below n k id [] h = tt
found_below n k id (p ∷ ps) h = go (same id p.id) (found_below n (k + 1) id ps (omega arith))
  where
    go : (t : Bool) → Below n (found (ordinal_from (k + 1) id ps)) → Below n (found (cond t (some k) (ordinal_from (k + 1) id ps)))
    go true ih = omega arith
    go false ih = ih

pub link-below : (ps : List Program) (o : Option Piece) → Below (length ps) (link ps o)
unfolding link
link-below ps none = tt
link-below ps (some p) = found_below (length ps) 0 p.bytes ps (omega arith)

each_below : (ps qs : List Program) → Each (Below (length ps)) (map (λ p. link ps p.previous) qs)
unfolding Each
each_below ps [] = tt
each_below ps (q ∷ qs) = (link-below ps q.previous, each_below ps qs)

links-below : (ps : List Program) → Each (Below (length ps)) (links ps)
unfolding links
links-below ps = each_below ps ps

-- ---- what numbers say of links

module _ (n : ℕ) (small : n ≤ 1024) where
  -- a link is a stranger's exactly if it dangles
  number-stray : (l : Link) → Below n l → eqb 4294967294 (link_number l) ≡ is_dangling l
  unfolding is_dangling stranger link_number nobody
  number-stray root h = refl
  number-stray dangling h = refl
  number-stray (child k) h = ne_eqb 4294967294 k (λ e. omega arith)

  same-links : (ls : List Link) → Each (Below n) ls → any is_dangling ls ≡ false → links_of (map link_number ls) ≡ ls
  unfolding Each any is_dangling links_of link_number nobody
  same-links [] h d = refl
  same-links (root ∷ ls) h d = ap₂ (λ x xs. x ∷ xs) (link-none 4294967295 refl) (same-links ls h.1 d)
  same-links (dangling ∷ ls) h d = absurd (never (cc))
  same-links (child k ∷ ls) h d = ap₂ (λ x xs. x ∷ xs) (link-some k (λ e. omega (arith, h.0))) (same-links ls h.1 d)

  all-within : (ls : List Link) → Each (Below n) ls → any is_dangling ls ≡ false → are_parents n (map link_number ls) ≡ true
  unfolding Each any all is_dangling are_parents link_number nobody
  all-within [] h d = refl
  all-within (root ∷ ls) h d = all-within ls h.1 d
  all-within (dangling ∷ ls) h d = absurd (never (cc))
  all-within (child k ∷ ls) h d = rw (lt-ltb k n h.0, or-true (eqb k 4294967295)) (all-within ls h.1 d)

  same-roots : (i : ℕ) (ls : List Link) → Each (Below n) ls → roots_from i (links_of (map link_number ls)) ≡ roots_from i ls
  unfolding Each roots_from links_of link_number nobody stranger
  same-roots i [] h = refl
  same-roots i (root ∷ ls) h = ap (λ xs. i ∷ xs) (same-roots (i + 1) ls h.1)
  same-roots i (dangling ∷ ls) h = same-roots (i + 1) ls h.1
  same-roots i (child k ∷ ls) h = rw (link-some k (λ e. omega (arith, h.0))) (same-roots (i + 1) ls h.1)

-- ---- the links of some programs

abbrev pub numbers : List Program → List ℕ
numbers ps = map link_number (links ps)

pub links-count : (ps : List Program) → length (links ps) ≡ length ps
unfolding links
links-count ps = length-map ps (λ p. link ps p.previous)

pub numbers-count : (ps : List Program) → length (numbers ps) ≡ length ps
numbers-count ps = length-map (links ps) link_number ∙ links-count ps

module _ (ps : List Program) (few : length ps ≤ 1024) where
  pub numbers-stray : (i : ℕ) → i < length ps → eqb 4294967294 (link_number (get_or (links ps) i root)) ≡ is_dangling (get_or (links ps) i root)
  numbers-stray i h =
      let l : i < length (links ps) = omega (arith, links-count ps) in
      number-stray (length ps) few (get_or (links ps) i root) (each_at (Below (length ps)) (links ps) i root (links-below ps) l)

  pub numbers-roots : roots (links_of (numbers ps)) ≡ roots (links ps)
  unfolding roots
  numbers-roots = same-roots (length ps) few 0 (links ps) (links-below ps)

  -- where nothing dangles
  module _ (d : any is_dangling (links ps) ≡ false) where
    pub numbers-links : links_of (numbers ps) ≡ links ps
    numbers-links = same-links (length ps) few (links ps) (links-below ps) d

    pub numbers-within : are_parents (length (numbers ps)) (numbers ps) ≡ true
    numbers-within = ap (λ n. are_parents n (numbers ps)) (numbers-count ps) ∙ all-within (length ps) few (links ps) (links-below ps) d

    -- each parent is one of the programs
    pub links-named : (k : ℕ) → named k (links ps) ≡ true → k < length ps
    links-named k m = omega (arith, numbers-count ps, within-below (length (numbers ps)) (numbers ps) numbers-within k (ap (named k) numbers-links ∙ m))

-- ---- one after another

-- the parents of the first `i` programs are in their array
abbrev pub Found : List Program → List ℕ → Bool → ℕ → Type 0
Found ps list stray i = (list ≡ in_array (take i (numbers ps))) × (stray ≡ any is_dangling (take i (links ps)))

pub found_none : (ps : List Program) → Found ps (replicate 1024 0) false 0
unfolding in_array any
found_none ps = (refl, refl)

pub found_all : (ps : List Program) (list : List ℕ) (stray : Bool) (i count : ℕ) → Found ps list stray i → i ≡ length ps → count ≡ length ps
    → ◌≡◌ {A = Parents} (record { list = list; count = count; dangling = stray }) (parents_of (links ps))
unfolding parents_of
found_all ps list stray i count f e m =
    let a : take i (numbers ps) ≡ numbers ps = take_all i (numbers ps) (omega (arith, numbers-count ps)) in
    let b : take i (links ps) ≡ links ps = take_all i (links ps) (omega (arith, links-count ps)) in
    rw (f.0, f.1, a, b, m, ← links-count ps) refl

module _ (ps : List Program) (few : length ps ≤ 1024) (list : List ℕ) (stray : Bool) (i : ℕ) (f : Found ps list stray i) (h : i < length ps) (parent : ℕ) (is : parent ≡ link_number (get_or (links ps) i root)) where
  one_more : set list i parent ≡ in_array (take (i + 1) (numbers ps))
  one_more =
      let l : i < length (numbers ps) = omega (arith, numbers-count ps) in
      let m : length (take i (numbers ps)) ≡ i = length-take-le i (numbers ps) (omega arith) in
      let k : i < length (links ps) = omega (arith, links-count ps) in
      ap₂ (λ xs n. set xs n parent) f.0 (sym m)
      ∙ array-push (take i (numbers ps)) parent (omega arith)
      ∙ ap (λ v. in_array (take i (numbers ps) ++ (v ∷ []))) (is ∙ sym (map_at link_number (links ps) i root 0 k))
      ∙ ap in_array (sym (take-suc (numbers ps) i 0 l) ∙ ap (λ n. take n (numbers ps)) (sym (add-one i)))

  -- does the PP of this one dangle?
  dangles : any is_dangling (take (i + 1) (links ps)) ≡ stray || eqb 4294967294 parent
  dangles =
      let l : i < length (links ps) = omega (arith, links-count ps) in
      ap (any is_dangling) (ap (λ n. take n (links ps)) (add-one i) ∙ take-suc (links ps) i root l)
      ∙ any_snoc is_dangling (take i (links ps)) (get_or (links ps) i root)
      ∙ ap₂ ◌||◌ (sym f.1) (sym (ap (eqb 4294967294) is ∙ numbers-stray ps few i h))

  pub found-stray : parent ≡ 4294967294 → Found ps (set list i parent) true (i + 1)
  found-stray e = (one_more, sym (dangles ∙ ap (λ b. stray || b) (eq-eqb 4294967294 parent (sym e)) ∙ or-true stray))

  pub found-known : (parent ≡ 4294967294 → ⊥) → Found ps (set list i parent) stray (i + 1)
  found-known n = (one_more, sym (dangles ∙ ap (λ b. stray || b) (ne_eqb 4294967294 parent (λ e. n (sym e))) ∙ or-false stray))
