-- The links after adding: the old ones, and after them each leaf's new program, whose parent is the leaf, or the program that a given PP names.
use Prim.Native.Nat.{ℕ, zero, suc, ◌+◌, ◌<◌}
use mathlib.Core.Path.{◌≡◌, refl, sym, ap, ap₂, ◌∙◌}
use mathlib.Core.Bool.{Bool, true, false, not, cond}
use mathlib.Core.List.{List, [], ◌∷◌, ◌++◌, map, map-append}
use mathlib.Core.Option.{Option, none, some}
use native.Mathlib.Omega.{arith}
use lib.ListN.{length, get_or}
use lib.Dec.{ltb}
use borrow.Author.Tests.{ltb-true}
use Rattle.format.specs.Bytes.{any, same}
use Rattle.format.specs.Lines.{Piece}
use Rattle.format.specs.Fields.{Field, tagged, later, last_of}
use Rattle.format.specs.Records.{Record, code, key, others}
use Rattle.format.specs.Reading.{of_kind}
use Rattle.format.specs.Programs.{Program, Link, child, bytes_of, program_of, programs, ordinal_from, found, link, links, is_dangling, leaves}
use Rattle.format.specs.Adding.{no_program, unplaced, or_else, chained, after_leaves}
use Rattle.byte_slices.specs.Stands.{Each}
use Rattle.byte_slices.proofs.Equal.{same_self}
use Rattle.lists.proofs.Bools.{never, or_left, or_right, and_left}
use Rattle.accepted.proofs.OfKind.{of_kind-append}
use Rattle.accepted.proofs.Tags.{last_of_snoc}
use Rattle.program_chains.specs.Listed.{named}
use Rattle.program_chains.proofs.Leaf.{leaves-exactly}
use Rattle.program_parents.proofs.Numbers.{links-count, link-below}
use Rattle.add_ids.proofs.Used.{some-each}

-- ---- programs and more of them

pub programs-append : (rs qs : List Record) → programs (rs ++ qs) ≡ programs rs ++ programs qs
unfolding programs
programs-append rs qs = ap (map program_of) (of_kind-append 4 rs qs) ∙ map-append program_of (of_kind 4 rs) (of_kind 4 qs)

-- ---- ordinals

-- more programs after those that hold the ID
ordinal-left : (k j : ℕ) (id : List ℕ) (ps qs : List Program) → ordinal_from k id ps ≡ some j → ordinal_from k id (ps ++ qs) ≡ some j
unfolding ordinal_from
ordinal-left k j id [] qs h = absurd (never (cc))
ordinal-left k j id (p ∷ ps) qs h = go (same id p.id) h (ordinal-left (k + 1) j id ps qs)
  where
    go : (t : Bool) → cond t (some k) (ordinal_from (k + 1) id ps) ≡ some j → (ordinal_from (k + 1) id ps ≡ some j → ordinal_from (k + 1) id (ps ++ qs) ≡ some j)
        → cond t (some k) (ordinal_from (k + 1) id (ps ++ qs)) ≡ some j
    go true e ih = e
    go false e ih = ih e

-- the first program with the ID
ordinal-at : (b r : ℕ) (id : List ℕ) (ps : List Program) → r < length ps → same id (get_or ps r no_program).id ≡ true
    → ((q : ℕ) → q < r → same id (get_or ps q no_program).id ≡ false) → ordinal_from b id ps ≡ some (b + r)
unfolding ordinal_from
ordinal-at b r id [] l h f = absurd (omega arith)
ordinal-at b zero id (p ∷ ps) l h f = let e : b ≡ b + 0 = omega arith in rw h (ap some e)
ordinal-at b (suc r) id (p ∷ ps) l h f =
    let e : b + 1 + r ≡ b + suc r = omega arith in
    rw (f 0 (omega arith)) (ordinal-at (b + 1) r id ps (omega arith) h (λ q m. f (suc q) (omega arith)) ∙ ap some e)

-- ---- the programs `ps`, and `qs` after them

-- no two have one ID
abbrev pub Apart : List Program → Type 0
Apart ps = (j k : ℕ) → j < length ps → k < length ps → (j ≡ k → ⊥) → same (get_or ps j no_program).id (get_or ps k no_program).id ≡ false

module _ (ps : List Program) (apart : Apart ps) (qs : List Program) where
  -- an old link, where nothing dangles
  old-link : (o : Option Piece) → is_dangling (link ps o) ≡ false → link (ps ++ qs) o ≡ link ps o
  unfolding link found is_dangling
  old-link none h = refl
  old-link (some p) h = go (ordinal_from 0 p.bytes ps) refl h
    where
      go : (o : Option ℕ) → ordinal_from 0 p.bytes ps ≡ o → is_dangling (found o) ≡ false → found (ordinal_from 0 p.bytes (ps ++ qs)) ≡ found o
      go none e n = absurd (never (cc))
      go (some j) e n = ap found (ordinal-left 0 j p.bytes ps qs e)

  old-links : (us : List Program) → any is_dangling (map (λ p. link ps p.previous) us) ≡ false
      → map (λ p. link (ps ++ qs) p.previous) us ≡ map (λ p. link ps p.previous) us
  unfolding any
  old-links [] h = refl
  old-links (u ∷ us) h =
      let t : Bool = is_dangling (link ps u.previous) in
      let rest : Bool = any is_dangling (map (λ p. link ps p.previous) us) in
      ap₂ (λ l r. l ∷ r) (old-link u.previous (or_left t rest h)) (old-links us (or_right t rest h))

  -- the leaf `k` is the parent of its new program
  new-link : (fs : List Field) (k : ℕ) → k < length ps → last_of 80 80 fs ≡ none → link (ps ++ qs) (last_of 80 80 (chained (get_or ps k no_program).id fs)) ≡ child k
  unfolding chained or_else link found unplaced later tagged
  new-link fs k l h =
      let id : List ℕ = (get_or ps k no_program).id in
      let o : ordinal_from 0 id ps ≡ some (0 + k) = ordinal-at 0 k id ps l (same_self id) (λ q m. apart k q l (omega arith) (λ e. omega arith)) in
      let z : 0 + k ≡ k = omega arith in
      rw (h, last_of_snoc 80 80 fs) (ap found (ordinal-left 0 (0 + k) id ps qs o) ∙ ap child z)

  -- the program that a given PP names is
  given-link : (fs : List Field) (p : Piece) (j : ℕ) → last_of 80 80 fs ≡ some p → link ps (some p) ≡ child j → (id : List ℕ) → link (ps ++ qs) (last_of 80 80 (chained id fs)) ≡ child j
  unfolding chained or_else is_dangling
  given-link fs p j h e id = rw (h, h) (old-link (some p) (ap is_dangling e) ∙ e)

  -- whatever program is
  new-links : (to : ℕ → ℕ) (fs : List Field) → ((k : ℕ) → k < length ps → link (ps ++ qs) (last_of 80 80 (chained (get_or ps k no_program).id fs)) ≡ child (to k))
      → (free : Bool) (prefix : List ℕ) (ks : List ℕ) → Each (λ k. k < length ps) ks
      → map (λ p. link (ps ++ qs) p.previous) (programs (after_leaves free prefix fs ps ks)) ≡ map child (map to ks)
  unfolding after_leaves programs of_kind code program_of key bytes_of others unplaced Each
  new-links to fs h free prefix [] b = refl
  new-links to fs h free prefix (k ∷ ks) b = ap₂ (λ l r. l ∷ r) (h k b.0) (new-links to fs h false prefix ks b.1)

-- with the new programs after them
module _ (ps : List Program) (apart : Apart ps) (whole : any is_dangling (links ps) ≡ false) (free : Bool) (prefix : List ℕ) (fs : List Field) (ks : List ℕ) (low : Each (λ k. k < length ps) ks) where
  abbrev qs : List Program
  qs = programs (after_leaves free prefix fs ps ks)

  links-to : (to : ℕ → ℕ) → ((k : ℕ) → k < length ps → link (ps ++ qs) (last_of 80 80 (chained (get_or ps k no_program).id fs)) ≡ child (to k)) → links (ps ++ qs) ≡ links ps ++ map child (map to ks)
  unfolding links
  links-to to h =
      map-append (λ p. link (ps ++ qs) p.previous) ps qs ∙ ap₂ (λ a b. a ++ b) (old-links ps apart qs ps whole) (new-links ps apart qs to fs h free prefix ks low)

  pub links-more : last_of 80 80 fs ≡ none → links (ps ++ qs) ≡ links ps ++ map child ks
  links-more h = links-to (λ k. k) (λ k l. new-link ps apart qs fs k l h) ∙ ap (λ l. links ps ++ map child l) (map_same ks)
    where
      map_same : (xs : List ℕ) → map (λ k. k) xs ≡ xs
      map_same [] = refl
      map_same (x ∷ xs) = ap (λ l. x ∷ l) (map_same xs)

  pub links-under : (p : Piece) (j : ℕ) → last_of 80 80 fs ≡ some p → link ps (some p) ≡ child j → links (ps ++ qs) ≡ links ps ++ map child (map (λ k. j) ks)
  links-under p j h e = links-to (λ k. j) (λ k l. given-link ps apart qs fs p j h e (get_or ps k no_program).id)

-- ---- parents and leaves are among the programs

pub link-low : (ps : List Program) (p : Piece) (j : ℕ) → link ps (some p) ≡ child j → j < length ps
link-low ps p j e = rw e at (link-below ps (some p))

pub leaves-below : (ps : List Program) → Each (λ k. k < length ps) (leaves (links ps))
leaves-below ps =
    let ls : List Link = links ps in
    some-each (λ k. k < length ps) (leaves ls)
    (λ k e. omega (arith, links-count ps, ltb-true k (length ls) (and_left (ltb k (length ls)) (not (named k ls)) (sym (leaves-exactly ls k) ∙ e))))
