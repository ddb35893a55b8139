-- The links of the programs that are needed are the old ones counted anew. Assumes nothing.
use Prim.Native.Nat.{ℕ, zero, suc, ◌+◌, ◌<◌}
use mathlib.Core.Path.{◌≡◌, refl, sym, ap, ap₂, ◌∙◌}
use mathlib.Core.Bool.{Bool, true, false, cond, false≢true}
use mathlib.Core.List.{List, [], ◌∷◌, map}
use mathlib.Core.Option.{Option, none, some}
use native.Mathlib.Omega.{arith}
use native.Mathlib.Nat.{zero-add}
use lib.ListN.{length, get_or}
use Rattle.format.specs.Bytes.{any, same}
use Rattle.format.specs.Lines.{Piece}
use Rattle.format.specs.Programs.{Program, Link, root, child, ordinal_from, found, link, links, is_dangling}
use Rattle.format.specs.Adding.{no_program}
use Rattle.lists.proofs.Bools.{never, or_left, or_right}
use Rattle.program_chains.proofs.Walks.{map_at}
use Rattle.format.specs.Prune.{chosen}
use Rattle.prune_laws.proofs.Ranks.{rank}
use Rattle.prune_laws.proofs.Graph.{renumber, prune_links}

-- ---- the first program with an ID

-- it is at the place `d`, and at none before
record First (id : List ℕ) (ps : List Program) (d : ℕ) : Type 0 where
  inside : d < length ps
  here : same id (get_or ps d no_program).id ≡ true
  before : (e : ℕ) → e < d → same id (get_or ps e no_program).id ≡ false

first_of : (b j : ℕ) (id : List ℕ) (ps : List Program) → ordinal_from b id ps ≡ some j → (d : ℕ) × (j ≡ b + d) × First id ps d
unfolding ordinal_from
first_of b j id [] e = absurd (never (cc))
first_of b j id (x ∷ ps) e = go (same id x.id) refl e (first_of (b + 1) j id ps)
  where
    go : (t : Bool) → same id x.id ≡ t → cond t (some b) (ordinal_from (b + 1) id ps) ≡ some j → (ordinal_from (b + 1) id ps ≡ some j → (d : ℕ) × (j ≡ b + 1 + d) × First id ps d) → (d : ℕ) × (j ≡ b + d) × First id (x ∷ ps) d
    go true q e ih = let z : b ≡ j = cc in (0, omega arith, record { inside = omega arith; here = q; before = λ e h. absurd (omega arith) })
    go false q e ih = let r = ih e in (suc r.0, omega (arith, r.1), record { inside = omega (arith, r.2.inside); here = r.2.here; before = passed r.0 r.2 })
      where
        passed : (d : ℕ) → First id ps d → (e : ℕ) → e < suc d → same id (get_or (x ∷ ps) e no_program).id ≡ false
        passed d f zero h = q
        passed d f (suc e) h = f.before e (omega arith)

-- where it stays, it is the first still
chosen-first : (p : ℕ → Bool) (c b : ℕ) (id : List ℕ) (ps : List Program) (d : ℕ) → First id ps d → p (b + d) ≡ true → ordinal_from c id (chosen p b ps) ≡ some (c + rank p b d)
unfolding ordinal_from chosen rank
chosen-first p c b id [] d f e = absurd (omega (arith, f.inside))
chosen-first p c b id (x ∷ ps) zero f e =
    let q : p b ≡ true = ap p (omega arith) ∙ e in
    let z : c ≡ c + 0 = omega arith in
    rw (q, f.here) (ap some z)
chosen-first p c b id (x ∷ ps) (suc d) f e =
    let rest : First id ps d = record { inside = omega (arith, f.inside); here = f.here; before = λ e h. f.before (suc e) (omega arith) } in
    let up : p (b + 1 + d) ≡ true = ap p (omega arith) ∙ e in
    go (p b) (f.before 0 (omega arith)) (chosen-first p (c + 1) (b + 1) id ps d rest up) (chosen-first p c (b + 1) id ps d rest up)
  where
    go : (t : Bool) → same id x.id ≡ false → ordinal_from (c + 1) id (chosen p (b + 1) ps) ≡ some (c + 1 + rank p (b + 1) d) → ordinal_from c id (chosen p (b + 1) ps) ≡ some (c + rank p (b + 1) d)
        → ordinal_from c id (cond t (x ∷ chosen p (b + 1) ps) (chosen p (b + 1) ps)) ≡ some (c + cond t (suc (rank p (b + 1) d)) (rank p (b + 1) d))
    go true n g h = let z : c + 1 + rank p (b + 1) d ≡ c + suc (rank p (b + 1) d) = omega arith in rw n (g ∙ ap some z)
    go false n g h = h

-- ---- the links

dangling-at : (ls : List Link) (k : ℕ) → any is_dangling ls ≡ false → is_dangling (get_or ls k root) ≡ false
unfolding any is_dangling
dangling-at [] k e = refl
dangling-at (l ∷ ls) zero e = or_left (is_dangling l) (any is_dangling ls) e
dangling-at (l ∷ ls) (suc k) e = dangling-at ls k (or_right (is_dangling l) (any is_dangling ls) e)

none_found : is_dangling (found none) ≡ true
unfolding is_dangling found
none_found = refl

link-is : (ps : List Program) (pc : Piece) → link ps (some pc) ≡ found (ordinal_from 0 pc.bytes ps)
unfolding link
link-is ps pc = refl

found-is : (j : ℕ) → found (some j) ≡ child j
unfolding found
found-is j = refl

child-is : (p : ℕ → Bool) (j : ℕ) → renumber p (child j) ≡ child (rank p 0 j)
unfolding renumber
child-is p j = refl

each_chosen : (p : ℕ → Bool) (f g : Program → Link) (h : Link → Link) (b : ℕ) (xs : List Program) → ((d : ℕ) → d < length xs → p (b + d) ≡ true → f (get_or xs d no_program) ≡ h (g (get_or xs d no_program)))
    → map f (chosen p b xs) ≡ map h (chosen p b (map g xs))
unfolding chosen
each_chosen p f g h b [] e = refl
each_chosen p f g h b (x ∷ xs) e = go (p b) refl (each_chosen p f g h (b + 1) xs (λ d l q. e (suc d) (omega arith) (ap p (omega arith) ∙ q)))
  where
    go : (t : Bool) → p b ≡ t → map f (chosen p (b + 1) xs) ≡ map h (chosen p (b + 1) (map g xs))
        → map f (cond t (x ∷ chosen p (b + 1) xs) (chosen p (b + 1) xs)) ≡ map h (cond t (g x ∷ chosen p (b + 1) (map g xs)) (chosen p (b + 1) (map g xs)))
    go true q ih = ap₂ (λ a zs. a ∷ zs) (e 0 (omega arith) (ap p (omega arith) ∙ q)) ih
    go false q ih = ih

module _ (ps : List Program) (linked : any is_dangling (links ps) ≡ false) (p : ℕ → Bool) (up : (k j : ℕ) → p k ≡ true → get_or (links ps) k root ≡ child j → p j ≡ true) where
  abbrev qs : List Program
  qs = chosen p 0 ps

  at : (k : ℕ) → k < length ps → get_or (links ps) k root ≡ link ps (get_or ps k no_program).previous
  unfolding links
  at k h = map_at (λ q. link ps q.previous) ps k no_program root h

  kept-link : (k : ℕ) → k < length ps → p k ≡ true → link qs (get_or ps k no_program).previous ≡ renumber p (link ps (get_or ps k no_program).previous)
  kept-link k h e = go (get_or ps k no_program).previous (at k h)
    where
      deep : (pc : Piece) (o : Option ℕ) → ordinal_from 0 pc.bytes ps ≡ o → get_or (links ps) k root ≡ found o → found (ordinal_from 0 pc.bytes qs) ≡ renumber p (found o)
      deep pc none q s = absurd (false≢true (sym (dangling-at (links ps) k linked) ∙ ap is_dangling s ∙ none_found))
      deep pc (some j) q s =
          let r = first_of 0 j pc.bytes ps q in
          let same_place : 0 + r.0 ≡ j = sym r.1 in
          let z : r.0 ≡ j = omega arith in
          let pj : p (0 + r.0) ≡ true = ap p same_place ∙ up k j e (s ∙ found-is j) in
          let y : 0 + rank p 0 r.0 ≡ rank p 0 j = zero-add (rank p 0 r.0) ∙ ap (rank p 0) z in
          ap found (chosen-first p 0 0 pc.bytes ps r.0 r.2 pj) ∙ found-is (0 + rank p 0 r.0) ∙ ap child y ∙ sym (child-is p j) ∙ ap (renumber p) (sym (found-is j))

      go : (o : Option Piece) → get_or (links ps) k root ≡ link ps o → link qs o ≡ renumber p (link ps o)
      go none s = unfold link renumber in refl
      go (some pc) s = link-is qs pc ∙ deep pc (ordinal_from 0 pc.bytes ps) refl (s ∙ link-is ps pc) ∙ ap (renumber p) (sym (link-is ps pc))

  pub links-pruned : links qs ≡ prune_links p (links ps)
  unfolding links prune_links
  links-pruned = each_chosen p (λ q. link qs q.previous) (λ q. link ps q.previous) (renumber p) 0 ps (λ d h e. kept-link d h (ap p (sym (zero-add d)) ∙ e))
