-- The links of programs: where none dangles, each names a program.
use Prim.Native.Nat.{ℕ, zero, suc, ◌+◌, ◌<◌}
use mathlib.Core.Path.{◌≡◌, refl}
use mathlib.Core.Logic.{◌↔◌}
use mathlib.Core.Bool.{Bool, true, false, cond}
use mathlib.Core.List.{List, [], ◌∷◌, map}
use mathlib.Core.Option.{Option, none, some}
use native.Mathlib.Omega.{arith}
use lib.ListN.{length, get_or, length-map}
use Rattle.format.specs.Bytes.{any, same}
use Rattle.format.specs.Lines.{Piece}
use Rattle.format.specs.Programs.{Program, Link, root, dangling, child, ordinal_from, found, link, links, is_dangling, loops_from, tangled}
use Rattle.lists.proofs.Bools.{never, or_left, or_right}
use Rattle.program_chains.specs.Listed.{named}
use Rattle.program_chains.proofs.Paths.{Below}
use Rattle.program_chains.proofs.Some.{named-at}

pub links-length : (ps : List Program) → length (links ps) ≡ length ps
unfolding links
links-length ps = length-map ps (λ p. link ps p.previous)

ordinal-below : (b : ℕ) (id : List ℕ) (ps : List Program) (j : ℕ) → ordinal_from b id ps ≡ some j → j < b + length ps
unfolding ordinal_from
ordinal-below b id [] j e = absurd (never (cc))
ordinal-below b id (p ∷ ps) j e = go (same id p.id) e (ordinal-below (b + 1) id ps j)
  where
    go : (t : Bool) → cond t (some b) (ordinal_from (b + 1) id ps) ≡ some j → (ordinal_from (b + 1) id ps ≡ some j → j < b + 1 + length ps) → j < b + suc (length ps)
    go true e ih = let q : b ≡ j = cc in omega arith
    go false e ih = omega (arith, ih e)

link-below : (ps : List Program) (o : Option Piece) → Below (length ps) (link ps o)
unfolding link
link-below ps none = tt
link-below ps (some p) = go (ordinal_from 0 p.bytes ps) refl
  where
    go : (o : Option ℕ) → ordinal_from 0 p.bytes ps ≡ o → Below (length ps) (found o)
    go none e = unfold found in tt
    go (some j) e = unfold found in omega (arith, ordinal-below 0 p.bytes ps j e)

links-below : (ps qs : List Program) (k : ℕ) → Below (length ps) (get_or (map (λ p. link ps p.previous) qs) k root)
links-below ps [] k = tt
links-below ps (q ∷ qs) zero = link-below ps q.previous
links-below ps (q ∷ qs) (suc k) = links-below ps qs k

pub below : (ps : List Program) (k : ℕ) → Below (length (links ps)) (get_or (links ps) k root)
unfolding links
below ps k = rw (links-length ps) (links-below ps ps k)

pub named-below : (ps : List Program) (k : ℕ) → named k (links ps) ≡ true → k < length (links ps)
named-below ps k e = let r = named-at k (links ps) e in go (get_or (links ps) r.0 root) r.2 (below ps r.0)
  where
    go : (l : Link) → l ≡ child k → Below (length (links ps)) l → k < length (links ps)
    go root e b = absurd (never (cc))
    go dangling e b = absurd (never (cc))
    go (child j) e b = let q : j ≡ k = cc in omega arith

pub linked-at : (ls : List Link) (k : ℕ) → any is_dangling ls ≡ false → is_dangling (get_or ls k root) ≡ false
unfolding any is_dangling
linked-at [] k e = refl
linked-at (l ∷ ls) zero e = or_left (is_dangling l) (any is_dangling ls) e
linked-at (l ∷ ls) (suc k) e = linked-at ls k (or_right (is_dangling l) (any is_dangling ls) e)

-- 0 exactly if none dangles and none comes back to itself
pub untangled-is : (ls : List Link) → (tangled ls ≡ 0) ↔ ((any is_dangling ls ≡ false) × (loops_from ls 0 ls ≡ false))
unfolding tangled
untangled-is ls = (λ e. to (any is_dangling ls) (loops_from ls 0 ls) e, λ h. rw (h.0, h.1) refl)
  where
    to : (s t : Bool) → cond {A = ℕ} s 22 (cond t 23 0) ≡ 0 → (s ≡ false) × (t ≡ false)
    to true t e = absurd (omega arith)
    to false true e = absurd (omega arith)
    to false false e = (refl, refl)
