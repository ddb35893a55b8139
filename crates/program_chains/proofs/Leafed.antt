-- The leaves satisfy their laws.
use Prim.Native.Nat.{ℕ, ◌+◌}
use mathlib.Core.Path.{◌≡◌, refl, sym, ap, ◌∙◌}
use mathlib.Core.Bool.{Bool, true, false, not, ◌&&◌, ◌||◌, cond, false≢true}
use mathlib.Core.List.{List, [], ◌∷◌, map}
use mathlib.Core.Option.{Option, none, some}
use native.Mathlib.Omega.{arith}
use lib.ListN.{length, length-map}
use lib.Dec.{eqb, ltb}
use borrow.Author.Tests.{ltb-true, ltb-false}
use Rattle.format.specs.Bytes.{same, any, distinct}
use Rattle.format.specs.Lines.{Piece}
use Rattle.format.specs.Records.{Record}
use Rattle.format.specs.Programs.{Program, found, link, links, programs, ordinal_from, is_dangling, loops_from, tangled, leaves, hops}
use Rattle.format.specs.Calls.{Answer, refused, yes, then, fitting, untangled, fresh, leafing}
use Rattle.program_chains.specs.Listed.{named}
use Rattle.program_chains.specs.Leafed.{is_stray, strays, returns, Leaves, Leafed, AllLeafed}
use Rattle.program_chains.proofs.Leaf.{leaves-exactly, leaves-distinct}

-- a search that finds no program dangles
found_none : (k : ℕ) (id : List ℕ) (ps : List Program) → is_dangling (found (ordinal_from k id ps)) ≡ not (any (λ q. same id q.id) ps)
unfolding found ordinal_from is_dangling any
found_none k id [] = refl
found_none k id (p ∷ ps) = go (same id p.id) (found_none (k + 1) id ps)
  where
    go : (t : Bool) → is_dangling (found (ordinal_from (k + 1) id ps)) ≡ not (any (λ q. same id q.id) ps)
        → is_dangling (found (cond t (some k) (ordinal_from (k + 1) id ps))) ≡ not (t || any (λ q. same id q.id) ps)
    go true ih = refl
    go false ih = ih

-- a link dangles exactly if the PP is a stray
link-stray : (ps : List Program) (o : Option Piece) → is_dangling (link ps o) ≡ is_stray ps o
unfolding link is_stray is_dangling
link-stray ps none = refl
link-stray ps (some p) = found_none 0 p.bytes ps

-- and so for the programs `qs` among `ps`
links-stray : (ps qs : List Program) → any is_dangling (map (λ p. link ps p.previous) qs) ≡ any (λ p. is_stray ps p.previous) qs
unfolding any
links-stray ps [] = refl
links-stray ps (q ∷ qs) = rw (link-stray ps q.previous, links-stray ps qs) refl

-- what leaves answers, by the two tests of the graph
ending : List Program → ℕ → Bool → Bool → Answer (List ℕ × ℕ)
ending ps room true r = refused 22 0
ending ps room false true = refused 23 0
ending ps room false false = cond (ltb room (length (leaves (links ps)))) (refused 20 0) (yes (leaves (links ps), hops (links ps)))

module _ (text c : List ℕ) (room : ℕ) (rs : List Record) (e : fresh text c ≡ yes rs) where
  ps : List Program
  ps = programs rs

  ends : leafing text c room ≡ ending ps room (strays ps) (returns ps)
  unfolding ps leafing then untangled tangled fitting strays returns ending
  ends = rw (e, links-stray (programs rs) (programs rs)) (go (any (λ p. is_stray (programs rs) p.previous) (programs rs)) (loops_from (links (programs rs)) 0 (links (programs rs))))
    where
      short : (t : Bool) → then {B = List ℕ × ℕ} (cond t (refused 20 0) (yes (leaves (links ps)))) (λ xs. yes (xs, hops (links ps))) ≡ cond t (refused 20 0) (yes (leaves (links ps), hops (links ps)))
      short true = refl
      short false = refl

      go : (d r : Bool) → then {B = List ℕ × ℕ} (untangled rs (cond d 22 (cond r 23 0))) (λ rs. then (fitting room (leaves (links (programs rs)))) (λ xs. yes (xs, hops (links (programs rs))))) ≡ ending ps room d r
      go true r = refl
      go false true = refl
      go false false = short (ltb room (length (leaves (links ps))))

one-no : (m n : ℕ) → ◌≡◌ {A = Answer (List ℕ × ℕ)} (refused m 0) (refused n 0) → m ≡ n
one-no m n e = cc

no-yes : (n : ℕ) (a : List ℕ × ℕ) → ◌≡◌ {A = Answer (List ℕ × ℕ)} (refused n 0) (yes a) → ⊥
no-yes n a e = false≢true cc

one-yes : (xs ys : List ℕ) (m n : ℕ) → ◌≡◌ {A = Answer (List ℕ × ℕ)} (yes (xs, m)) (yes (ys, n)) → xs ≡ ys
one-yes xs ys m n e = let p : ◌≡◌ {A = List ℕ × ℕ} (xs, m) (ys, n) = cc in ap (λ a. a.0) p

module _ (ps : List Program) (room : ℕ) where
  -- the list itself
  leaves-listed : (xs : List ℕ) → leaves (links ps) ≡ xs → Leaves ps xs
  unfolding links
  leaves-listed xs e = record {
    unnamed = λ x. ap (any (eqb x)) (sym e) ∙ leaves-exactly (links ps) x ∙ ap (λ n. ltb x n && not (named x (links ps))) (length-map ps (λ p. link ps p.previous));
    once = ap distinct (sym e) ∙ leaves-distinct (links ps);
    order = sym e;
  }

  -- a graph in order: the list fits, or it does not
  listed_by : (t : Bool) → ltb room (length (leaves (links ps))) ≡ t → strays ps ≡ false → returns ps ≡ false
      → Leafed ps room (cond t (refused 20 0) (yes (leaves (links ps), hops (links ps))))
  listed_by true q s r = record {
    dangling = (λ e. absurd (omega (arith, one-no 20 22 e)), λ h. absurd (false≢true (sym s ∙ h)));
    cycle = (λ e. absurd (omega (arith, one-no 20 23 e)), λ h. absurd (false≢true (sym r ∙ h.1)));
    short = (λ e. (s, r, ltb-true room (length (leaves (links ps))) q), λ h. refl);
    listed = λ xs n e. absurd (no-yes 20 (xs, n) e);
  }
  listed_by false q s r = record {
    dangling = (λ e. absurd (no-yes 22 (leaves (links ps), hops (links ps)) (sym e)), λ h. absurd (false≢true (sym s ∙ h)));
    cycle = (λ e. absurd (no-yes 23 (leaves (links ps), hops (links ps)) (sym e)), λ h. absurd (false≢true (sym r ∙ h.1)));
    short = (λ e. absurd (no-yes 20 (leaves (links ps), hops (links ps)) (sym e)), λ h. absurd (omega (arith, h.2, ltb-false room (length (leaves (links ps))) q)));
    listed = λ xs n e. leaves-listed xs (one-yes (leaves (links ps)) xs (hops (links ps)) n e);
  }

  leafed-by : (d r : Bool) → strays ps ≡ d → returns ps ≡ r → Leafed ps room (ending ps room d r)
  unfolding ending
  leafed-by true r s q = record {
    dangling = (λ e. s, λ h. refl);
    cycle = (λ e. absurd (omega (arith, one-no 22 23 e)), λ h. absurd (false≢true (sym h.0 ∙ s)));
    short = (λ e. absurd (omega (arith, one-no 22 20 e)), λ h. absurd (false≢true (sym h.0 ∙ s)));
    listed = λ xs n e. absurd (no-yes 22 (xs, n) e);
  }
  leafed-by false true s q = record {
    dangling = (λ e. absurd (omega (arith, one-no 23 22 e)), λ h. absurd (false≢true (sym s ∙ h)));
    cycle = (λ e. (s, q), λ h. refl);
    short = (λ e. absurd (omega (arith, one-no 23 20 e)), λ h. absurd (false≢true (sym h.1 ∙ q)));
    listed = λ xs n e. absurd (no-yes 23 (xs, n) e);
  }
  leafed-by false false s q = listed_by (ltb room (length (leaves (links ps)))) refl s q

pub leafed : AllLeafed
unfolding AllLeafed ps
leafed text c room rs e = rw (ends text c room rs e) (leafed-by (programs rs) room (strays (programs rs)) (returns (programs rs)) refl refl)
