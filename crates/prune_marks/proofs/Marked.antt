-- Marking upwards: what is marked, and what the walk will mark yet, is all. Assumes nothing.
use Prim.Native.Nat.{ℕ, zero, suc, ◌+◌, ◌<◌}
use mathlib.Core.Path.{◌≡◌, refl, sym, ap, ap₂, ◌∙◌}
use mathlib.Core.Bool.{Bool, true, false, ◌||◌, false≢true}
use mathlib.Core.Logic.{◌⊎◌, inl, inr, ⊎_elim}
use mathlib.Core.List.{List, [], ◌∷◌}
use native.Mathlib.Omega.{arith}
use lib.ListN.{length, get_or, set, replicate, length-map}
use lib.Seq.{get_or-set_same, get_or-set_other, ext_get_or}
use lib.Dec.{eqb, leb}
use borrow.Author.Tests.{eqb-true, eqb-false, leb-false}
use Rattle.format.specs.Bytes.{any}
use Rattle.format.specs.Programs.{Link, root, dangling, child, reaches, loops_from, numbers_from}
use Rattle.lists.proofs.Bools.{never, split, or_split, or_assoc, or-true, or-false, or_left, or_right}
use Rattle.program_chains.specs.Listed.{named}
use Rattle.program_chains.proofs.Leaf.{counting-length}
use Rattle.program_chains.proofs.Walks.{map_at, reaches-root}
use Rattle.format.specs.Prune.{is_needed}
use Rattle.prune_marks.specs.Marks.{needed_marks, Closed, Up}
use Rattle.prune_marks.proofs.Steps.{reach_step, reaches-dangling}

-- the walk from `u` has come to `l`
pub record Walking (ls : List Link) (u : ℕ) (before now : List Bool) (l : Link) : Type 0 where
  pub pending : (k j : ℕ) → get_or now k false ≡ true → get_or ls k root ≡ child j → (get_or now j false ≡ true) ⊎ (l ≡ child j)
  pub all : (k : ℕ) → get_or now k false || reaches ls k (length ls) l ≡ get_or before k false || reaches ls k (length ls) (child u)

one-child : (i j : ℕ) → child i ≡ child j → i ≡ j
one-child i j e = cc

module _ (ls : List Link) (u : ℕ) (before : List Bool) where
  pub walk_begins : Closed ls before → Walking ls u before before (child u)
  unfolding Closed
  walk_begins c = record { pending = λ k j m e. inl (c k j m e); all = λ k. refl }

  -- at a root
  pub walk_ends : (now : List Bool) → Walking ls u before now root → Up ls u before now
  unfolding Closed
  walk_ends now w = record {
    closed = λ k j m e. ⊎_elim (λ y. y) (λ y. absurd (never (cc))) (w.pending k j m e);
    each = λ k. sym (or-false (get_or now k false)) ∙ ap (λ t. get_or now k false || t) (sym (reaches-root ls k (length ls))) ∙ w.all k;
  }

  -- all that a marked program leads to is marked
  climbs : (now : List Bool) → Closed ls now → (k f at : ℕ) → get_or now at false ≡ true → reaches ls k f (child at) ≡ true → get_or now k false ≡ true
  unfolding Closed reaches
  climbs now c k zero at m r = absurd (false≢true r)
  climbs now c k (suc f) at m r = or_split (eqb k at) (reaches ls k f (get_or ls at root)) r (λ e. ap (λ x. get_or now x false) (eqb-true k at e) ∙ m) (λ e. go (get_or ls at root) refl e (climbs now c k f))
    where
      go : (l : Link) → get_or ls at root ≡ l → reaches ls k f l ≡ true → ((at : ℕ) → get_or now at false ≡ true → reaches ls k f (child at) ≡ true → get_or now k false ≡ true) → get_or now k false ≡ true
      go root q e ih = absurd (false≢true (sym (reaches-root ls k f) ∙ e))
      go dangling q e ih = absurd (false≢true (sym (reaches-dangling ls k f) ∙ e))
      go (child j) q e ih = ih j (c at j m q) e

  -- at a program that is marked
  module _ (now : List Bool) (at : ℕ) (m : get_or now at false ≡ true) (w : Walking ls u before now (child at)) where
    met-closed : Closed ls now
    unfolding Closed
    met-closed k j n e = ⊎_elim (λ y. y) (λ y. ap (λ x. get_or now x false) (sym (one-child at j y)) ∙ m) (w.pending k j n e)

    met_all : (k : ℕ) → get_or now k false ≡ get_or now k false || reaches ls k (length ls) (child at)
    met_all k = split (reaches ls k (length ls) (child at))
        (λ e. climbs now met-closed k (length ls) at m e ∙ sym (or-true (get_or now k false)) ∙ ap (λ t. get_or now k false || t) (sym e))
        (λ e. sym (or-false (get_or now k false)) ∙ ap (λ t. get_or now k false || t) (sym e))

    pub walk_meets : Up ls u before now
    walk_meets = record { closed = met-closed; each = λ k. met_all k ∙ w.all k }

  -- one program is marked
  module _ (acyclic : loops_from ls 0 ls ≡ false) (below : (k : ℕ) → named k ls ≡ true → k < length ls) (now : List Bool) (at : ℕ) (h : at < length ls) (i : at < length now) (w : Walking ls u before now (child at)) where
    here : get_or (set now at true) at false ≡ true
    here = get_or-set_same now at true false i

    keeps : (k : ℕ) → get_or now k false ≡ true → get_or (set now at true) k false ≡ true
    keeps k m = split (eqb k at) (λ e. ap (λ x. get_or (set now at true) x false) (eqb-true k at e) ∙ here) (λ e. get_or-set_other now at k true false (eqb-false k at e) ∙ m)

    goes-pending : (k j : ℕ) → get_or (set now at true) k false ≡ true → get_or ls k root ≡ child j → (get_or (set now at true) j false ≡ true) ⊎ (get_or ls at root ≡ child j)
    goes-pending k j m e = split (eqb k at)
        (λ q. inr (ap (λ x. get_or ls x root) (sym (eqb-true k at q)) ∙ e))
        (λ q. ⊎_elim (λ y. inl (keeps j y)) (λ y. inl (ap (λ x. get_or (set now at true) x false) (sym (one-child at j y)) ∙ here))
        (w.pending k j (sym (get_or-set_other now at k true false (eqb-false k at q)) ∙ m) e))

    goes-all : (k : ℕ) → get_or (set now at true) k false || reaches ls k (length ls) (get_or ls at root) ≡ get_or now k false || reaches ls k (length ls) (child at)
    goes-all k = split (eqb k at)
        (λ q. ap (λ t. t || reaches ls k (length ls) (get_or ls at root)) (ap (λ x. get_or (set now at true) x false) (eqb-true k at q) ∙ here)
        ∙ sym (ap (λ t. get_or now k false || t) (reach_step ls acyclic below at h k ∙ ap (λ t. t || reaches ls k (length ls) (get_or ls at root)) q) ∙ or-true (get_or now k false)))
        (λ q. ap₂ (λ s t. s || t) (get_or-set_other now at k true false (eqb-false k at q)) (sym (reach_step ls acyclic below at h k ∙ ap (λ t. t || reaches ls k (length ls) (get_or ls at root)) q)))

    pub walk-goes : Walking ls u before (set now at true) (get_or ls at root)
    walk-goes = record { pending = goes-pending; all = λ k. goes-all k ∙ w.all k }

-- ---- one after another

-- of the programs in use, those of `left` are still to come
pub record Marking (ls : List Link) (us left : List ℕ) (marks : List Bool) : Type 0 where
  pub closed : Closed ls marks
  pub all : (k : ℕ) → get_or marks k false || is_needed ls left k ≡ is_needed ls us k

none-marked : (n k : ℕ) → get_or (replicate n false) k false ≡ false
none-marked zero k = refl
none-marked (suc n) zero = refl
none-marked (suc n) (suc k) = none-marked n k

pub marking_begins : (ls : List Link) (us : List ℕ) (n : ℕ) → Marking ls us us (replicate n false)
unfolding Closed
marking_begins ls us n = record {
  closed = λ k j m e. absurd (false≢true (sym (none-marked n k) ∙ m));
  all = λ k. ap (λ t. t || is_needed ls us k) (none-marked n k);
}

pub marking-goes : (ls : List Link) (us : List ℕ) (u : ℕ) (left : List ℕ) (marks next : List Bool) → Marking ls us (u ∷ left) marks → Up ls u marks next → Marking ls us left next
unfolding is_needed any
marking-goes ls us u left marks next m w = record {
  closed = w.closed;
  all = λ k. ap (λ t. t || is_needed ls left k) (w.each k) ∙ or_assoc (get_or marks k false) (reaches ls k (length ls) (child u)) (is_needed ls left k) ∙ m.all k;
}

numbers-at : (i n k : ℕ) → k < n → get_or (numbers_from i n) k 0 ≡ i + k
unfolding numbers_from
numbers-at i zero k h = absurd (omega arith)
numbers-at i (suc n) zero h = omega arith
numbers-at i (suc n) (suc k) h = numbers-at (i + 1) n k (omega arith) ∙ omega arith

-- a program's mark says whether it is needed
pub marks-at : (ls : List Link) (us : List ℕ) (k : ℕ) (past : Bool) → k < 1024 → get_or (needed_marks ls us) k past ≡ is_needed ls us k
unfolding needed_marks
marks-at ls us k past h = map_at (is_needed ls us) (numbers_from 0 1024) k 0 past (omega (arith, counting-length 0 1024)) ∙ ap (is_needed ls us) (numbers-at 0 1024 k h ∙ omega arith)

pub marking-ends : (ls : List Link) (us : List ℕ) (marks : List Bool) → Marking ls us [] marks → length marks ≡ 1024 → marks ≡ needed_marks ls us
unfolding is_needed any
marking-ends ls us marks m n =
    let same : length marks ≡ length (needed_marks ls us) = n ∙ sym (unfold needed_marks in length-map (numbers_from 0 1024) (is_needed ls us) ∙ counting-length 0 1024) in
    ext_get_or false marks (needed_marks ls us) same (λ k h. sym (or-false (get_or marks k false)) ∙ m.all k ∙ sym (marks-at ls us k false (omega arith)))

-- each of those in use is one of the programs
pub used-at : (n : ℕ) (us : List ℕ) (i : ℕ) → any (leb n) us ≡ false → i < length us → get_or us i 0 < n
unfolding any
used-at n [] i e h = absurd (omega arith)
used-at n (u ∷ us) zero e h = leb-false n u (or_left (leb n u) (any (leb n) us) e)
used-at n (u ∷ us) (suc i) e h = used-at n us i (or_right (leb n u) (any (leb n) us) e) (omega arith)
