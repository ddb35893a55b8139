-- The links of the programs that are needed, counted anew: the law of pruning, over links. Assumes nothing.
use Prim.Native.Nat.{ℕ, zero, suc, ◌+◌, ◌≤◌, ◌<◌}
use mathlib.Core.Path.{◌≡◌, refl, sym, ap, ◌∙◌}
use mathlib.Core.Logic.{◌⊎◌, inl, inr, ⊎_elim}
use mathlib.Core.Bool.{Bool, true, false, not, ◌&&◌, ◌||◌, cond, false≢true}
use mathlib.Core.List.{List, [], ◌∷◌, map}
use native.Mathlib.Omega.{arith}
use native.Mathlib.Nat.{zero-add}
use lib.ListN.{length, get_or, length-map, get_or-eq_default}
use lib.Dec.{eqb, leb, ltb}
use borrow.Author.Tests.{eq-eqb, eqb-true, ltb-true, ltb-false, leb-false, not-true}
use Rattle.format.specs.Bytes.{any}
use Rattle.format.specs.Programs.{Link, root, dangling, child, is_dangling, reaches, loops_from, tangled, leaves}
use Rattle.lists.proofs.Bools.{never, split, or_split, or-true, or_left, or_right, and_left, and_right}
use Rattle.program_chains.specs.Listed.{named}
use Rattle.program_chains.proofs.Walks.{map_at, reaches-root}
use Rattle.program_chains.proofs.Leaf.{leaves-exactly}
use Rattle.program_chains.proofs.Paths.{reaches-fewer, no_return}
use Rattle.program_chains.proofs.Some.{named-at}
use Rattle.format.specs.Prune.{is_needed, chosen}
use Rattle.prune_marks.proofs.Steps.{reach_step, reaches-dangling}
use Rattle.prune_laws.proofs.Ranks.{rank, chosen_at, chosen-inside, Was, chosen-was, rank-one, chosen-le}

-- ---- lists

-- one of the programs in use that passes
pub record Some (n : ℕ) (f : ℕ → Bool) (us : List ℕ) : Type 0 where
  pub one : ℕ
  pub inside : one < n
  pub passes : f one ≡ true
  pub listed : any (eqb one) us ≡ true

pub some_of : (n : ℕ) (f : ℕ → Bool) (us : List ℕ) → any (leb n) us ≡ false → any f us ≡ true → Some n f us
unfolding any
some_of n f [] l e = absurd (false≢true e)
some_of n f (u ∷ us) l e = or_split (f u) (any f us) e
    (λ q. record { one = u; inside = leb-false n u (or_left (leb n u) (any (leb n) us) l); passes = q; listed = rw (eq-eqb u u refl) refl })
    (λ q. let s = some_of n f us (or_right (leb n u) (any (leb n) us) l) q in record { one = s.one; inside = s.inside; passes = s.passes; listed = rw s.listed (or-true (eqb s.one u)) })

pub any_of : (f : ℕ → Bool) (us : List ℕ) (u : ℕ) → any (eqb u) us ≡ true → f u ≡ true → any f us ≡ true
unfolding any
any_of f [] u l e = absurd (false≢true l)
any_of f (v ∷ us) u l e = or_split (eqb u v) (any (eqb u) us) l (λ q. rw (ap f (sym (eqb-true u v q)) ∙ e) refl) (λ q. rw (any_of f us u q e) (or-true (f v)))

listed-map : (g : ℕ → ℕ) (us : List ℕ) (u : ℕ) → any (eqb u) us ≡ true → any (eqb (g u)) (map g us) ≡ true
unfolding any
listed-map g [] u l = absurd (false≢true l)
listed-map g (v ∷ us) u l = or_split (eqb u v) (any (eqb u) us) l (λ q. rw (eq-eqb (g u) (g v) (ap g (eqb-true u v q))) refl) (λ q. rw (listed-map g us u q) (or-true (eqb (g u) (g v))))

-- a parent is one of the programs
pub inside-at : (ls : List Link) (k j : ℕ) → get_or ls k root ≡ child j → k < length ls
inside-at ls k j e = split (ltb k (length ls)) (λ q. ltb-true k (length ls) q) (λ q. absurd (never (let z : root ≡ child j = sym (get_or-eq_default ls root (ltb-false k (length ls) q)) ∙ e in cc)))

parent-named : (ls : List Link) (k j : ℕ) → get_or ls k root ≡ child j → named j ls ≡ true
unfolding named
parent-named [] k j e = absurd (never (cc))
parent-named (root ∷ ls) zero j e = absurd (never (cc))
parent-named (dangling ∷ ls) zero j e = absurd (never (cc))
parent-named (child i ∷ ls) zero j e = let q : i ≡ j = cc in rw (eq-eqb j i (sym q)) refl
parent-named (root ∷ ls) (suc k) j e = parent-named ls k j e
parent-named (dangling ∷ ls) (suc k) j e = parent-named ls k j e
parent-named (child i ∷ ls) (suc k) j e = rw (parent-named ls k j e) (or-true (eqb j i))

-- ---- cycles

loops-none : (all : List Link) (i : ℕ) (ls : List Link) → ((j : ℕ) → j < length ls → reaches all (i + j) (length all) (get_or ls j root) ≡ false) → loops_from all i ls ≡ false
unfolding loops_from
loops-none all i [] h = refl
loops-none all i (l ∷ ls) h =
    let z : i ≡ i + 0 = omega arith in
    rw (ap (λ n. reaches all n (length all) l) z ∙ h 0 (omega arith))
    (loops-none all (i + 1) ls (λ j m. ap (λ n. reaches all n (length all) (get_or ls j root)) (omega arith) ∙ h (suc j) (omega arith)))

-- ---- walks

-- the last step of a walk from `u` to `j`
last_step : (ls : List Link) (j f u : ℕ) → reaches ls j f (child u) ≡ true → (j ≡ u) ⊎ ((m : ℕ) × (reaches ls m f (child u) ≡ true) × (get_or ls m root ≡ child j))
unfolding reaches
last_step ls j zero u r = absurd (false≢true r)
last_step ls j (suc f) u r = or_split (eqb j u) (reaches ls j f (get_or ls u root)) r (λ e. inl (eqb-true j u e)) (λ e. go (get_or ls u root) refl e (last_step ls j f))
  where
    up : (m v : ℕ) → get_or ls u root ≡ child v → reaches ls m f (child v) ≡ true → eqb m u || reaches ls m f (get_or ls u root) ≡ true
    up m v q e = rw (ap (reaches ls m f) q ∙ e) (or-true (eqb m u))

    go : (l : Link) → get_or ls u root ≡ l → reaches ls j f l ≡ true → ((v : ℕ) → reaches ls j f (child v) ≡ true → (j ≡ v) ⊎ ((m : ℕ) × (reaches ls m f (child v) ≡ true) × (get_or ls m root ≡ child j)))
        → (j ≡ u) ⊎ ((m : ℕ) × (eqb m u || reaches ls m f (get_or ls u root) ≡ true) × (get_or ls m root ≡ child j))
    go root q e ih = absurd (false≢true (sym (reaches-root ls j f) ∙ e))
    go dangling q e ih = absurd (false≢true (sym (reaches-dangling ls j f) ∙ e))
    go (child v) q e ih = ⊎_elim
        (λ s. inr (u, ap (λ t. t || reaches ls u f (get_or ls u root)) (eq-eqb u u refl), q ∙ ap child (sym s)))
        (λ s. inr (s.0, up s.0 v q s.1, s.2))
        (ih v e)

module _ (ls : List Link) (acyclic : loops_from ls 0 ls ≡ false) (below : (k : ℕ) → named k ls ≡ true → k < length ls) where
  abbrev R : ℕ → Link → Bool
  R i l = reaches ls i (length ls) l

  -- as many steps as there are programs are enough
  pub enough : (i f k : ℕ) → k < length ls → reaches ls i f (child k) ≡ true → R i (child k) ≡ true
  unfolding reaches
  enough i zero k h e = absurd (false≢true e)
  enough i (suc f) k h e = or_split (eqb i k) (reaches ls i f (get_or ls k root)) e
      (λ q. reach_step ls acyclic below k h i ∙ ap (λ t. t || R i (get_or ls k root)) q)
      (λ q. go (get_or ls k root) refl q (enough i f))
    where
      go : (l : Link) → get_or ls k root ≡ l → reaches ls i f l ≡ true → ((k : ℕ) → k < length ls → reaches ls i f (child k) ≡ true → R i (child k) ≡ true) → R i (child k) ≡ true
      go root q e ih = absurd (false≢true (sym (reaches-root ls i f) ∙ e))
      go dangling q e ih = absurd (false≢true (sym (reaches-dangling ls i f) ∙ e))
      go (child v) q e ih = reach_step ls acyclic below k h i ∙ ap (λ t. eqb i k || t) (ap (R i) q ∙ ih v (below v (parent-named ls k v q)) e) ∙ or-true (eqb i k)

  -- one step further
  up_from : (k j f u : ℕ) → u < length ls → get_or ls k root ≡ child j → reaches ls k f (child u) ≡ true → R j (child u) ≡ true
  unfolding reaches
  up_from k j zero u h q e = absurd (false≢true e)
  up_from k j (suc f) u h q e = or_split (eqb k u) (reaches ls k f (get_or ls u root)) e
      (λ s. reach_step ls acyclic below u h j ∙ ap (λ t. eqb j u || t) (ap (R j) (ap (λ x. get_or ls x root) (sym (eqb-true k u s)) ∙ q) ∙ here) ∙ or-true (eqb j u))
      (λ s. go (get_or ls u root) refl s (λ v l. up_from k j f v l q))
    where
      here : R j (child j) ≡ true
      here = reach_step ls acyclic below j (below j (parent-named ls k j q)) j ∙ ap (λ t. t || R j (get_or ls j root)) (eq-eqb j j refl)

      go : (l : Link) → get_or ls u root ≡ l → reaches ls k f l ≡ true → ((v : ℕ) → v < length ls → reaches ls k f (child v) ≡ true → R j (child v) ≡ true) → R j (child u) ≡ true
      go root s e ih = absurd (false≢true (sym (reaches-root ls k f) ∙ e))
      go dangling s e ih = absurd (false≢true (sym (reaches-dangling ls k f) ∙ e))
      go (child v) s e ih = reach_step ls acyclic below u h j ∙ ap (λ t. eqb j u || t) (ap (R j) s ∙ ih v (below v (parent-named ls u v s)) e) ∙ or-true (eqb j u)

-- ---- the programs that are needed

-- the links that are left, counted anew
unfoldable pub renumber : (ℕ → Bool) → Link → Link
unfolding rank
renumber p root = root
renumber p dangling = dangling
renumber p (child j) = child (rank p 0 j)

unfoldable pub prune_links : (ℕ → Bool) → List Link → List Link
unfolding renumber chosen
prune_links p ls = map (renumber p) (chosen p 0 ls)

none-dangling : (p : ℕ → Bool) (b : ℕ) (ls : List Link) → any is_dangling ls ≡ false → any is_dangling (map (renumber p) (chosen p b ls)) ≡ false
unfolding any chosen
none-dangling p b [] e = refl
none-dangling p b (l ∷ ls) e = go (p b) (none-dangling p (b + 1) ls (or_right (is_dangling l) (any is_dangling ls) e))
  where
    same : (l : Link) → is_dangling (renumber p l) ≡ is_dangling l
    same root = unfold renumber in refl
    same dangling = unfold renumber in refl
    same (child k) = unfold renumber is_dangling in refl

    go : (t : Bool) → any is_dangling (map (renumber p) (chosen p (b + 1) ls)) ≡ false → any is_dangling (map (renumber p) (cond t (l ∷ chosen p (b + 1) ls) (chosen p (b + 1) ls))) ≡ false
    go true ih = rw (same l ∙ or_left (is_dangling l) (any is_dangling ls) e) ih
    go false ih = ih

module _ (ls : List Link) (acyclic : loops_from ls 0 ls ≡ false) (below : (k : ℕ) → named k ls ≡ true → k < length ls) (us : List ℕ) (low : any (leb (length ls)) us ≡ false) where
  abbrev p : ℕ → Bool
  p = is_needed ls us

  abbrev new : List Link
  new = prune_links p ls

  -- who needs it
  needs : (k : ℕ) → p k ≡ true → Some (length ls) (λ u. reaches ls k (length ls) (child u)) us
  unfolding is_needed
  needs k e = some_of (length ls) (λ u. reaches ls k (length ls) (child u)) us low e

  needed : (k u : ℕ) → any (eqb u) us ≡ true → reaches ls k (length ls) (child u) ≡ true → p k ≡ true
  unfolding is_needed
  needed k u l e = any_of (λ u. reaches ls k (length ls) (child u)) us u l e

  -- those in use are needed
  pub used-needed : (u : ℕ) → any (eqb u) us ≡ true → u < length ls → p u ≡ true
  used-needed u l h = needed u u l (reach_step ls acyclic below u h u ∙ ap (λ t. t || reaches ls u (length ls) (get_or ls u root)) (eq-eqb u u refl))

  -- and a parent of one that is
  pub needed-up : (k j : ℕ) → p k ≡ true → get_or ls k root ≡ child j → p j ≡ true
  needed-up k j e q = let s = needs k e in needed j s.one s.listed (up_from ls acyclic below k j (length ls) s.one s.inside q s.passes)

  p-at : (k : ℕ) → p k ≡ true → p (0 + k) ≡ true
  p-at k e = ap p (zero-add k) ∙ e

  p-of : (k : ℕ) → p (0 + k) ≡ true → p k ≡ true
  p-of k e = ap p (sym (zero-add k)) ∙ e

  new-length : length new ≡ length (chosen p 0 ls)
  unfolding prune_links
  new-length = length-map (chosen p 0 ls) (renumber p)

  new-at : (k : ℕ) → k < length ls → p k ≡ true → get_or new (rank p 0 k) root ≡ renumber p (get_or ls k root)
  unfolding prune_links
  new-at k h e = map_at (renumber p) (chosen p 0 ls) (rank p 0 k) root root (chosen-inside p 0 ls k h (p-at k e)) ∙ ap (renumber p) (chosen_at p 0 ls k root h (p-at k e))

  was : (i : ℕ) → i < length new → Was p 0 ls i
  was i h = chosen-was p 0 ls i (omega (arith, new-length))

  -- a link to a program that is needed
  abbrev Kept : Link → Type 0
  Kept root = Unit
  Kept dangling = Unit
  Kept (child k) = (k < length ls) × (p k ≡ true)

  kept_at : (k : ℕ) → p k ≡ true → Kept (get_or ls k root)
  kept_at k e = go (get_or ls k root) refl
    where
      go : (l : Link) → get_or ls k root ≡ l → Kept l
      go root q = tt
      go dangling q = tt
      go (child j) q = (below j (parent-named ls k j q), needed-up k j e q)

  -- a walk among the new links was one among the old
  record Walked (i f : ℕ) (l : Link) : Type 0 where
    pub from : ℕ
    pub inside : from < length ls
    pub passes : p from ≡ true
    pub is : rank p 0 from ≡ i
    pub walks : reaches ls from f l ≡ true

  walked : (i f : ℕ) (l : Link) → Kept l → reaches new i f (renumber p l) ≡ true → Walked i f l
  unfolding reaches renumber
  walked i zero l c e = absurd (false≢true e)
  walked i (suc f) root c e = absurd (false≢true e)
  walked i (suc f) dangling c e = absurd (false≢true e)
  walked i (suc f) (child k) c e = or_split (eqb i (rank p 0 k)) (reaches new i f (get_or new (rank p 0 k) root)) e
      (λ q. record { from = k; inside = c.0; passes = c.1; is = sym (eqb-true i (rank p 0 k) q); walks = ap (λ t. t || reaches ls k f (get_or ls k root)) (eq-eqb k k refl) })
      (λ q. let w = walked i f (get_or ls k root) (kept_at k c.1) (ap (reaches new i f) (sym (new-at k c.0 c.1)) ∙ q) in
      record { from = w.from; inside = w.inside; passes = w.passes; is = w.is; walks = ap (λ t. eqb w.from k || t) w.walks ∙ or-true (eqb w.from k) })

  -- and the other way round
  walks-on : (j f : ℕ) (l : Link) → Kept l → reaches ls j f l ≡ true → reaches new (rank p 0 j) f (renumber p l) ≡ true
  unfolding reaches renumber
  walks-on j zero l c e = absurd (false≢true e)
  walks-on j (suc f) root c e = absurd (false≢true e)
  walks-on j (suc f) dangling c e = absurd (false≢true e)
  walks-on j (suc f) (child k) c e = or_split (eqb j k) (reaches ls j f (get_or ls k root)) e
      (λ q. ap (λ t. t || reaches new (rank p 0 j) f (get_or new (rank p 0 k) root)) (eq-eqb (rank p 0 j) (rank p 0 k) (ap (rank p 0) (eqb-true j k q))))
      (λ q. ap (λ t. eqb (rank p 0 j) (rank p 0 k) || t) (ap (reaches new (rank p 0 j) f) (new-at k c.0 c.1) ∙ walks-on j f (get_or ls k root) (kept_at k c.1) q) ∙ or-true (eqb (rank p 0 j) (rank p 0 k)))

  -- ---- whole

  pub new-acyclic : loops_from new 0 new ≡ false
  new-acyclic = loops-none new 0 new (λ i h. go i h (reaches new (0 + i) (length new) (get_or new i root)) refl)
    where
      go : (i : ℕ) → i < length new → (t : Bool) → reaches new (0 + i) (length new) (get_or new i root) ≡ t → t ≡ false
      go i h false e = refl
      go i h true e =
          let w = was i h in
          let k = w.place in
          let pk = p-of k w.passes in
          let x = walked i (length new) (get_or ls k root) (kept_at k pk) (ap (reaches new i (length new)) (sym (new-at k w.inside pk) ∙ ap (λ n. get_or new n root) w.is) ∙ ap (λ n. reaches new n (length new) (get_or new i root)) (sym (zero-add i)) ∙ e) in
          let one : x.from ≡ k = rank-one p 0 x.from k (p-at x.from x.passes) w.passes (x.is ∙ sym w.is) in
          absurd (false≢true (sym (reaches-fewer ls k (length new) (length ls) (get_or ls k root) (omega (arith, new-length, chosen-le p 0 ls)) (no_return ls acyclic below k)) ∙ ap (λ n. reaches ls n (length new) (get_or ls k root)) (sym one) ∙ x.walks))

  pub new-whole : any is_dangling ls ≡ false → tangled new ≡ 0
  unfolding tangled prune_links
  new-whole d = rw (none-dangling p 0 ls d, new-acyclic) refl

  -- ---- leaves

  -- a leaf that is left was in use
  pub leaf-used : (i : ℕ) → any (eqb i) (leaves new) ≡ true → (u : ℕ) × (any (eqb u) us ≡ true) × (u < length ls) × (rank p 0 u ≡ i)
  unfolding renumber
  leaf-used i e =
      let both : ltb i (length new) && not (named i new) ≡ true = sym (leaves-exactly new i) ∙ e in
      let inside : i < length new = ltb-true i (length new) (and_left (ltb i (length new)) (not (named i new)) both) in
      let unnamed : named i new ≡ false = not-true (named i new) (and_right (ltb i (length new)) (not (named i new)) both) in
      let w = was i inside in
      let k = w.place in
      let s = needs k (p-of k w.passes) in
      ⊎_elim
      (λ q. (s.one, s.listed, s.inside, ap (rank p 0) (sym q) ∙ w.is))
      (λ m. absurd (false≢true (sym unnamed ∙ parent-named new (rank p 0 m.0) i
      (new-at m.0 (inside-at ls m.0 k m.2) (needed m.0 s.one s.listed m.1) ∙ ap (renumber p) m.2 ∙ ap child w.is))))
      (last_step ls k (length ls) s.one s.passes)

  -- ---- again

  -- a parent that is left is one of those that are
  pub new-below : (j : ℕ) → named j new ≡ true → j < length new
  new-below j e =
      let m = named-at j new e in
      let w = was m.0 m.1 in
      let k = w.place in
      let pk = p-of k w.passes in
      go (get_or ls k root) (kept_at k pk) (sym (new-at k w.inside pk) ∙ ap (λ n. get_or new n root) w.is ∙ m.2)
    where
      go : (l : Link) → Kept l → renumber p l ≡ child j → j < length new
      go root c q = absurd (never (unfold renumber in cc))
      go dangling c q = absurd (never (unfold renumber in cc))
      go (child v) c q = let z : child (rank p 0 v) ≡ child j = unfold renumber in q in let y : rank p 0 v ≡ j = cc in omega (arith, y, new-length, chosen-inside p 0 ls v c.0 (p-at v c.1))

  -- all that are left are needed by those in use
  pub all-needed : (i : ℕ) → i < length new → is_needed new (map (rank p 0) us) i ≡ true
  unfolding is_needed renumber
  all-needed i h =
      let w = was i h in
      let k = w.place in
      let s = needs k (p-of k w.passes) in
      let u = s.one in
      let pu = used-needed u s.listed s.inside in
      let r = walks-on k (length ls) (child u) (s.inside, pu) s.passes in
      any_of (λ v. reaches new i (length new) (child v)) (map (rank p 0) us) (rank p 0 u) (listed-map (rank p 0) us u s.listed)
      (enough new new-acyclic new-below i (length ls) (rank p 0 u) (omega (arith, new-length, chosen-inside p 0 ls u s.inside (p-at u pu))) (ap (λ n. reaches new n (length ls) (child (rank p 0 u))) (sym w.is) ∙ r))
