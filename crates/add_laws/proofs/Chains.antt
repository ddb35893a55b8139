-- The law of the chains, over links: programs, and more of them whose parents are old ones.
use Prim.Native.Nat.{ℕ, zero, suc, ◌+◌, ◌≤◌, ◌<◌}
use mathlib.Core.Path.{◌≡◌, refl, sym, ap, ◌∙◌}
use mathlib.Core.Bool.{Bool, true, false, not, ◌&&◌, ◌||◌, cond}
use mathlib.Core.List.{List, [], ◌∷◌, ◌++◌, map}
use native.Mathlib.Omega.{arith}
use lib.ListN.{length, get_or, drop, length-append, length-map, get_or-append}
use lib.Seq.{drop-append_seam}
use lib.Dec.{eqb, leb, ltb}
use borrow.Author.Tests.{eqb-true, eqb-false, ne_eqb, ltb-true, ltb-false, le-leb, lt-leb, lt-ltb, le-ltb}
use Rattle.format.specs.Bytes.{any}
use Rattle.format.specs.Programs.{Link, root, dangling, child, loops_from, depth, leaves, roots, roots_from, swap_remove}
use Rattle.lists.proofs.Bools.{split, or_assoc, or-false}
use Rattle.program_chains.specs.Listed.{named}
use Rattle.program_chains.specs.Parents.{index_in}
use Rattle.program_chains.proofs.Times.{hit, times, Once, hit_same, hit_other, times_none, swap-times}
use Rattle.program_chains.proofs.Swaps.{place-any, swap-shorter}
use Rattle.program_chains.proofs.Leaf.{swap-keeps, leaves-times, leaves-exactly, leaves-distinct}
use Rattle.program_chains.proofs.Paths.{Below, below_at, depth-less}
use Rattle.program_chains.proofs.Some.{leaves-some}
use Rattle.add_laws.specs.Grown.{depth_at, children, OldStay, Grown, GrownUnder}

-- ---- lists

-- the `m` numbers from `i` on, each once, are `m`
range_length : (m i : ℕ) (l : List ℕ) → ((x : ℕ) → i ≤ x → x < i + m → times x l ≡ 1) → ((x : ℕ) → x < i → times x l ≡ 0) → ((x : ℕ) → i + m ≤ x → times x l ≡ 0) → Once l → length l ≡ m
unfolding times
range_length zero i [] inside below above o = refl
range_length zero i (y ∷ l) inside below above o = absurd (split (ltb y i) (λ e. omega (arith, hit_same y, below y (ltb-true y i e))) (λ e. omega (arith, hit_same y, above y (omega (arith, ltb-false y i e)))))
range_length (suc m) i l inside below above o =
    let k : ℕ = i + m in
    let one : times k l ≡ 1 = inside k (omega arith) (omega arith) in
    let here : any (eqb k) l ≡ true = split (any (eqb k) l) (λ e. e) (λ e. absurd (omega (arith, times_none k l e))) in
    let place : index_in k l < length l = ltb-true (index_in k l) (length l) (sym (place-any k l) ∙ here) in
    let left : (x : ℕ) → times x (swap_remove k l) + hit x k ≡ times x l = λ x. swap-times x k l here one in
    let rest : length (swap_remove k l) ≡ m =
    range_length m i (swap_remove k l)
    (λ x a b. omega (arith, left x, hit_other x k (omega arith), inside x a (omega arith)))
    (λ x a. omega (arith, left x, below x a))
    (λ x a. split (eqb x k)
    (λ e. omega (arith, left x, hit_same x, ap (hit x) (eqb-true x k e), inside x (omega arith) (omega (arith, eqb-true x k e))))
    (λ e. omega (arith, left x, above x (omega (arith, eqb-false x k e)))))
    (swap-keeps k l o) in
    omega (arith, rest, place, swap-shorter k l (o k) place)

children-times : (k : ℕ) (xs : List ℕ) → children k (map child xs) ≡ times k xs
unfolding children times hit
children-times k [] = refl
children-times k (x ∷ xs) = ap (λ n. cond (eqb k x) 1 0 + n) (children-times k xs)

named-append : (x : ℕ) (s t : List Link) → named x (s ++ t) ≡ named x s || named x t
unfolding named
named-append x [] t = refl
named-append x (root ∷ s) t = named-append x s t
named-append x (dangling ∷ s) t = named-append x s t
named-append x (child k ∷ s) t = ap (λ b. eqb x k || b) (named-append x s t) ∙ sym (or_assoc (eqb x k) (named x s) (named x t))

named-children : (x : ℕ) (ks : List ℕ) → named x (map child ks) ≡ any (eqb x) ks
unfolding named any
named-children x [] = refl
named-children x (k ∷ ks) = ap (λ b. eqb x k || b) (named-children x ks)

roots-more : (i : ℕ) (s : List Link) (ks : List ℕ) → roots_from i (s ++ map child ks) ≡ roots_from i s
unfolding roots_from
roots-more i [] [] = refl
roots-more i [] (k ∷ ks) = roots-more (i + 1) [] ks
roots-more i (root ∷ s) ks = ap (λ r. i ∷ r) (roots-more (i + 1) s ks)
roots-more i (dangling ∷ s) ks = roots-more (i + 1) s ks
roots-more i (child k ∷ s) ks = roots-more (i + 1) s ks

-- a walk that ends in time is the same with more steps
depth-more : (ls : List Link) (f m : ℕ) (l : Link) → depth ls f l < f → depth ls (f + m) l ≡ depth ls f l
depth-more ls zero m l h = absurd (omega arith)
depth-more ls (suc f) m l h = let e : suc f + m ≡ suc (f + m) = omega arith in rw e (go l h (depth-more ls f m))
  where
    go : (l : Link) → depth ls (suc f) l < suc f → ((l : Link) → depth ls f l < f → depth ls (f + m) l ≡ depth ls f l) → depth ls (suc (f + m)) l ≡ depth ls (suc f) l
    go root h ih = unfold depth in refl
    go dangling h ih = unfold depth in refl
    go (child k) h ih = unfold depth in ap suc (ih (get_or ls k root) (omega (arith, h)))

or_same : (t : Bool) → t || t ≡ t
or_same true = refl
or_same false = refl

-- one number over and over
any-const : (x j : ℕ) (ks : List ℕ) → 0 < length ks → any (eqb x) (map (λ k. j) ks) ≡ eqb x j
any-const x j [] h = absurd (omega arith)
any-const x j (k ∷ ks) h = go ks (any-const x j ks)
  where
    go : (ks : List ℕ) → (0 < length ks → any (eqb x) (map (λ k. j) ks) ≡ eqb x j) → any (eqb x) (map (λ k. j) (k ∷ ks)) ≡ eqb x j
    go [] ih = unfold any in or-false (eqb x j)
    go (i ∷ ks) ih = unfold any in (ap (λ t. eqb x j || t) (unfold any in ih (omega arith)) ∙ or_same (eqb x j))

map-const : (j : ℕ) (ks : List ℕ) → map child (map (λ k. j) ks) ≡ map (λ k. child j) ks
map-const j [] = refl
map-const j (k ∷ ks) = ap (λ l. child j ∷ l) (map-const j ks)

-- ---- new programs with the parents `ks`

module _ (ls : List Link) (acyclic : loops_from ls 0 ls ≡ false) (below : (k : ℕ) → named k ls ≡ true → k < length ls) (ks : List ℕ) where
  abbrev after : List Link
  after = ls ++ map child ks

  after-length : length after ≡ length ls + length ks
  after-length = length-append ls (map child ks) ∙ ap (λ n. length ls + n) (length-map ks child)

  -- a leaf is a program that is the parent of neither an old nor a new one
  after-leaf : (x : ℕ) → any (eqb x) (leaves after) ≡ ltb x (length after) && not (named x ls || any (eqb x) ks)
  after-leaf x = leaves-exactly after x ∙ ap (λ b. ltb x (length after) && not b) (named-append x ls (map child ks) ∙ ap (λ b. named x ls || b) (named-children x ks))

  -- a walk among the old programs is as it was
  after-depth : (f : ℕ) (l : Link) → Below (length ls) l → depth after f l ≡ depth ls f l
  unfolding depth
  after-depth zero l b = refl
  after-depth (suc f) root b = refl
  after-depth (suc f) dangling b = refl
  after-depth (suc f) (child k) b =
      ap (λ l. suc (depth after f l)) (get_or-append ls (map child ks) root k b) ∙ ap suc (after-depth f (get_or ls k root) (below_at (length ls) ls below k))

  depths-same : (k : ℕ) → k < length ls → depth_at after k ≡ depth_at ls k
  unfolding depth_at
  depths-same k h =
      ap (depth after (length after)) (get_or-append ls (map child ks) root k h)
      ∙ after-depth (length after) (get_or ls k root) (below_at (length ls) ls below k)
      ∙ ap (λ n. depth ls n (get_or ls k root)) after-length
      ∙ depth-more ls (length ls) (length ks) (get_or ls k root) (depth-less ls acyclic below k h)

  old-stay : OldStay ls after
  unfolding roots
  old-stay = record { same_roots = roots-more 0 ls ks; same_depths = depths-same }

-- ---- one after every leaf

module _ (ls : List Link) (acyclic : loops_from ls 0 ls ≡ false) (below : (k : ℕ) → named k ls ≡ true → k < length ls) where
  abbrev grown : List Link
  grown = ls ++ map child (leaves ls)

  -- the old programs, and only they, are parents now
  parents-now : (x : ℕ) → named x ls || any (eqb x) (leaves ls) ≡ ltb x (length ls)
  parents-now x = ap (λ b. named x ls || b) (leaves-exactly ls x) ∙ go (named x ls) refl (ltb x (length ls)) refl
    where
      go : (s : Bool) → named x ls ≡ s → (t : Bool) → ltb x (length ls) ≡ t → s || (t && not s) ≡ t
      go true p true q = refl
      go true p false q = absurd (omega (arith, below x p, ltb-false x (length ls) q))
      go false p true q = refl
      go false p false q = refl

  -- the leaves now
  leaf : (x : ℕ) → any (eqb x) (leaves grown) ≡ leb (length ls) x && ltb x (length grown)
  leaf x = after-leaf ls acyclic below (leaves ls) x ∙ ap (λ b. ltb x (length grown) && not b) (parents-now x) ∙ go (ltb x (length grown))
    where
      go : (t : Bool) → t && not (ltb x (length ls)) ≡ leb (length ls) x && t
      go true = split (ltb x (length ls)) (λ e. rw (e, lt-leb (length ls) x (ltb-true x (length ls) e)) refl) (λ e. rw (e, le-leb (length ls) x (ltb-false x (length ls) e)) refl)
      go false = split (leb (length ls) x) (λ e. rw e refl) (λ e. rw e refl)

  leaf-times : (x : ℕ) → times x (leaves grown) ≡ cond (leb (length ls) x && ltb x (length grown)) 1 0
  leaf-times x = leaves-times grown x ∙ ap (λ b. cond b 1 0) (sym (leaves-exactly grown x) ∙ leaf x)

  grown-many : length (leaves grown) ≡ length (leaves ls)
  grown-many = range_length (length (leaves ls)) (length ls) (leaves grown) inside under over once
    where
      long : length grown ≡ length ls + length (leaves ls)
      long = after-length ls acyclic below (leaves ls)

      inside : (x : ℕ) → length ls ≤ x → x < length ls + length (leaves ls) → times x (leaves grown) ≡ 1
      inside x a b = leaf-times x ∙ rw (le-leb (length ls) x a, lt-ltb x (length grown) (omega (arith, long))) refl

      under : (x : ℕ) → x < length ls → times x (leaves grown) ≡ 0
      under x a = leaf-times x ∙ rw (lt-leb (length ls) x a) refl

      over : (x : ℕ) → length ls + length (leaves ls) ≤ x → times x (leaves grown) ≡ 0
      over x a = leaf-times x ∙ rw (le-leb (length ls) x (omega arith), le-ltb x (length grown) (omega (arith, long))) refl

      once : Once (leaves grown)
      once x = rw (leaf-times x) (split {C = cond (leb (length ls) x && ltb x (length grown)) 1 0 ≤ 1} (leb (length ls) x && ltb x (length grown)) (λ e. rw e (omega arith)) (λ e. rw e (omega arith)))

  follows : (k : ℕ) → any (eqb k) (leaves ls) ≡ true → children k (drop (length ls) grown) ≡ 1
  follows k h =
      ap (children k) (drop-append_seam ls (map child (leaves ls))) ∙ children-times k (leaves ls) ∙ leaves-times ls k
      ∙ ap (λ b. cond b 1 0) (sym (leaves-exactly ls k) ∙ h)

  pub links-grow : Grown ls grown
  links-grow =
      record {
        new = leaf;
        once = leaves-distinct grown;
        many = grown-many;
        stay = old-stay ls acyclic below (leaves ls);
        follower = follows;
        follow = drop-append_seam ls (map child (leaves ls));
      }

-- ---- all of them under one program

module _ (ls : List Link) (acyclic : loops_from ls 0 ls ≡ false) (below : (k : ℕ) → named k ls ≡ true → k < length ls) (j : ℕ) (old : j < length ls) where
  abbrev under : List Link
  under = ls ++ map child (map (λ k. j) (leaves ls))

  leaf-under : (x : ℕ) → any (eqb x) (leaves under) ≡ (leb (length ls) x && ltb x (length under)) || (any (eqb x) (leaves ls) && not (eqb x j))
  leaf-under x =
      after-leaf ls acyclic below (map (λ k. j) (leaves ls)) x
      ∙ ap (λ b. ltb x (length under) && not (named x ls || b)) (any-const x j (leaves ls) (leaves-some ls acyclic below (omega (arith, old))))
      ∙ split (ltb x (length ls)) inside outside
      ∙ ap (λ b. (leb (length ls) x && ltb x (length under)) || (b && not (eqb x j))) (sym (leaves-exactly ls x))
    where
      more : length under ≡ length ls + length (map (λ k. j) (leaves ls))
      more = after-length ls acyclic below (map (λ k. j) (leaves ls))

      both : (s t : Bool) → not (s || t) ≡ not s && not t
      both true t = refl
      both false t = refl

      inside : ltb x (length ls) ≡ true → ltb x (length under) && not (named x ls || eqb x j) ≡ (leb (length ls) x && ltb x (length under)) || ((ltb x (length ls) && not (named x ls)) && not (eqb x j))
      inside e =
          let l : x < length ls = ltb-true x (length ls) e in
          rw (e, lt-leb (length ls) x l, lt-ltb x (length under) (omega (arith, more))) (both (named x ls) (eqb x j))

      outside : ltb x (length ls) ≡ false → ltb x (length under) && not (named x ls || eqb x j) ≡ (leb (length ls) x && ltb x (length under)) || ((ltb x (length ls) && not (named x ls)) && not (eqb x j))
      outside e =
          let l : length ls ≤ x = ltb-false x (length ls) e in
          let n : named x ls ≡ false = split (named x ls) (λ q. absurd (omega (arith, below x q))) (λ q. q) in
          rw (e, n, le-leb (length ls) x l, ne_eqb x j (λ q. omega arith)) (go (ltb x (length under)))
        where
          go : (t : Bool) → t && true ≡ t || false
          go true = refl
          go false = refl

  pub links-grow-under : GrownUnder j ls under
  links-grow-under =
      record {
        leaf = leaf-under;
        once = leaves-distinct under;
        stay = old-stay ls acyclic below (map (λ k. j) (leaves ls));
        follow = drop-append_seam ls (map child (map (λ k. j) (leaves ls))) ∙ map-const j (leaves ls);
      }
