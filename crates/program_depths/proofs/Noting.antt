-- Depths in an array: one more is noted, and those of all are the list of depths. Assumes nothing.
use Prim.Native.Nat.{ℕ, zero, suc, ◌+◌, ◌-◌, ◌≤◌, ◌<◌}
use mathlib.Core.Path.{◌≡◌, refl, sym, ap, ap₂, subst, ◌∙◌}
use mathlib.Core.Bool.{Bool, true, false, cond}
use mathlib.Core.List.{List, ◌++◌, map}
use native.Mathlib.Omega.{arith}
use native.Mathlib.Numerals.{add-one}
use lib.ListN.{length, get_or, set, drop, replicate, get_or-replicate, length-replicate, length-map, drop_of_length-le, get_or-eq_default}
use lib.Seq.{get_or-set_same, get_or-set_other, get_or-append-add, ext_get_or, drop-cons}
use lib.Dec.{eqb, ltb}
use borrow.Author.Tests.{eqb-true, eqb-false, ltb-true, ltb-false}
use Rattle.std.specs.Prelude.{Option, Some, None, is_none}
use Rattle.format.specs.Programs.{Link, root, loops_from, depth, depths, hops}
use Rattle.program_chains.specs.Parents.{link_of, links_of, in_array}
use Rattle.program_chains.proofs.Arrays.{array_at, array-length}
use Rattle.program_chains.proofs.Walks.{map_at, link_at}
use Rattle.program_depths.specs.declared.Depths.{Depths}
use Rattle.program_depths.specs.Depths.{deep, KnownRight, KnownStay, depths_of}
use Rattle.program_depths.proofs.Deep.{links-length}

-- beyond its end an array knows nothing
inside : (ds : List ℕ) (k : ℕ) → get_or ds k 0 ≡ 4294967295 → k < length ds
inside ds k e = go (ltb k (length ds)) refl
  where
    go : (t : Bool) → ltb k (length ds) ≡ t → k < length ds
    go true q = ltb-true k (length ds) q
    go false q = absurd (omega (arith, get_or-eq_default ds 0 (ltb-false k (length ds) q)))

-- at the same place, or at another
module _ (ds : List ℕ) (k v : ℕ) (open-yet : get_or ds k 0 ≡ 4294967295) where
  set_cases : (P : ℕ → ℕ → Type 0) (j : ℕ) → P k v → ((j ≡ k → ⊥) → P j (get_or ds j 0)) → P j (get_or (set ds k v) j 0)
  set_cases P j same other = go (eqb j k) refl
    where
      go : (t : Bool) → eqb j k ≡ t → P j (get_or (set ds k v) j 0)
      go true q = subst (λ i. P i (get_or (set ds k v) i 0)) (sym (eqb-true j k q)) (subst (P k) (sym (get_or-set_same ds k v 0 (inside ds k open-yet))) same)
      go false q = subst (P j) (sym (get_or-set_other ds k j v 0 (eqb-false j k q))) (other (eqb-false j k q))

  pub noted-set : (ps : List ℕ) → v ≡ deep ps k → v < length ps → KnownRight ps ds → KnownRight ps (set ds k v)
  noted-set ps right less n j =
      set_cases (λ i x. i < length ps → (x ≡ 4294967295 → ⊥) → (x ≡ deep ps i) × (deep ps i < length ps)) j (λ h e. (right, omega (arith, right))) (λ _. n j)

  pub kept_set : (es : List ℕ) → KnownStay es ds → KnownStay es (set ds k v)
  kept_set es kept j e = set_cases (λ i x. i ≡ j → x ≡ get_or es j 0) j (λ q. absurd (e (sym (kept j e) ∙ ap (λ i. get_or ds i 0) (sym q) ∙ open-yet))) (λ _ q. kept j e) refl

  -- one that is known stays known, and so is this one now
  pub known-set : (v ≡ 4294967295 → ⊥) → (j : ℕ) → (get_or ds j 0 ≡ 4294967295 → ⊥) → get_or (set ds k v) j 0 ≡ 4294967295 → ⊥
  known-set e j f = set_cases (λ i x. x ≡ 4294967295 → ⊥) j e (λ _. f)

  pub here-set : get_or (set ds k v) k 0 ≡ v
  here-set = get_or-set_same ds k v 0 (inside ds k open-yet)

pub kept_same : (ds : List ℕ) → KnownStay ds ds
kept_same ds k e = refl

pub kept-known : (ds es : List ℕ) → KnownStay ds es → (k : ℕ) → (get_or ds k 0 ≡ 4294967295 → ⊥) → get_or es k 0 ≡ 4294967295 → ⊥
kept-known ds es kept k e f = e (sym (kept k e) ∙ f)

-- ---- all programs up to one

-- the depths of the first `i` programs are known
abbrev pub Reached : List ℕ → ℕ → Type 0
Reached ds i = (k : ℕ) → k < i → get_or ds k 0 ≡ 4294967295 → ⊥

pub unknown-count : (n : ℕ) → length {A = ℕ} (replicate n 4294967295) ≡ n
unknown-count n = length-replicate {A = ℕ} n 4294967295

pub noted-none : (ps : List ℕ) → KnownRight ps (in_array (replicate (length ps) 4294967295))
noted-none ps k h e =
    absurd (e (array_at (replicate (length ps) 4294967295) k (omega (arith, unknown-count (length ps))) ∙ get_or-replicate (length ps) k 4294967295 0 h))

-- ---- after the programs there are zeros

abbrev pub Behind : List ℕ → ℕ → Type 0
Behind ds n = (k : ℕ) → n ≤ k → get_or ds k 0 ≡ 0

zeros : (m k : ℕ) → ◌≡◌ {A = ℕ} (get_or (replicate m 0) k 0) 0
zeros zero k = refl
zeros (suc m) zero = refl
zeros (suc m) (suc k) = zeros m k

pub array_behind : (xs : List ℕ) (n : ℕ) → length xs ≡ n → Behind (in_array xs) n
unfolding in_array
array_behind xs n e k h =
    ap (λ i. get_or (xs ++ replicate (1024 - length xs) 0) i 0) (omega (arith, e))
    ∙ get_or-append-add xs (replicate (1024 - length xs) 0) (k - length xs) 0
    ∙ zeros (1024 - length xs) (k - length xs)

pub behind-kept : (ds es : List ℕ) (n : ℕ) → KnownStay ds es → Behind ds n → Behind es n
behind-kept ds es n kept b k h = kept k (λ q. omega (arith, b k h, q)) ∙ b k h

pub reached-more : (ds : List ℕ) (i : ℕ) → Reached ds i → (get_or ds i 0 ≡ 4294967295 → ⊥) → Reached ds (i + 1)
reached-more ds i r e k h = go (eqb k i) refl
  where
    go : (t : Bool) → eqb k i ≡ t → get_or ds k 0 ≡ 4294967295 → ⊥
    go true q = subst (λ j. get_or ds j 0 ≡ 4294967295 → ⊥) (sym (eqb-true k i q)) e
    go false q = let ne = eqb-false k i q in r k (omega arith)

pub reached-kept : (ds es : List ℕ) (i : ℕ) → KnownStay ds es → Reached ds i → Reached es i
reached-kept ds es i kept r k h = kept-known ds es kept k (r k h)

-- ---- the list of all depths

module _ (ps ds : List ℕ) (sized : length ds ≡ 1024) (few : length ps ≤ 1024) (noted : KnownRight ps ds) (reached : Reached ds (length ps)) where
  pub all-less : (k : ℕ) → k < length ps → deep ps k < length ps
  all-less k h = (noted k h (reached k h)).1

  abbrev ls : List Link
  ls = links_of ps

  abbrev all : List ℕ
  all = map (depth ls (length ls)) ls

  counted : length all ≡ length ps
  counted = length-map ls (depth ls (length ls)) ∙ links-length ps

  at : (i : ℕ) → i < length ps → get_or ds i 0 ≡ get_or all i 0
  unfolding deep
  at i h =
      (noted i h (reached i h)).0
      ∙ sym (map_at (depth ls (length ls)) ls i root 0 (omega (arith, links-length ps)) ∙ ap₂ (depth ls) (links-length ps) (link_at ps i h))

  pub all-depths : Behind ds (length ps) → ds ≡ in_array all
  all-depths behind = ext_get_or 0 ds (in_array all) (sized ∙ sym (array-length all (omega (arith, counted)))) (λ i h. go i (ltb i (length ps)) refl)
    where
      go : (i : ℕ) (t : Bool) → ltb i (length ps) ≡ t → get_or ds i 0 ≡ get_or (in_array all) i 0
      go i true q = let l = ltb-true i (length ps) q in at i l ∙ sym (array_at all i (omega (arith, counted, l)))
      go i false q = let l = ltb-false i (length ps) q in behind i l ∙ sym (array_behind all (length ps) counted i l)

-- ---- their sum

module _ (ps : List ℕ) (i : ℕ) where
  pub sum-turn : i < length ps → depths (links_of ps) (links_of (drop i ps)) ≡ deep ps i + depths (links_of ps) (links_of (drop (i + 1) ps))
  unfolding depths links_of deep
  sum-turn h = rw (drop-cons ps i 0 h, length-map ps link_of) (ap (λ n. depth (links_of ps) (length ps) (link_of (get_or ps i 0)) + depths (links_of ps) (links_of (drop n ps))) (sym (add-one i)))

  pub sum-spent : length ps ≤ i → depths (links_of ps) (links_of (drop i ps)) ≡ 0
  unfolding depths links_of
  sum-spent h = rw drop_of_length-le refl

-- ---- what is answered for a cycle

pub cycle-is : (ls : List Link) (d : Option Depths) → d ≡ depths_of ls → is_none d ≡ loops_from ls 0 ls
unfolding depths_of
cycle-is ls d e = ap is_none e ∙ go (record { list = in_array (map (depth ls (length ls)) ls); hops = hops ls }) (loops_from ls 0 ls)
  where
    go : (b : Depths) (t : Bool) → is_none (cond t None (Some b)) ≡ t
    go b true = refl
    go b false = refl
