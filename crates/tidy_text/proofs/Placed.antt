-- Writes at places apart from each other: their order does not matter, so that a part's front can be written first.
use Prim.Native.Nat.{ℕ, suc, ◌+◌, ◌≤◌, ◌<◌}
use mathlib.Core.Path.{◌≡◌, refl, sym, ap, ◌∙◌}
use mathlib.Core.List.{List, [], ◌∷◌, ◌++◌}
use native.Mathlib.Omega.{arith}
use lib.ListN.{length, set, length-append}
use lib.Seq.{set_comm, sets, sets-eq, length-sets}
use Rattle.byte_slices.specs.Over.{over}
use Rattle.byte_slices.proofs.Over.{over-length, over-over}
use Rattle.tidy_text.specs.Placed.{Part, with_parts, begins, Apart}

-- ---- two writes

over-sets : (out : List ℕ) (at : ℕ) (xs : List ℕ) → at + length xs ≤ length out → over out at xs ≡ sets out at xs
unfolding over
over-sets out at xs h = sym (sets-eq xs out at h)

set-sets : (out : List ℕ) (a x b : ℕ) (ys : List ℕ) → a < b → sets (set out a x) b ys ≡ set (sets out b ys) a x
set-sets out a x b [] h = refl
set-sets out a x b (y ∷ ys) h =
    ap (λ l. sets l (suc b) ys) (set_comm out a b x y (λ e. omega (arith, e))) ∙ set-sets (set out b y) a x (suc b) ys (omega arith)

sets-sets : (out : List ℕ) (a : ℕ) (xs : List ℕ) (b : ℕ) (ys : List ℕ) → a + length xs ≤ b → sets (sets out a xs) b ys ≡ sets (sets out b ys) a xs
sets-sets out a [] b ys h = refl
sets-sets out a (x ∷ xs) b ys h =
    sets-sets (set out a x) (suc a) xs b ys (omega arith) ∙ ap (λ l. sets l (suc a) xs) (set-sets out a x b ys (omega arith))

-- the one that comes before the other may come first or last
pub over-apart : (out : List ℕ) (a : ℕ) (xs : List ℕ) (b : ℕ) (ys : List ℕ) → a + length xs ≤ b → b + length ys ≤ length out
    → over (over out a xs) b ys ≡ over (over out b ys) a xs
over-apart out a xs b ys h k =
    ap (λ l. over l b ys) (over-sets out a xs (omega arith))
    ∙ over-sets (sets out a xs) b ys (omega (arith, length-sets out a xs))
    ∙ sets-sets out a xs b ys h
    ∙ sym (over-sets (sets out b ys) a xs (omega (arith, length-sets out b ys)))
    ∙ ap (λ l. over l a xs) (sym (over-sets out b ys k))

-- ---- a list of parts

begins-le : (ps : List Part) (n : ℕ) → Apart ps n → begins ps n ≤ n
unfolding begins Apart
begins-le [] n h = omega arith
begins-le (p ∷ ps) n h = omega (arith, h.0, begins-le ps n h.1)

-- a part ends before a later one
before : (q : Part) (qs : List Part) (p : Part) (ss : List Part) (n : ℕ) → Apart (q ∷ (qs ++ (p ∷ ss))) n → q.at + length q.bytes ≤ p.at
unfolding begins Apart
before q [] p ss n h = h.0
before q (r ∷ qs) p ss n h = omega (arith, h.0, before r qs p ss n h.1)

-- and within `n`
ends : (qs : List Part) (p : Part) (ss : List Part) (n : ℕ) → Apart (qs ++ (p ∷ ss)) n → p.at + length p.bytes ≤ n
unfolding begins Apart
ends [] p ss n h = omega (arith, h.0, begins-le ss n h.1)
ends (q ∷ qs) p ss n h = ends qs p ss n h.1

-- a part may lose its front
apart-split : (qs : List Part) (n at : ℕ) (xs ys : List ℕ) (ss : List Part) → Apart (qs ++ (record { at = at; bytes = xs ++ ys } ∷ ss)) n
    → Apart (qs ++ (record { at = at + length xs; bytes = ys } ∷ ss)) n
unfolding begins Apart
apart-split [] n at xs ys ss h = (omega (arith, h.0, length-append xs ys), h.1)
apart-split (q ∷ []) n at xs ys ss h = (omega (arith, h.0), apart-split [] n at xs ys ss h.1)
apart-split (q ∷ r ∷ qs) n at xs ys ss h = (h.0, apart-split (r ∷ qs) n at xs ys ss h.1)

-- and that front may be written before all
placed-split : (qs : List Part) (out : List ℕ) (n at : ℕ) (xs ys : List ℕ) (ss : List Part) → n ≤ length out
    → Apart (qs ++ (record { at = at; bytes = xs ++ ys } ∷ ss)) n
    → with_parts out (qs ++ (record { at = at; bytes = xs ++ ys } ∷ ss)) ≡ with_parts (over out at xs) (qs ++ (record { at = at + length xs; bytes = ys } ∷ ss))
unfolding with_parts Apart
placed-split [] out n at xs ys ss m h =
    ap (λ l. with_parts l ss) (sym (over-over out at xs ys (omega (arith, length-append xs ys, m, ends [] (record { at = at; bytes = xs ++ ys }) ss n h))))
placed-split (q ∷ qs) out n at xs ys ss m h =
    let p : Part = record { at = at; bytes = xs ++ ys } in
    let e : at + length xs ≤ n = omega (arith, length-append xs ys, ends (q ∷ qs) p ss n h) in
    let b : q.at + length q.bytes ≤ at = before q qs p ss n h in
    placed-split qs (over out q.at q.bytes) n at xs ys ss (omega (arith, m, over-length out q.at q.bytes (omega arith))) h.1
    ∙ ap (λ l. with_parts l (qs ++ (record { at = at + length xs; bytes = ys } ∷ ss))) (over-apart out q.at q.bytes at xs b (omega arith))

-- the parts `ps` of which `xs` is written at `at`: the parts `qs` are left
pub record Split (out : List ℕ) (n at : ℕ) (xs : List ℕ) (ps qs : List Part) : Type 0 where
  pub room : at + length xs ≤ n
  pub apart : Apart qs n
  pub same : with_parts out ps ≡ with_parts (over out at xs) qs

pub split : (qs : List Part) (out : List ℕ) (n at : ℕ) (xs ys : List ℕ) (ss : List Part) → n ≤ length out
    → Apart (qs ++ (record { at = at; bytes = xs ++ ys } ∷ ss)) n
    → Split out n at xs (qs ++ (record { at = at; bytes = xs ++ ys } ∷ ss)) (qs ++ (record { at = at + length xs; bytes = ys } ∷ ss))
split qs out n at xs ys ss m h =
    record {
      room = omega (arith, length-append xs ys, ends qs (record { at = at; bytes = xs ++ ys }) ss n h);
      apart = apart-split qs n at xs ys ss h;
      same = placed-split qs out n at xs ys ss m h;
    }
