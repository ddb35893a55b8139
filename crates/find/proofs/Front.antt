-- Two keys, compared from the last byte on: the bytes that are not compared yet decide.
use Prim.Native.Nat.{ℕ, suc, ◌+◌, ◌-◌, ◌≤◌, ◌<◌}
use mathlib.Core.Path.{◌≡◌, refl, sym, ap, ap₂, ◌∙◌}
use mathlib.Core.Bool.{Bool, true, false, ◌&&◌, and-true, and-false}
use mathlib.Core.List.{List, [], ◌∷◌, ◌++◌}
use native.Mathlib.Omega.{arith}
use lib.ListN.{length, take, drop, get_or, length-drop}
use lib.Seq.{length-take-le, take-length, take-take, take-suc, get_or-take, get_or-drop}
use lib.Dec.{eqb}
use borrow.Author.Tests.{eq-eqb, ne_eqb}
use Rattle.format.specs.Bytes.{same}

same-snoc : (s u : List ℕ) (a b : ℕ) → length s ≡ length u → same (s ++ (a ∷ [])) (u ++ (b ∷ [])) ≡ (same s u && eqb a b)
unfolding same
same-snoc [] [] a b h = and-true (eqb a b)
same-snoc [] (y ∷ u) a b h = absurd (omega arith)
same-snoc (x ∷ s) [] a b h = absurd (omega arith)
same-snoc (x ∷ s) (y ∷ u) a b h = go (eqb x y) (same-snoc s u a b (omega arith))
  where
    go : (t : Bool) → same (s ++ (a ∷ [])) (u ++ (b ∷ [])) ≡ (same s u && eqb a b) → (t && same (s ++ (a ∷ [])) (u ++ (b ∷ []))) ≡ ((t && same s u) && eqb a b)
    go true ih = ih
    go false ih = refl

-- as many bytes of `t` from `start` on as `id` has
abbrev part : List ℕ → List ℕ → ℕ → List ℕ
part t id start = take (length id) (drop start t)

-- the first `i` of them decide whether they are `id`
abbrev pub Front : List ℕ → List ℕ → ℕ → ℕ → Type 0
Front t id start i = (i ≤ length id) × (same id (part t id start) ≡ same (take i id) (take i (part t id start)))

pub front-all : (t id : List ℕ) (start : ℕ) → Front t id start (length id)
front-all t id start = (omega arith, ap₂ same (sym (take-length id)) (sym (take-take (length id) (length id) (drop start t) (omega arith))))

module _ (t id : List ℕ) (start : ℕ) (h : start + length id ≤ length t) (i : ℕ) (f : Front t id start i) where
  pub front-none : i ≡ 0 → same id (part t id start) ≡ true
  unfolding same
  front-none z = f.1 ∙ ap (λ n. same (take n id) (take n (part t id start))) z

  -- the byte before the `i`th
  module _ (z : i ≡ 0 → ⊥) where
    step : same id (part t id start) ≡ (same (take (i - 1) id) (take (i - 1) (part t id start)) && eqb (get_or id (i - 1) 0) (get_or t (start + (i - 1)) 0))
    step =
        let l : length (part t id start) ≡ length id = length-take-le (length id) (drop start t) (omega (arith, length-drop start t)) in
        let n : i ≡ suc (i - 1) = omega (arith, z) in
        let p : i - 1 < length id = omega (arith, z) in
        let q : i - 1 < length (part t id start) = omega arith in
        let a : length (take (i - 1) id) ≡ length (take (i - 1) (part t id start)) = length-take-le (i - 1) id (omega arith) ∙ sym (length-take-le (i - 1) (part t id start) (omega arith)) in
        f.1
        ∙ ap (λ n. same (take n id) (take n (part t id start))) n
        ∙ ap₂ same (take-suc id (i - 1) 0 p) (take-suc (part t id start) (i - 1) 0 q)
        ∙ same-snoc (take (i - 1) id) (take (i - 1) (part t id start)) (get_or id (i - 1) 0) (get_or (part t id start) (i - 1) 0) a
        ∙ ap (λ b. same (take (i - 1) id) (take (i - 1) (part t id start)) && eqb (get_or id (i - 1) 0) b) (get_or-take (length id) (drop start t) (i - 1) 0 p ∙ get_or-drop start t (i - 1) 0)

    pub front-other : (get_or t (start + (i - 1)) 0 ≡ get_or id (i - 1) 0 → ⊥) → same id (part t id start) ≡ false
    front-other n = step ∙ rw (ne_eqb (get_or id (i - 1) 0) (get_or t (start + (i - 1)) 0) (λ e. n (sym e))) (and-false (same (take (i - 1) id) (take (i - 1) (part t id start))))

    pub front-on : get_or t (start + (i - 1)) 0 ≡ get_or id (i - 1) 0 → Front t id start (i - 1)
    front-on e = (omega arith, step ∙ rw (eq-eqb (get_or id (i - 1) 0) (get_or t (start + (i - 1)) 0) (sym e)) (and-true (same (take (i - 1) id) (take (i - 1) (part t id start)))))
