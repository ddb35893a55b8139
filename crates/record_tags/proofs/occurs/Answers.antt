-- `record_tags::occurs` meets its contract: nothing occurs from the place on that the loop has come down to.
use Prim.Native.Nat.{ℕ, ◌+◌, ◌-◌, ◌≤◌, ◌<◌}
use mathlib.Core.Path.{◌≡◌, refl, sym, ap, ◌∙◌}
use mathlib.Core.Bool.{true, false, ◌&&◌, ◌||◌}
use mathlib.Core.List.{List}
use native.Mathlib.Omega.{arith}
use lib.ListN.{length, drop, get_or, length-drop}
use lib.Dec.{eqb}
use borrow.Author.Tests.{eq-eqb, ne_eqb}
use Rattle.record_tags.specs.Occurs.{occurs}
use Rattle.record_tags.proofs.Region.{occurs-short, occurs-at, occurs-drop}
use Rattle.record_tags.proofs.occurs.Goals as goal
use Rattle.record_tags.proofs.occurs.Goals.{else-src-i-eq9-via-then-src-i-eq9+then-src-i+else-src-i-2, else-src-i-eq9-via-then-src-i-eq9+else-src-i, else-src-i-eq9-via-else-src-i-eq9}

-- a step at the place before `i`
module _ (a b : ℕ) (s : List ℕ) (i : ℕ) (h : i + 2 ≤ length s) (p : 0 < i) (n : occurs a b (drop i s) ≡ false) where
  here : occurs a b (drop (i - 1) s)
      ≡ (eqb (get_or s (i - 1) 0) 9 && (eqb a (get_or s (i - 1 + 1) 0) && (eqb b (get_or s (i - 1 + 2) 0) && true))) || false
  here = occurs-at a b s (i - 1) (omega arith) ∙ ap (λ t. (eqb (get_or s (i - 1) 0) 9 && (eqb a (get_or s (i - 1 + 1) 0) && (eqb b (get_or s (i - 1 + 2) 0) && true))) || t) (ap (λ j. occurs a b (drop j s)) (let e : i - 1 + 1 ≡ i = omega arith in e) ∙ n)

  found : get_or s (i - 1) 0 ≡ 9 → get_or s (i - 1 + 1) 0 ≡ a → get_or s (i - 1 + 2) 0 ≡ b → occurs a b s ≡ true
  found x y z = occurs-drop a b s (i - 1) (here ∙ rw (eq-eqb _ _ x, eq-eqb _ _ (sym y), eq-eqb _ _ (sym z)) refl)

  not-tab : (get_or s (i - 1) 0 ≡ 9 → ⊥) → occurs a b (drop (i - 1) s) ≡ false
  not-tab x = here ∙ rw (ne_eqb _ _ x) refl

  not_first : get_or s (i - 1) 0 ≡ 9 → (get_or s (i - 1 + 1) 0 ≡ a → ⊥) → occurs a b (drop (i - 1) s) ≡ false
  not_first x y = here ∙ rw (eq-eqb _ _ x, ne_eqb a (get_or s (i - 1 + 1) 0) (λ e. y (sym e))) refl

  not-second : get_or s (i - 1) 0 ≡ 9 → get_or s (i - 1 + 1) 0 ≡ a → (get_or s (i - 1 + 2) 0 ≡ b → ⊥) → occurs a b (drop (i - 1) s) ≡ false
  not-second x y z = here ∙ rw (eq-eqb _ _ x, eq-eqb _ _ (sym y), ne_eqb b (get_or s (i - 1 + 2) 0) (λ e. z (sym e))) refl

pub loop-i-init : goal.loop-i-init
loop-i-init c =
    let n = c.saturating_sub-i.result in
    occurs-short _ _ _ (omega (arith, c.saturating_sub-i.ensures, length-drop n c.args.src.now))

pub returns-then-src-i-2 : goal.returns-then-src-i-2
returns-then-src-i-2 c =
    let a = c.args in
    sym (found a.a a.b a.src.now c.loop-i.i (omega (arith, c.saturating_sub-i.ensures)) (omega arith) c.loop-i.invariant c.if-src-i-eq9.true c.if-src-i.true c.if-src-i-2.true)

pub loop-i-preserved : goal.loop-i-preserved
loop-i-preserved c =
    let a = c.args in
    let h : c.loop-i.i + 2 ≤ length a.src.now = omega (arith, c.saturating_sub-i.ensures) in
    let p : 0 < c.loop-i.i = omega arith in
    let n = c.loop-i.invariant in
    elim c.else-src-i-eq9.branch [
      | else-src-i-eq9-via-else-src-i-eq9 w ↦ not-tab a.a a.b a.src.now c.loop-i.i h p n w.if-src-i-eq9.false
      | else-src-i-eq9-via-then-src-i-eq9+else-src-i w ↦ not_first a.a a.b a.src.now c.loop-i.i h p n w.if-src-i-eq9.true w.if-src-i.false
      | else-src-i-eq9-via-then-src-i-eq9+then-src-i+else-src-i-2 w ↦
          not-second a.a a.b a.src.now c.loop-i.i h p n w.if-src-i-eq9.true w.if-src-i.true w.if-src-i-2.false
    ]

pub returns : goal.returns
returns c =
    let a = c.args in
    sym (ap (λ j. occurs a.a a.b (drop j a.src.now)) (let e : 0 ≡ c.loop-i.i = omega arith in e) ∙ c.loop-i.invariant)
