-- `key_look::look_from` meets its contract, slot by slot.
use Prim.Native.Nat.{ℕ, ◌+◌, ◌%◌, ◌<◌}
use mathlib.Core.Path.{◌≡◌, refl, sym, ap, ◌∙◌}
use native.Mathlib.Omega.{arith}
use native.Mathlib.Nat.{mod-lt, mod-eq_of_lt}
use lib.ListN.{length, drop, get_or}
use Rattle.format.specs.Slots.{around}
use Rattle.key_look.specs.Sought.{tells_print, look_along, sought_from, looks_from}
use Rattle.key_look.proofs.Looking.{at-empty, at-hit, at_other, at_next, at-end, looks-empty, looks-hit, looks-other, looks-end}
use Rattle.key_look.proofs.look_from.Goals as goal
use Rattle.key_look.proofs.look_from.Goals.{After-slot_tells}

pub nonzero_rem-at : goal.nonzero_rem-at
nonzero_rem-at c = omega arith

pub loop-passed-init : goal.loop-passed-init
unfolding sought_from looks_from
loop-passed-init c =
    let a = c.args in
    let n : ℕ = length a.area.now in
    let s : ℕ = a.number % n in
    let l : s < n = mod-lt _ (omega arith) in (
      l,
      l,
      sym (mod-eq_of_lt l) ∙ ap (λ m. m % n) (let z : s ≡ s + 0 = omega arith in z),
      refl,
      omega arith,
    )

pub offset_bounds-area-at : goal.offset_bounds-area-at
offset_bounds-area-at c = omega arith

pub bounds-area-at : goal.bounds-area-at
bounds-area-at c = omega arith

pub returns-then-slot-eq0 : goal.returns-then-slot-eq0
returns-then-slot-eq0 c =
    let a = c.args in
    let v = c.loop-passed.invariant in
    let s : ℕ = a.number % length a.area.now in
    let hit = tells_print a.text.now a.print a.id.now in
    let h : c.loop-passed.passed < length a.area.now = omega arith in
    let looked = looks-empty a.area.now s c.loop-passed.passed v.0 hit c.loop-passed.at v.2 h c.if-slot-eq0.true in record {
      sought = sym (v.3 ∙ at-empty a.area.now s c.loop-passed.passed v.0 hit c.loop-passed.at v.2 h c.if-slot-eq0.true);
      slots = sym (v.4 ∙ ap (λ m. c.loop-passed.passed + m) looked);
      print = refl;
    }

-- what the slot holds
tells : (c : After-slot_tells)
    → let a = c.args in
    c.slot_tells.result ≡ tells_print a.text.now a.print a.id.now (get_or a.area.now c.loop-passed.at 0)
unfolding tells_print
tells c = c.slot_tells.ensures

pub returns-then-slot_tells : goal.returns-then-slot_tells
returns-then-slot_tells c =
    let a = c.args in
    let v = c.loop-passed.invariant in
    let s : ℕ = a.number % length a.area.now in
    let hit = tells_print a.text.now a.print a.id.now in
    let h : c.loop-passed.passed < length a.area.now = omega arith in
    let told = sym (tells (goal.at.returns-then-slot_tells c).After-slot_tells) ∙ c.if-slot_tells.true in
    let looked = looks-hit a.area.now s c.loop-passed.passed v.0 hit c.loop-passed.at v.2 h c.if-slot-eq0.false told in record {
      sought = sym (v.3 ∙ at-hit a.area.now s c.loop-passed.passed v.0 hit c.loop-passed.at v.2 h c.if-slot-eq0.false told);
      slots = sym (v.4 ∙ ap (λ m. c.loop-passed.passed + m) looked);
      print = refl;
    }

pub loop-passed-preserved : goal.loop-passed-preserved
loop-passed-preserved c =
    let a = c.args in
    let v = c.loop-passed.invariant in
    let n : ℕ = length a.area.now in
    let s : ℕ = a.number % n in
    let hit = tells_print a.text.now a.print a.id.now in
    let i : ℕ = c.loop-passed.passed in
    let at : ℕ = c.loop-passed.at in
    let h : i < n = omega arith in
    let other = sym (tells (goal.at.loop-passed-preserved c).After-slot_tells) ∙ c.if-slot_tells.false in
    let m : c.next-at.result < n = omega (arith, c.next-at.ensures, mod-lt (at + 1) {m = n} (omega arith)) in
    let looked = v.4 ∙ ap (λ m. i + m) (looks-other a.area.now s i v.0 hit at v.2 h c.if-slot-eq0.false other) in (
      v.0,
      m,
      c.next-at.ensures ∙ at_next a.area.now s i v.0 hit at v.2 h,
      v.3 ∙ at_other a.area.now s i v.0 hit at v.2 h c.if-slot-eq0.false other
          ∙ ap (λ m. look_along hit n m (drop (i + 1) (around s a.area.now))) (sym c.next-at.ensures),
      omega (arith, looked),
    )

pub returns : goal.returns
returns c =
    let a = c.args in
    let v = c.loop-passed.invariant in
    let s : ℕ = a.number % length a.area.now in
    let hit = tells_print a.text.now a.print a.id.now in
    let looked = looks-end a.area.now s c.loop-passed.passed v.0 hit c.loop-passed-test.false in record {
      sought = sym (v.3 ∙ at-end a.area.now s c.loop-passed.passed v.0 hit c.loop-passed.at c.loop-passed-test.false);
      slots = omega (arith, v.4, looked);
      print = refl;
    }
