-- `catalogue_kinds::pass_before` meets its contract: what was passed, and what is still to pass, add up.
use Prim.Native.Nat.{ℕ, zero, suc, ◌+◌, ◌-◌, ◌≤◌}
use mathlib.Core.Path.{◌≡◌, refl, sym, ap, ap₂, subst, ◌∙◌}
use mathlib.Core.List.{List, [], ◌∷◌}
use mathlib.Core.Bool.{Bool, true, false}
use lib.Dec.{eqb}
use native.Mathlib.Omega.{arith}
use borrow.Author.Tests.{eq-eqb, ne_eqb, eqb-true, eqb-false}
use lib.ListN.{length, drop}
use Rattle.catalogue_entries.specs.declared.Entry.{Entry}
use Rattle.catalogue_entries.specs.Entries.{kind_byte, entry_size, entry_of, entries_in, counted, entries_before, sizes}
use Rattle.catalogue_entries.proofs.Walk.{turn_end, turn-within, turn_on}
use Rattle.catalogue_kinds.specs.declared.Passed.{Passed}
use Rattle.catalogue_kinds.specs.Passing.{passing}
use Rattle.catalogue_kinds.proofs.pass_before.Invariants.{ahead, Onward}
use Rattle.catalogue_kinds.proofs.pass_before.Goals as goal
use Rattle.catalogue_kinds.proofs.pass_before.Goals.{Else-len-eq0}

-- the whole, where nothing is left to pass
all-passed : (c : List ℕ) (k i at n : ℕ) → Onward c k i at n → ahead c k at (i - n) ≡ [] → ◌≡◌ {A = Passed} (record { at = at; count = n }) (passing k (entries_before k i (entries_in c)))
unfolding passing sizes counted
all-passed c k i at n o e =
    let a : at ≡ sizes (entries_before k i (entries_in c)) = omega (arith, o.3, ap sizes e) in
    let b : n ≡ counted k (entries_before k i (entries_in c)) = omega (arith, o.4, ap (counted k) e) in
    ap₂ (λ x y. record { at = x; count = y }) a b

module _ (c : List ℕ) (k i at n len : ℕ) (e : Entry) (found : e ≡ entry_of (drop at c)) (long : len ≡ entry_size e) (o : Onward c k i at n) where
  ended : len ≡ 0 → ahead c k at (i - n) ≡ []
  unfolding entries_before
  ended h = ap (entries_before k (i - n)) (turn_end c at len e found long h)

  module _ (h : len ≡ 0 → ⊥) where
    opened : (j : ℕ) → ahead c k at j ≡ entries_before k j (e ∷ entries_in (drop (at + len) c))
    opened j = ap (entries_before k j) (turn_on c at len e found long h)

    here : kind_byte e ≡ k → n ≡ i → ahead c k at (i - n) ≡ []
    unfolding entries_before
    here q z = let y : i - n ≡ 0 = omega arith in ap (ahead c k at) y ∙ opened 0 ∙ rw (eq-eqb (kind_byte e) k q) refl

    within : at + len ≤ length c
    within = turn-within c at len e found long h

    one : kind_byte e ≡ k → (n ≡ i → ⊥) → Onward c k i (at + len) (n + 1)
    unfolding entries_before sizes counted
    one q z =
        let y : i - n ≡ suc (i - (n + 1)) = omega (arith, z) in
        let p : ahead c k at (i - n) ≡ e ∷ ahead c k (at + len) (i - (n + 1)) = ap (ahead c k at) y ∙ opened (suc (i - (n + 1))) ∙ rw (eq-eqb (kind_byte e) k q) refl in
        let m : counted k (e ∷ ahead c k (at + len) (i - (n + 1))) ≡ suc (counted k (ahead c k (at + len) (i - (n + 1)))) = rw (eq-eqb (kind_byte e) k q) refl in
        (within, omega (arith, h), omega (arith, z), omega (arith, o.3, ap sizes p, long), omega (arith, o.4, ap (counted k) p, m))

    other : (kind_byte e ≡ k → ⊥) → Onward c k i (at + len) n
    other q =
        let p : ahead c k at (i - n) ≡ e ∷ ahead c k (at + len) (i - n) = opened (i - n) ∙ passed (i - n) in
        let m : counted k (e ∷ ahead c k (at + len) (i - n)) ≡ counted k (ahead c k (at + len) (i - n)) = unfold counted in rw (ne_eqb (kind_byte e) k q) refl in
        let z : sizes (e ∷ ahead c k (at + len) (i - n)) ≡ entry_size e + sizes (ahead c k (at + len) (i - n)) = unfold sizes in refl in
        (within, omega arith, omega arith, omega (arith, o.3, ap sizes p, z, long), omega (arith, o.4, ap (counted k) p, m))
      where
        passed : (j : ℕ) → entries_before k j (e ∷ entries_in (drop (at + len) c)) ≡ e ∷ ahead c k (at + len) j
        passed zero = unfold entries_before in rw (ne_eqb (kind_byte e) k q) refl
        passed (suc j) = unfold entries_before in rw (ne_eqb (kind_byte e) k q) refl

    -- what a turn leaves, by whether the record is of the kind
    turned : (n' : ℕ) → (kind_byte e ≡ k → n ≡ i → ⊥) → (kind_byte e ≡ k → n' ≡ n + 1) → ((kind_byte e ≡ k → ⊥) → n' ≡ n) → Onward c k i (at + len) n'
    turned n' z more same = go (eqb (kind_byte e) k) refl
      where
        go : (t : Bool) → eqb (kind_byte e) k ≡ t → Onward c k i (at + len) n'
        go true q = let y = eqb-true (kind_byte e) k q in subst (Onward c k i (at + len)) (sym (more y)) (one y (z y))
        go false q = let y = eqb-false (kind_byte e) k q in subst (Onward c k i (at + len)) (sym (same y)) (other y)

-- ---- in a step of the loop

-- the entry at `at` is within the catalogue
inside : (c : Else-len-eq0) → c.loop-e.at + c.size-len.result ≤ length c.args.catalogue.now
inside c = turn-within _ _ _ _ c.entry_at-e.ensures c.size-len.ensures c.if-len-eq0.false

pub loop-e-init : goal.loop-e-init
loop-e-init c =
    let a = c.args in
    let z : a.ordinal ≡ a.ordinal - 0 = omega arith in
    (omega arith, omega arith, omega arith, omega (arith, ap (λ i. sizes (entries_before a.kind i (entries_in a.catalogue.now))) z), omega (arith, ap (λ i. counted a.kind (entries_before a.kind i (entries_in a.catalogue.now))) z))

pub returns-then-len-eq0 : goal.returns-then-len-eq0
returns-then-len-eq0 c =
    let l = c.loop-e in
    let a = c.args in
    all-passed a.catalogue.now a.kind a.ordinal l.at l.count l.invariant
    (ended a.catalogue.now a.kind a.ordinal l.at l.count c.size-len.result c.entry_at-e.result c.entry_at-e.ensures c.size-len.ensures l.invariant c.if-len-eq0.true)

pub returns-then-count-ordinal : goal.returns-then-count-ordinal
returns-then-count-ordinal c =
    let l = c.loop-e in
    let a = c.args in
    all-passed a.catalogue.now a.kind a.ordinal l.at l.count l.invariant
    (here a.catalogue.now a.kind a.ordinal l.at l.count c.size-len.result c.entry_at-e.result c.entry_at-e.ensures c.size-len.ensures l.invariant c.if-len-eq0.false
    (sym c.kind_of.ensures ∙ c.if-kind_of-kind.true) c.if-count-ordinal.true)

pub overflow_add-count : goal.overflow_add-count
overflow_add-count c = omega (arith, inside (goal.at.overflow_add-count c).Else-len-eq0, c.loop-e.invariant.1)

pub overflow_add-at : goal.overflow_add-at
overflow_add-at c = omega (arith, inside (goal.at.overflow_add-at c).Else-len-eq0)

pub loop-e-smaller : goal.loop-e-smaller
loop-e-smaller c = omega (arith, inside (goal.at.loop-e-smaller c).Else-len-eq0, c.if-len-eq0.false)

pub loop-e-preserved : goal.loop-e-preserved
loop-e-preserved c =
    let l = c.loop-e in
    let a = c.args in
    turned a.catalogue.now a.kind a.ordinal l.at l.count c.size-len.result c.entry_at-e.result c.entry_at-e.ensures c.size-len.ensures l.invariant c.if-len-eq0.false _
    (λ q z. grind arith) (λ q. grind arith) (λ q. grind arith)
