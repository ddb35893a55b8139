-- `name_lookup::ordinal_at` meets its contract: an empty slot and no slot say nothing.
use Prim.Native.Nat.{ℕ, zero, suc, ◌-◌}
use mathlib.Core.Path.{◌≡◌, refl, sym, ap}
use native.Mathlib.Omega.{arith}
use lib.ListN.{get_or-eq_default}
use Rattle.format.specs.NameIndex.{ordinal_of}
use Rattle.name_lookup.specs.Looking.{ordinal_at}
use Rattle.name_lookup.proofs.ordinal_at.Goals as goal

pub returns-then-slots-at : goal.returns-then-slots-at
unfolding ordinal_at ordinal_of
returns-then-slots-at c = let a = c.args in ap ordinal_of (sym (get_or-eq_default a.slots.now 0 c.if-slots-at.true))

pub returns-then-v-eq0 : goal.returns-then-v-eq0
unfolding ordinal_at ordinal_of
returns-then-v-eq0 c = ap ordinal_of (sym c.if-v-eq0.true)

one_less : (v : ℕ) → (v ≡ 0 → ⊥) → v - 1 ≡ ordinal_of v
unfolding ordinal_of
one_less zero n = absurd (n refl)
one_less (suc k) n = omega arith

pub returns : goal.returns
unfolding ordinal_at
returns c = one_less _ c.if-v-eq0.false
