-- `name_lookup::find_slot` meets its contract: a search along the slots that are left finds what a search along all finds.
use Prim.Native.Nat.{ℕ, ◌+◌, ◌-◌, ◌/◌, ◌%◌, ◌<◌}
use mathlib.Core.Path.{◌≡◌, refl, sym, ap, ◌∙◌}
use mathlib.Core.Bool.{◌&&◌}
use mathlib.Core.List.{List}
use native.Mathlib.Omega.{arith}
use native.Mathlib.Nat.{mod-lt}
use lib.ListN.{length, get_or, drop}
use lib.Dec.{eqb}
use Rattle.format.specs.Bytes.{same}
use Rattle.key_at.specs.Word.{word}
use Rattle.format.specs.NameIndex.{absent, first, path, looked}
use Rattle.name_slots.specs.Filled.{mark_of}
use Rattle.name_lookup.specs.Looking.{says, landing, landed, slot_of, looks_of}
use Rattle.name_index.proofs.Path.{first-lt, path-length, path-at}
use Rattle.name_index.proofs.SlotCount.{power-some}
use Rattle.name_lookup.proofs.Looking.{ended, missed, found, passed}
use Rattle.name_lookup.proofs.find_slot.Goals as goal
use Rattle.name_lookup.proofs.find_slot.Goals.{After-first_slot-first, After-is_slot_of, After-turned-at, Start}

some : (s : Start) → 0 < length s.args.slots.now
some s = power-some (length s.args.slots.now) s.requires.by_index.0 s.requires.by_index.1

-- the first slot is the name's
is-first : (c : After-first_slot-first) → c.first_slot-first.result ≡ first (length c.args.slots.now) c.args.name.now
unfolding first
is-first c = c.first_slot-first.ensures ∙ ap (λ h. h % length c.args.slots.now) c.hash-number.ensures

begun : (t slots x : List ℕ) (f : ℕ) → f ≡ first (length slots) x
    → (slot_of t slots x ≡ landing (says t x) (length slots) (f + 0) (path x slots)) × (looks_of t slots x ≡ 0 + looked (says t x) (path x slots))
unfolding slot_of landed looks_of
begun t slots x f e =
    let z : first (length slots) x ≡ f + 0 = omega (arith, e) in
    (ap (λ i. landing (says t x) (length slots) i (path x slots)) z, omega arith)

pub loop-i-init : goal.loop-i-init
loop-i-init c =
    let a = c.args in
    let b = begun a.text.now a.slots.now a.name.now c.first_slot-first.result (is-first c) in
    (b.0, b.1)

begins : (c : After-first_slot-first) → c.first_slot-first.result < length c.args.slots.now
begins c = omega (arith, is-first c, first-lt c.args.slots.now c.args.name.now (some (goal.at.After-first_slot-first c).Start))

long : (c : After-first_slot-first) → length (path c.args.name.now c.args.slots.now) ≡ length c.args.slots.now
long c = path-length _ _ (some (goal.at.After-first_slot-first c).Start)

pub turned-at-requires : goal.turned-at-requires
turned-at-requires c = record {
  first_lt_n = begins (goal.at.turned-at-requires c).After-first_slot-first;
  i_le_n = omega arith;
  n_bound = c.requires.slots_len_bound;
}

-- ---- in a step of the loop

seen : (c : After-turned-at) → get_or (path c.args.name.now c.args.slots.now) c.loop-i.i 0 ≡ get_or c.args.slots.now c.turned-at.result 0
seen c =
    let slots = c.args.slots.now in
    path-at slots c.args.name.now (some (goal.at.After-turned-at c).Start) c.loop-i.i (omega arith)
    ∙ ap (λ k. get_or slots ((k + c.loop-i.i) % length slots) 0) (sym (is-first (goal.at.After-turned-at c).After-first_slot-first)) ∙ ap (λ k. get_or slots k 0) (sym c.turned-at.ensures)

inside : (c : After-turned-at) → c.turned-at.result < length c.args.slots.now
inside c = omega (arith, c.turned-at.ensures, mod-lt (c.first_slot-first.result + c.loop-i.i) {m = length c.args.slots.now} (some (goal.at.After-turned-at c).Start))

left : (c : After-turned-at) → c.loop-i.i < length (path c.args.name.now c.args.slots.now)
left c = omega (arith, long (goal.at.After-turned-at c).After-first_slot-first)

pub offset_bounds-slots-at : goal.offset_bounds-slots-at
offset_bounds-slots-at c = omega (arith, inside (goal.at.offset_bounds-slots-at c).After-turned-at, c.requires.slots_len_bound)

pub bounds-slots-at : goal.bounds-slots-at
bounds-slots-at c = inside (goal.at.bounds-slots-at c).After-turned-at

-- as many have been looked at as there are slots, at most
few : (c : After-turned-at) → c.loop-i.i < 33554432
few c = omega (arith, c.requires.slots_len_bound)

pub overflow_add-result : goal.overflow_add-result
overflow_add-result c = omega (arith, few (goal.at.overflow_add-result c).After-turned-at)

pub overflow_cast-result : goal.overflow_cast-result
overflow_cast-result c = omega (arith, few (goal.at.overflow_cast-result c).After-turned-at)

pub returns-then-v-eq0 : goal.returns-then-v-eq0
returns-then-v-eq0 c =
    let p = (goal.at.returns-then-v-eq0 c).After-turned-at in
    let a = c.args in
    let m = missed (path a.name.now a.slots.now) c.loop-i.i (says a.text.now a.name.now) (length a.slots.now) (c.first_slot-first.result + c.loop-i.i) (left p) (seen p ∙ c.if-v-eq0.true) in record {
      slot = sym (c.loop-i.invariant.0 ∙ m.0 ∙ unfold absent in refl);
      looks = omega (arith, c.loop-i.invariant.1, m.1);
    }

-- whether the slot holds the name
is_said : (c : After-is_slot_of) →
    let a = c.args in
    c.is_slot_of.result ≡ says a.text.now a.name.now (get_or a.slots.now c.turned-at.result 0)
unfolding says
is_said c =
    let a = c.args in
    let v = get_or a.slots.now c.turned-at.result 0 in
    c.is_slot_of.ensures ∙ ap (λ h. eqb h ((v - 1) % 128) && same a.name.now (word (drop ((v - 1) / 128) a.text.now))) (c.check_bits-told.ensures ∙ ap mark_of c.hash-number.ensures)

pub overflow_cast-result-then-is_slot_of : goal.overflow_cast-result-then-is_slot_of
overflow_cast-result-then-is_slot_of c = omega (arith, inside (goal.at.overflow_cast-result-then-is_slot_of c).After-turned-at, c.requires.slots_len_bound)

pub overflow_add-result-then-is_slot_of : goal.overflow_add-result-then-is_slot_of
overflow_add-result-then-is_slot_of c = omega (arith, few (goal.at.overflow_add-result-then-is_slot_of c).After-turned-at)

pub overflow_cast-result-then-is_slot_of-2 : goal.overflow_cast-result-then-is_slot_of-2
overflow_cast-result-then-is_slot_of-2 c = omega (arith, few (goal.at.overflow_cast-result-then-is_slot_of-2 c).After-turned-at)

pub returns-then-is_slot_of : goal.returns-then-is_slot_of
returns-then-is_slot_of c =
    let p = (goal.at.returns-then-is_slot_of c).After-turned-at in
    let a = c.args in
    let m = found (path a.name.now a.slots.now) c.loop-i.i (says a.text.now a.name.now) (length a.slots.now) (c.first_slot-first.result + c.loop-i.i) (left p)
    (get_or a.slots.now c.turned-at.result 0) (seen p) c.if-v-eq0.false (sym (is_said (goal.at.returns-then-is_slot_of c).After-is_slot_of) ∙ c.if-is_slot_of.true) in record {
      slot = c.turned-at.ensures ∙ sym (c.loop-i.invariant.0 ∙ m.0);
      looks = omega (arith, c.loop-i.invariant.1, m.1);
    }

pub loop-i-preserved : goal.loop-i-preserved
loop-i-preserved c =
    let p = (goal.at.loop-i-preserved c).After-turned-at in
    let a = c.args in
    let hit = says a.text.now a.name.now in
    let ss = path a.name.now a.slots.now in
    let f = c.first_slot-first.result in
    let i = c.loop-i.i in
    let n = length a.slots.now in
    let z : f + i + 1 ≡ f + (i + 1) = omega arith in
    let on = passed ss i hit n (f + i) (left p) (get_or a.slots.now c.turned-at.result 0) (seen p) c.if-v-eq0.false (sym (is_said (goal.at.loop-i-preserved c).After-is_slot_of) ∙ c.if-is_slot_of.false) in
    (c.loop-i.invariant.0 ∙ on.0 ∙ ap (λ at. landing hit n at (drop (i + 1) ss)) z, omega (arith, c.loop-i.invariant.1, on.1))

pub overflow_cast-result-2 : goal.overflow_cast-result-2
overflow_cast-result-2 c = omega (arith, c.requires.slots_len_bound)

pub returns : goal.returns
returns c =
    let a = c.args in
    let e : c.loop-i.i ≡ length a.slots.now = omega arith in
    let m = ended (path a.name.now a.slots.now) c.loop-i.i (says a.text.now a.name.now) (length a.slots.now) (c.first_slot-first.result + c.loop-i.i) (omega (arith, long (goal.at.returns c).After-first_slot-first, e)) in record {
      slot = sym (c.loop-i.invariant.0 ∙ m.0 ∙ unfold absent in refl);
      looks = omega (arith, c.loop-i.invariant.1, e, m.1);
    }
