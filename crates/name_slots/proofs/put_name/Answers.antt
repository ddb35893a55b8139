-- `name_slots::put_name` meets its contract: a name's hash gives its first slot and its mark.
use Prim.Native.Nat.{ℕ, ◌%◌}
use mathlib.Core.Path.{◌≡◌, ap, ap₂, ◌∙◌}
use mathlib.Core.List.{List}
use native.Mathlib.Omega.{arith}
use native.Mathlib.Nat.{mod-lt}
use lib.ListN.{length, take, drop, set}
use Rattle.format.specs.Slots.{seat}
use Rattle.format.specs.NameIndex.{hash_from, first, enter}
use Rattle.name_index.proofs.SlotCount.{power-some}
use Rattle.name_slots.specs.Filled.{value_of}
use Rattle.name_slots.proofs.put_name.Goals as goal
use Rattle.name_slots.proofs.put_name.Goals.{After-first_slot-first, After-hash-number, Start}

-- the name
abbrev name : Start → List ℕ
name s = take s.args.p.len (drop s.args.p.at s.args.text.now)

number : (c : After-hash-number) → c.hash-number.result ≡ hash_from 0 (name (goal.at.After-hash-number c).Start)
number c = c.hash-number.ensures ∙ ap (hash_from 0) c.bytes_at.ensures

begins : (c : After-first_slot-first) → c.first_slot-first.result ≡ first (length c.args.slots.now) (name (goal.at.After-first_slot-first c).Start)
unfolding first
begins c = c.first_slot-first.ensures ∙ ap (λ h. h % length c.args.slots.now) (number (goal.at.After-first_slot-first c).After-hash-number)

pub enter-requires : goal.enter-requires
enter-requires c =
    let slots = c.args.slots.now in record {
      first_in_bounds = omega (arith, c.first_slot-first.ensures, mod-lt c.hash-number.result {m = length slots} (power-some (length slots) c.requires.by_index.0 c.requires.by_index.1));
      slots_len_bound = c.requires.slots_len_bound;
    }

pub returns : goal.returns
unfolding enter
returns c =
    let p = (goal.at.returns c).After-first_slot-first in
    let a = c.args in record {
      at = c.enter.ensures.at ∙ ap (λ i. seat i a.slots.now) (begins p);
      wrote = c.enter.ensures.wrote
          ∙ ap₂ (λ i v. set a.slots.now (seat i a.slots.now) v) (begins p) (c.value-v.ensures ∙ ap (λ h. value_of a.ordinals a.k h (a.p.at % 16777216)) (number (goal.at.returns c).After-hash-number));
    }
