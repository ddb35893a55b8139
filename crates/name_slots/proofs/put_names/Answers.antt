-- `name_slots::put_names` meets its contract: what is filled from the entries that are left is what is filled from all.
use Prim.Native.Nat.{ℕ, ◌+◌, ◌-◌, ◌≤◌, ◌<◌}
use mathlib.Core.Path.{◌≡◌, refl, sym, ap, ◌∙◌}
use mathlib.Core.List.{◌∷◌}
use native.Mathlib.Omega.{arith}
use lib.ListN.{length, take, drop, set, length-set}
use lib.Seq.{sets, set_out}
use Rattle.catalogue_entries.specs.declared.Place.{Place}
use Rattle.catalogue_entries.specs.declared.Entry.{Entry}
use Rattle.catalogue_entries.specs.declared.Entry.TheVariants.{End, Header, ReferenceSequence, ReadGroup, Program, Comment, Field}
use Rattle.catalogue_entries.specs.Entries.{kind_byte, entry_of, entries_in}
use Rattle.format.specs.Slots.{seat}
use Rattle.format.specs.NameIndex.{first}
use Rattle.name_index.proofs.SlotCount.{power-some}
use Rattle.name_index.proofs.Path.{seat-lt}
use Rattle.name_index.proofs.Indexed.{enter-length}
use Rattle.name_entries.specs.Names.{name_in}
use Rattle.name_slots.specs.Filled.{start_in, entering, seats}
use Rattle.name_entries.proofs.NextEntry.{sq-within}
use Rattle.name_slots.proofs.Filling.{entered, entered_all, seated-all, seated-on}
use Rattle.name_slots.proofs.Noted.{note-on}
use Rattle.name_slots.proofs.put_names.Goals as goal
use Rattle.name_slots.proofs.put_names.Goals.{In-ReferenceSequence, then-k-notes, else-k-notes}

pub loop-p-init : goal.loop-p-init
loop-p-init c = (omega arith, omega arith, refl, refl, refl, refl)

pub next_sq-at-requires : goal.next_sq-at-requires
next_sq-at-requires c = omega arith

-- ---- an SQ entry

-- what it is
abbrev entry : In-ReferenceSequence → Entry
entry c = ReferenceSequence c.in-ReferenceSequence.p c.in-ReferenceSequence.field-1 c.in-ReferenceSequence.field-2

found : (c : In-ReferenceSequence) → entry c ≡ entry_of (drop c.next_sq-at.result c.args.catalogue.now)
found c = sym c.in-ReferenceSequence.is ∙ c.entry_at-e.ensures

is-sq : (c : In-ReferenceSequence) → kind_byte (entry c) ≡ 2
unfolding kind_byte
is-sq c = refl

within : (c : In-ReferenceSequence) → c.next_sq-at.result + 21 ≤ length c.args.catalogue.now
within c =
    sq-within c.args.catalogue.now c.loop-p.at c.next_sq-at.result c.next_sq-at.ensures (entry c) (found c) (is-sq c)

pub put_name-slot-requires : goal.put_name-slot-requires
put_name-slot-requires c =
    let p = c.requires in record {
      k_bound = omega (arith, c.loop-p.invariant.0, c.loop-p.invariant.1, p.catalogue_len_bound);
      slots_len_bound = omega (arith, c.loop-p.invariant.2, p.slots_len_bound);
      by_index = (p.by_index.0, c.loop-p.invariant.2 ∙ p.by_index.1);
    }

-- the slot that its name enters
abbrev place : In-ReferenceSequence → ℕ
place c =
    let slots = c.loop-p.slots in
    let p = c.in-ReferenceSequence.p in
    seat (first (length slots) (take p.len (drop p.at c.args.text.now))) slots

pub overflow_cast-notes : goal.overflow_cast-notes
overflow_cast-notes c =
    let p = c.requires in
    let slots = c.loop-p.slots in
    let inside : place (goal.at.overflow_cast-notes c).In-ReferenceSequence < length slots = seat-lt _ slots (power-some (length slots) p.by_index.0 (c.loop-p.invariant.2 ∙ p.by_index.1)) in
    omega (arith, c.put_name-slot.ensures.at, inside, c.loop-p.invariant.2, p.slots_len_bound)

pub offset_bounds-notes-k : goal.offset_bounds-notes-k
offset_bounds-notes-k c = omega (arith, c.loop-p.invariant.0, c.loop-p.invariant.1, c.requires.catalogue_len_bound)

pub bounds-notes-k : goal.bounds-notes-k
bounds-notes-k c = c.if-k-notes.true

pub overflow_add-k : goal.overflow_add-k
overflow_add-k c = omega (arith, c.loop-p.invariant.0, c.loop-p.invariant.1, c.requires.catalogue_len_bound)

pub overflow_add-at : goal.overflow_add-at
overflow_add-at c = omega (arith, within (goal.at.overflow_add-at c).In-ReferenceSequence)

pub loop-p-smaller : goal.loop-p-smaller
loop-p-smaller c = omega (arith, within (goal.at.loop-p-smaller c).In-ReferenceSequence, c.next_sq-at.ensures)

pub loop-p-preserved : goal.loop-p-preserved
unfolding name_in start_in
loop-p-preserved c =
    let p = (goal.at.loop-p-preserved c).In-ReferenceSequence in
    let a = c.args in
    let slot = c.put_name-slot in
    let is = c.put_name-slot.ensures.wrote in
    let rest = entries_in (drop (c.next_sq-at.result + 21) a.catalogue.now) in
    let noted : c.if-k-notes.notes ≡ set c.loop-p.notes c.loop-p.k slot.result =
    elim c.if-k-notes.branch [
      | then-k-notes w ↦ w.notes-is
      | else-k-notes w ↦ w.notes-is ∙ sym (set_out c.loop-p.notes c.loop-p.k slot.result w.if-k-notes.false)
    ] in (
      within p,
      omega (arith, c.loop-p.invariant.1, c.next_sq-at.ensures),
      ap length is ∙ enter-length _ _ _ ∙ c.loop-p.invariant.2,
      ap length noted ∙ length-set c.loop-p.notes c.loop-p.k slot.result ∙ c.loop-p.invariant.3,
      c.loop-p.invariant.4
          ∙ entered a.catalogue.now c.loop-p.at c.next_sq-at.result c.next_sq-at.ensures (entry p) (found p) a.ordinals a.text.now c.loop-p.k c.loop-p.slots (is-sq p)
          ∙ ap (entering a.ordinals a.text.now (c.loop-p.k + 1) rest) (sym is),
      c.loop-p.invariant.5
          ∙ note-on c.loop-p.notes c.if-k-notes.notes c.loop-p.k slot.result
          (seated-on a.catalogue.now c.loop-p.at c.next_sq-at.result c.next_sq-at.ensures (entry p) (found p) a.ordinals a.text.now c.loop-p.k c.loop-p.slots (is-sq p)
          ∙ ap (λ after. place p ∷ seats a.ordinals a.text.now (c.loop-p.k + 1) rest after) (sym is))
          slot.ensures.at noted,
    )

pub shape_of-slots-in_default : goal.shape_of-slots-in_default
shape_of-slots-in_default c = c.loop-p.invariant.2

pub shape_of-notes-in_default : goal.shape_of-notes-in_default
shape_of-notes-in_default c = c.loop-p.invariant.3

-- ---- no SQ entry

not-sq : (e : Entry) → ((p : Place) (n l : ℕ) → e ≡ ReferenceSequence p n l → ⊥) → kind_byte e ≡ 2 → ⊥
unfolding kind_byte
not-sq End h q = omega (arith, q)
not-sq (Header v l) h q = omega (arith, q)
not-sq (ReferenceSequence p n l) h q = h p n l refl
not-sq (ReadGroup p l) h q = omega (arith, q)
not-sq (Program p l) h q = omega (arith, q)
not-sq (Comment p l) h q = omega (arith, q)
not-sq (Field a b p) h q = omega (arith, q)

pub returns-in_default : goal.returns-in_default
returns-in_default c =
    let a = c.args in
    let none = not-sq c.entry_at-e.result c.in_default.not-ReferenceSequence in record {
      wrote = sym
          (c.loop-p.invariant.4
          ∙ entered_all a.catalogue.now c.loop-p.at c.next_sq-at.result c.next_sq-at.ensures c.entry_at-e.result c.entry_at-e.ensures a.ordinals a.text.now c.loop-p.k c.loop-p.slots none);
      noted = sym
          (c.loop-p.invariant.5
          ∙ ap (sets c.loop-p.notes c.loop-p.k)
          (seated-all a.catalogue.now c.loop-p.at c.next_sq-at.result c.next_sq-at.ensures c.entry_at-e.result c.entry_at-e.ensures a.ordinals a.text.now c.loop-p.k c.loop-p.slots none));
    }
