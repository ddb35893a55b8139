-- `names::answer::answer_noting` meets its contract: the slots are filled with places, looked in, filled with ordinals and read.
use Prim.Native.Nat.{ℕ, suc, ◌^◌, ◌≤◌}
use mathlib.Core.Path.{◌≡◌, ◌∙◌}
use native.Mathlib.Omega.{arith}
use lib.ListN.{length}
use Rattle.format.specs.NameIndex.{slot_count}
use Rattle.catalogue_entries.specs.Entries.{entries_in}
use Rattle.name_entries.specs.Names.{names_in}
use Rattle.name_index.proofs.SlotCount.{slots-power, slots-few}
use Rattle.format.specs.Asked.{asked}
use Rattle.names.proofs.answer.Answered.{long₁, notes-told, looks-told, index-told, found-told}
use Rattle.names.proofs.answer.answer_noting.Goals as goal
use Rattle.names.proofs.answer.answer_noting.Goals.{After-fill, Start}

-- so many slots
sized : (s : Start) (n : ℕ) → n ≡ slot_count (length (names_in s.args.text.now (entries_in s.args.catalogue.now))) → (n ≤ 33554432) × ((e : ℕ) × (n ≡ 2 ^ e))
sized s n e =
    let m : ℕ = length (names_in s.args.text.now (entries_in s.args.catalogue.now)) in
    (omega (arith, e, slots-few m s.requires.few), (suc (slots-power m).0, e ∙ (slots-power m).1))

refilled : (f : After-fill) → length f.fill.new.slots ≡ slot_count (length (names_in f.args.text.now (entries_in f.args.catalogue.now)))
refilled f =
    long₁ f.args.text.now f.args.catalogue.now f.args.slots.now f.fill.new.slots f.requires.size f.fill.ensures.wrote

pub fill-requires : goal.fill-requires
fill-requires c = let z = sized (goal.at.fill-requires c).Start (length c.args.slots.now) c.requires.size in record {
  slots_len_bound = z.0;
  by_index = z.1;
  catalogue_len_bound = c.requires.short;
}

pub find_slots-looks-requires : goal.find_slots-looks-requires
find_slots-looks-requires c = let z = sized (goal.at.find_slots-looks-requires c).Start (length c.fill.new.slots) (refilled (goal.at.find_slots-looks-requires c).After-fill) in record {
  slots_len_bound = z.0;
  by_index = z.1;
  list_len_bound = c.requires.short-list;
  list_in_bounds = omega (arith, c.requires.room);
}

pub refill-requires : goal.refill-requires
refill-requires c =
    let a = c.args in
    let z = sized (goal.at.refill-requires c).Start (length c.fill.new.slots) (refilled (goal.at.refill-requires c).After-fill) in
    let m = c.requires.count in record {
      slots_len_bound = z.0;
      by_index = z.1;
      catalogue_len_bound = c.requires.short;
      m_bound = omega (arith, m, c.requires.few);
      notes_value = notes-told a.text.now a.catalogue.now a.slots.now c.fill.new.slots c.requires.size c.fill.ensures.wrote a.m m a.notes.now c.fill.new.notes c.fill.ensures.noted;
    }

pub returns : goal.returns
returns c =
    let a = c.args in
    let t = c.args.text.now in
    let k = c.args.catalogue.now in
    let slots₁ = c.fill.new.slots in
    let slots₂ = c.refill.new.slots in
    let told = c.requires.told in record {
      slots = index-told t k a.slots.now slots₁ c.requires.size c.fill.ensures.wrote slots₂ c.refill.ensures.wrote;
      found = found-told t k a.slots.now slots₁ c.requires.size c.fill.ensures.wrote slots₂ c.refill.ensures.wrote told c.requires.few a.list.now a.out.now
          c.find_slots-looks.new.out c.to_ordinals.new.out c.requires.room c.find_slots-looks.ensures.wrote c.to_ordinals.ensures;
      looks = c.find_slots-looks.ensures.looks ∙ looks-told t k a.slots.now slots₁ c.requires.size c.fill.ensures.wrote told (asked a.list.now);
    }
