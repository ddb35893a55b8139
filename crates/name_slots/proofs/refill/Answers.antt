-- `name_slots::refill` meets its contract: ordinals at the slots that are noted, or filled anew.
use Prim.Native.Nat.{ℕ}
use mathlib.Core.Path.{sym, ap, ap₂, ◌∙◌}
use mathlib.Core.Bool.{true, cond}
use native.Mathlib.Omega.{arith}
use borrow.Author.Tests.{lt-ltb, le-ltb}
use lib.ListN.{length, replicate, length-take}
use lib.Seq.{length-take-le}
use Rattle.catalogue_entries.specs.Entries.{entries_in}
use Rattle.name_slots.specs.Filled.{with_ordinals, noted_anew}
use Rattle.name_slots.proofs.Noted.{numbered-seats}
use Rattle.name_slots.proofs.refill.Goals as goal

pub returns-then-notes-m : goal.returns-then-notes-m
returns-then-notes-m c =
    let a = c.args in record {
      wrote = c.fill.ensures.wrote;
      noted = c.fill.ensures.noted
          ∙ sym (ap (λ b. cond b (noted_anew true a.text.now a.catalogue.now a.slots.now a.notes.now) a.notes.now) (lt-ltb (length a.notes.now) a.m c.if-notes-m.true));
    }

pub slice_bounds-put_ordinals-end-2 : goal.slice_bounds-put_ordinals-end-2
slice_bounds-put_ordinals-end-2 c =
    sym (length-take-le _ c.args.notes.now c.if-notes-m.false)

pub put_ordinals-requires : goal.put_ordinals-requires
put_ordinals-requires c =
    omega (arith, length-take c.args.m c.args.notes.now, c.requires.m_bound)

pub returns : goal.returns
returns c =
    let a = c.args in
    let t = c.args.text.now in
    let es = entries_in a.catalogue.now in
    let empty = replicate {A = ℕ} (length a.slots.now) 0 in record {
      wrote = c.put_ordinals.ensures
          ∙ ap₂ (with_ordinals 0) (c.requires.notes_value c.if-notes-m.false) c.clear.ensures
          ∙ numbered-seats t 0 es empty;
      noted = sym (ap (λ b. cond b (noted_anew true t a.catalogue.now a.slots.now a.notes.now) a.notes.now) (le-ltb (length a.notes.now) a.m c.if-notes-m.false));
    }
