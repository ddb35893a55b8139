-- The cycle of calls {list_again}: what is listed is where the IDs of the text's programs are.
use Prim.Native.Nat.{ℕ}
use mathlib.Core.Path.{◌≡◌, sym, ap, ◌∙◌}
use native.Mathlib.Omega.{arith}
use Rattle.format.specs.Catalogue.{catalogue}
use Rattle.format.specs.Programs.{programs}
use Rattle.accepted.specs.Read.{records_of}
use Rattle.catalogue_entries.specs.Entries.{entries_in}
use Rattle.program_places.specs.declared.Programs.{Programs}
use Rattle.program_places.specs.Gathered.{noted_in, programs_in, gathered_of}
use Rattle.program_parents.specs.Placed.{PlacesOf}
use Rattle.program_parents.proofs.Own.{own-ats, own-lens, ats-inside, lens-inside, own-placed, own_room, text-placed, text-listed}
use Rattle.program_parents.proofs.Opened.{few-entries}
use Rattle.program_parents.proofs.+list_again.Goals as goal
use Rattle.program_parents.proofs.+list_again.Goals.{After-gather-count}

-- ---- what is gathered is what the programs are

abbrev held : (t : ℕ) → After-gather-count t → Programs
held t c = let n = c.gather-count.new in programs_in n.ats n.lens n.from n.widths c.gather-count.result

own : (t : ℕ) (c : After-gather-count t) → held t c ≡ gathered_of (noted_in (entries_in (catalogue (records_of c.args.text.now))))
own t c = c.gather-count.ensures ∙ ap (λ s. gathered_of (noted_in (entries_in s))) c.requires.catalogue_value

placed : (t : ℕ) (c : After-gather-count t) → PlacesOf c.args.text.now (programs (records_of c.args.text.now)) (held t c)
placed t c = text-placed c.args.text.now c.requires.text_value (held t c) (own t c)

pub gather-count-requires-clause-catalogue_bound : goal.gather-count-requires-clause-catalogue_bound
gather-count-requires-clause-catalogue_bound t c = few-entries c.args.text.now c.args.catalogue.now c.requires.text_value c.requires.catalogue_value

pub slice_bounds-ats-end : goal.slice_bounds-ats-end
slice_bounds-ats-end t c = ats-inside _ _ _ (placed t (goal.at.slice_bounds-ats-end t c).After-gather-count)

pub slice_bounds-list_ids-end : goal.slice_bounds-list_ids-end
slice_bounds-list_ids-end t c = sym (own-ats _ _ _ (placed t (goal.at.slice_bounds-list_ids-end t c).After-gather-count))

pub slice_bounds-lens-end : goal.slice_bounds-lens-end
slice_bounds-lens-end t c = lens-inside _ _ _ (placed t (goal.at.slice_bounds-lens-end t c).After-gather-count)

pub slice_bounds-list_ids-end-2 : goal.slice_bounds-list_ids-end-2
slice_bounds-list_ids-end-2 t c = sym (own-lens _ _ _ (placed t (goal.at.slice_bounds-list_ids-end-2 t c).After-gather-count))

pub list_ids-requires : goal.list_ids-requires
list_ids-requires t c =
    let p = placed t (goal.at.list_ids-requires t c).After-gather-count in record {
      places_in_text = own-placed _ _ _ p;
      ats_in_bounds = omega (arith, own_room _ _ _ p, c.requires.in_bounds);
    }

pub returns : goal.returns
returns t c =
    let g = (goal.at.returns t c).After-gather-count in
    text-listed c.args.text.now c.requires.text_value (held t g) (own t g) c.args.ids.now c.list_ids.new.list c.requires.in_bounds c.list_ids.ensures
