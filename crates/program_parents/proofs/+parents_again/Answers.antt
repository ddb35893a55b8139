-- The cycle of calls {parents_again}: what is gathered from a text's own catalogue is what its programs are.
use Prim.Native.Nat.{ℕ}
use mathlib.Core.Path.{◌≡◌, ap, ◌∙◌}
use Rattle.format.specs.Catalogue.{catalogue}
use Rattle.format.specs.Programs.{programs}
use Rattle.accepted.specs.Read.{records_of}
use Rattle.catalogue_entries.specs.Entries.{entries_in}
use Rattle.program_places.specs.declared.Programs.{Programs}
use Rattle.program_places.specs.Gathered.{noted_in, programs_in, gathered_of}
use Rattle.program_parents.proofs.Own.{text-placed, text-places}
use Rattle.program_parents.proofs.Opened.{few-entries}
use Rattle.program_parents.proofs.+parents_again.Goals as goal
use Rattle.program_parents.proofs.+parents_again.Goals.{After-gather-count}

-- what is gathered is what the programs are
abbrev held : (t : ℕ) → After-gather-count t → Programs
held t c = let n = c.gather-count.new in programs_in n.ats n.lens n.from n.widths c.gather-count.result

own : (t : ℕ) (c : After-gather-count t) → held t c ≡ gathered_of (noted_in (entries_in (catalogue (records_of c.args.text.now))))
own t c = c.gather-count.ensures ∙ ap (λ s. gathered_of (noted_in (entries_in s))) c.requires.catalogue_value

pub gather-count-requires-clause-catalogue_bound : goal.gather-count-requires-clause-catalogue_bound
gather-count-requires-clause-catalogue_bound t c = few-entries c.args.text.now c.args.catalogue.now c.requires.text_value c.requires.catalogue_value

pub find_parents-requires : goal.find_parents-requires
find_parents-requires t c =
    let g = (goal.at.find_parents-requires t c).After-gather-count in
    text-places c.args.text.now c.requires.text_value (held t g) (own t g)

pub returns : goal.returns
returns t c =
    let g = (goal.at.returns t c).After-gather-count in
    c.find_parents.ensures (programs (records_of c.args.text.now)) (text-placed c.args.text.now c.requires.text_value (held t g) (own t g))
