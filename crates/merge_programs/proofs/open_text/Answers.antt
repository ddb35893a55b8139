-- `merge_programs::open_text` meets its contract: what is gathered from the lines is what is gathered from the catalogue.
use mathlib.Core.Path.{◌≡◌, ap, ◌∙◌}
use Rattle.format.specs.Catalogue.{catalogue}
use Rattle.format.specs.Programs.{programs, links}
use Rattle.accepted.specs.Read.{records_of}
use Rattle.accepted.proofs.Read.{accepted-reads}
use Rattle.catalogue_entries.specs.Entries.{entries_in}
use Rattle.program_places.specs.Gathered.{noted_in, gathered_of}
use Rattle.program_parents.specs.Parents.{parents_of}
use Rattle.program_parents.specs.Placed.{PlacesOf}
use Rattle.program_parents.proofs.Own.{few-programs, text-placed, text-places}
use Rattle.program_lines.proofs.Same.{same-gathered}
use Rattle.merge_programs.proofs.open_text.Goals as goal
use Rattle.merge_programs.proofs.open_text.Goals.{After-gather-gathered, After-parents_in-parents}

-- what is gathered from the lines is what is gathered from the catalogue
gathers : (g : After-gather-gathered) → let t = g.args.text.now in g.gather-gathered.result.programs ≡ gathered_of (noted_in (entries_in (catalogue (records_of t))))
gathers g =
    let t = g.args.text.now in
    g.gather-gathered.ensures.programs ∙ ap gathered_of (same-gathered g.args.strict t (records_of t) (accepted-reads t g.requires.text_value) g.requires.reads_by)

placed : (g : After-gather-gathered) → let t = g.args.text.now in PlacesOf t (programs (records_of t)) g.gather-gathered.result.programs
placed g = text-placed g.args.text.now g.requires.text_value g.gather-gathered.result.programs (gathers g)

pub parents_in-parents-requires : goal.parents_in-parents-requires
parents_in-parents-requires c =
    text-places c.args.text.now c.requires.text_value c.gather-gathered.result.programs (gathers (goal.at.parents_in-parents-requires c).After-gather-gathered)

-- the parents are those of the text's programs
found : (c : After-parents_in-parents) → let t = c.args.text.now in c.parents_in-parents.result ≡ parents_of (links (programs (records_of t)))
found c =
    c.parents_in-parents.ensures (programs (records_of c.args.text.now)) (placed (goal.at.After-parents_in-parents c).After-gather-gathered)

pub tangle-tangle-requires : goal.tangle-tangle-requires
tangle-tangle-requires c =
    record { ps = programs (records_of c.args.text.now); few = few-programs c.args.text.now c.requires.text_value; is = found (goal.at.tangle-tangle-requires c).After-parents_in-parents }

pub returns : goal.returns
returns c =
    let t = c.args.text.now in
    record {
      accepted = c.requires.text_value;
      rule = c.requires.reads_by;
      refusal = c.tangle-tangle.ensures (programs (records_of t)) (few-programs t c.requires.text_value) (found (goal.at.returns c).After-parents_in-parents);
      lines_are = c.gather-gathered.ensures.lines;
      parents-are = found (goal.at.returns c).After-parents_in-parents;
    }
