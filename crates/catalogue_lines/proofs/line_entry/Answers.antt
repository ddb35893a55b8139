-- `catalogue_lines::line_entry` meets its contract: the head by the keys is the line's, and its numbers fit.
use mathlib.Core.Path.{◌≡◌, sym, ap, subst, ◌∙◌}
use borrow.Author.Rules.{rules}
use Rattle.record.specs.Head.{head_of}
use Rattle.catalogue_entries.specs.Entries.{FitsEntry}
use Rattle.format.specs.Records.{line}
use Rattle.catalogue_lines.specs.Parts.{own_entry}
use Rattle.catalogue_lines.proofs.LineEntries.{own-uncounted, own-fits}
use mathlib.Core.Bool.{false}
use Rattle.catalogue_lines.proofs.line_entry.Goals as goal
use Rattle.catalogue_lines.proofs.line_entry.Goals.{After-head_of}

-- the entry of the head is the line's
told : (c : After-head_of) → (let a = c.args in own_entry a.number c.head_of.result ≡ own_entry a.number (head_of (line false (record { at = a.at; bytes = a.src.now }))))
told c = let n = c.args.number in ap (own_entry n) c.head_of.ensures ∙ own-uncounted n _

pub own_entry-requires : goal.own_entry-requires
own_entry-requires c = subst FitsEntry (sym (told c)) (own-fits c.args.number c.args.at c.args.src.now c.requires.line_of.accepted (search rules) c.requires.line_of.short)

pub returns : goal.returns
returns c = c.own_entry.ensures ∙ told (goal.at.returns c).After-head_of
