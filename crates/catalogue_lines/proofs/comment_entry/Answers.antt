-- `catalogue_lines::comment_entry` meets its contract: nothing follows the own entry.
use mathlib.Core.Path.{sym, ap, ◌∙◌}
use mathlib.Core.List.{append-nil}
use Rattle.accepted_line.specs.Next.{or_value}
use Rattle.accepted_line.specs.Keys.{last_key, last_number, keys_from, keys_in}
use Rattle.catalogue_entries.specs.Entries.{entry_bytes}
use Rattle.catalogue_lines.proofs.LineEntries.{comment-bytes}
use Rattle.catalogue_lines.proofs.comment_entry.Goals as goal

pub line_entry-requires : goal.line_entry-requires
unfolding keys_in keys_from last_key last_number or_value
line_entry-requires c = record {
  line_of = c.requires;
  keys_value = c.new.ensures;
}

pub returns : goal.returns
returns c =
    ap entry_bytes c.line_entry.ensures ∙ sym (comment-bytes c.args.number c.args.at c.args.src.now c.requires.accepted c.requires.kind ∙ append-nil _)
