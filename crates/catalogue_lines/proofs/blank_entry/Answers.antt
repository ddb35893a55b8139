-- `catalogue_lines::blank_entry` meets its contract: the size of an entry is that of its kind.
use mathlib.Core.Path.{sym, ap}
use Rattle.catalogue_entries.specs.Entries.{entry_size}
use Rattle.catalogue_lines.specs.Parts.{own_entry}
use Rattle.catalogue_lines.proofs.blank_entry.Goals as goal

pub returns-in-Refused : goal.returns-in-Refused
unfolding entry_size own_entry
returns-in-Refused c = sym (ap (λ h. entry_size (own_entry 0 h)) c.in-Refused.is)

pub returns-in-Header : goal.returns-in-Header
unfolding entry_size own_entry
returns-in-Header c = sym (ap (λ h. entry_size (own_entry 0 h)) c.in-Header.is)

pub returns-in-ReferenceSequence : goal.returns-in-ReferenceSequence
unfolding entry_size own_entry
returns-in-ReferenceSequence c = sym (ap (λ h. entry_size (own_entry 0 h)) c.in-ReferenceSequence.is)

pub returns-in-ReadGroup : goal.returns-in-ReadGroup
unfolding entry_size own_entry
returns-in-ReadGroup c = sym (ap (λ h. entry_size (own_entry 0 h)) c.in-ReadGroup.is)

pub returns-in-Program : goal.returns-in-Program
unfolding entry_size own_entry
returns-in-Program c = sym (ap (λ h. entry_size (own_entry 0 h)) c.in-Program.is)

pub returns-in-Comment : goal.returns-in-Comment
unfolding entry_size own_entry
returns-in-Comment c = sym (ap (λ h. entry_size (own_entry 0 h)) c.in-Comment.is)
