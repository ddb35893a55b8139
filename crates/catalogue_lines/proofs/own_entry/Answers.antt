-- `catalogue_lines::own_entry` meets its contract: the numbers of the entry fit, so that none is cut.
use mathlib.Core.Path.{sym, ap, subst}
use Rattle.catalogue_entries.specs.Entries.{FitsEntry}
use Rattle.catalogue_lines.specs.Parts.{own_entry}
use Rattle.catalogue_lines.proofs.own_entry.Goals as goal

pub narrow-requires : goal.narrow-requires
unfolding FitsEntry own_entry
narrow-requires c = (subst (λ h. FitsEntry (own_entry c.args.number h)) c.in-ReferenceSequence.is c.requires).0

pub narrow-requires-in-ReadGroup : goal.narrow-requires-in-ReadGroup
unfolding FitsEntry own_entry
narrow-requires-in-ReadGroup c = (subst (λ h. FitsEntry (own_entry c.args.number h)) c.in-ReadGroup.is c.requires).0

pub narrow-requires-in-Program : goal.narrow-requires-in-Program
unfolding FitsEntry own_entry
narrow-requires-in-Program c = (subst (λ h. FitsEntry (own_entry c.args.number h)) c.in-Program.is c.requires).0

pub narrow-requires-in-Comment : goal.narrow-requires-in-Comment
unfolding FitsEntry own_entry
narrow-requires-in-Comment c = (subst (λ h. FitsEntry (own_entry c.args.number h)) c.in-Comment.is c.requires).0

pub returns-in-Refused : goal.returns-in-Refused
unfolding own_entry
returns-in-Refused c = sym (ap (own_entry _) c.in-Refused.is)

pub returns-in-Header : goal.returns-in-Header
unfolding own_entry
returns-in-Header c = sym (ap (own_entry _) c.in-Header.is)

pub returns-in-ReferenceSequence : goal.returns-in-ReferenceSequence
unfolding own_entry
returns-in-ReferenceSequence c = rw c.narrow.ensures (sym (ap (own_entry _) c.in-ReferenceSequence.is))

pub returns-in-ReadGroup : goal.returns-in-ReadGroup
unfolding own_entry
returns-in-ReadGroup c = rw c.narrow-in-ReadGroup.ensures (sym (ap (own_entry _) c.in-ReadGroup.is))

pub returns-in-Program : goal.returns-in-Program
unfolding own_entry
returns-in-Program c = rw c.narrow-in-Program.ensures (sym (ap (own_entry _) c.in-Program.is))

pub returns-in-Comment : goal.returns-in-Comment
unfolding own_entry
returns-in-Comment c = rw c.narrow-in-Comment.ensures (sym (ap (own_entry _) c.in-Comment.is))
