-- `catalogue_lookup::line_of` meets its contract: one arm for each entry of a record.
use mathlib.Core.Path.{sym, ap}
use native.Mathlib.Omega.{arith}
use Rattle.catalogue_lookup.specs.Lookup.{entry_line}
use Rattle.catalogue_lookup.proofs.line_of.Goals as goal

pub returns-in-Header : goal.returns-in-Header
unfolding entry_line
returns-in-Header c = sym (ap entry_line c.in-Header.is)

pub returns-in-ReferenceSequence : goal.returns-in-ReferenceSequence
unfolding entry_line
returns-in-ReferenceSequence c = sym (ap entry_line c.in-ReferenceSequence.is)

pub returns-in-ReadGroup : goal.returns-in-ReadGroup
unfolding entry_line
returns-in-ReadGroup c = sym (ap entry_line c.in-ReadGroup.is)

pub returns-in-Program : goal.returns-in-Program
unfolding entry_line
returns-in-Program c = sym (ap entry_line c.in-Program.is)

pub returns-in-Comment : goal.returns-in-Comment
unfolding entry_line
returns-in-Comment c = sym (ap entry_line c.in-Comment.is)

pub returns-in_default : goal.returns-in_default
unfolding entry_line
returns-in_default c = grind arith
