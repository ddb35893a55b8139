-- `catalogue_lookup::key_of` meets its contract: one arm for each entry that has a key.
use mathlib.Core.Path.{sym, ap}
use native.Mathlib.Omega.{arith}
use Rattle.catalogue_lookup.specs.Lookup.{entry_key}
use Rattle.catalogue_lookup.proofs.key_of.Goals as goal

pub returns-in-ReferenceSequence : goal.returns-in-ReferenceSequence
unfolding entry_key
returns-in-ReferenceSequence c = sym (ap entry_key c.in-ReferenceSequence.is)

pub returns-in-ReadGroup : goal.returns-in-ReadGroup
unfolding entry_key
returns-in-ReadGroup c = sym (ap entry_key c.in-ReadGroup.is)

pub returns-in-Program : goal.returns-in-Program
unfolding entry_key
returns-in-Program c = sym (ap entry_key c.in-Program.is)

pub returns-in_default : goal.returns-in_default
unfolding entry_key
returns-in_default c = grind arith
