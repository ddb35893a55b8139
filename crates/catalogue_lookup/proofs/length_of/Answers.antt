-- `catalogue_lookup::length_of` meets its contract: an SQ has a length, and nothing else.
use mathlib.Core.Path.{sym, ap}
use native.Mathlib.Omega.{arith}
use Rattle.catalogue_lookup.specs.Lookup.{entry_length}
use Rattle.catalogue_lookup.proofs.length_of.Goals as goal

pub returns-in-ReferenceSequence : goal.returns-in-ReferenceSequence
unfolding entry_length
returns-in-ReferenceSequence c = sym (ap entry_length c.in-ReferenceSequence.is)

pub returns-in_default : goal.returns-in_default
unfolding entry_length
returns-in_default c = grind arith
