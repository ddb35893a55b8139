-- `find::key_place` meets its contract: SQ, RG and PG have a key, and nothing else.
use mathlib.Core.Path.{sym, ap}
use native.Mathlib.Omega.{arith}
use Rattle.find.specs.Keys.{key_place}
use Rattle.find.proofs.key_place.Goals as goal

pub returns-in-ReferenceSequence : goal.returns-in-ReferenceSequence
unfolding key_place
returns-in-ReferenceSequence c = sym (ap key_place c.in-ReferenceSequence.is)

pub returns-in-ReadGroup : goal.returns-in-ReadGroup
unfolding key_place
returns-in-ReadGroup c = sym (ap key_place c.in-ReadGroup.is)

pub returns-in-Program : goal.returns-in-Program
unfolding key_place
returns-in-Program c = sym (ap key_place c.in-Program.is)

pub returns-in_default : goal.returns-in_default
unfolding key_place
returns-in_default c = grind arith
