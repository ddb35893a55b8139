-- `read_admission::programs_of` meets its contract: a program counts, and nothing else.
use Prim.Native.Nat.{ℕ}
use mathlib.Core.Path.{◌≡◌, refl, sym, ap}
use mathlib.Core.List.{[], ◌∷◌}
use denote.Enum.Declared.{tag_of}
use types.Run.{OneOf, miss}
use Rattle.record.specs.contracts.Head.{the_type}
use Rattle.record.specs.declared.Head.{Head}
use Rattle.record.specs.declared.Head.TheVariants as head
use Rattle.read_admission.specs.Admission.{programs_of}
use native.Mathlib.Omega.{arith}
use Rattle.read_admission.proofs.programs_of.Goals as goal

pub returns-in-Program : goal.returns-in-Program
unfolding programs_of
returns-in-Program c = sym (ap programs_of c.in-Program.is)

pub returns-in_default : goal.returns-in_default
unfolding programs_of
returns-in_default c = grind arith
