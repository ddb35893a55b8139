-- `program_lines::narrow` meets its contract.
use mathlib.Core.Path.{refl}
use Rattle.program_lines.specs.Found.{place_of}
use Rattle.program_lines.proofs.narrow.Goals as goal

pub returns : goal.returns
unfolding place_of
returns c = refl
