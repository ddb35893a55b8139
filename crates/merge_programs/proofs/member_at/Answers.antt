-- `merge_programs::member_at` meets its contract.
use mathlib.Core.Path.{refl}
use Rattle.merge_programs.specs.Members.{member_of}
use Rattle.merge_programs.proofs.member_at.Goals as goal

pub returns : goal.returns
unfolding member_of
returns c = refl
