-- `tidy_sizes::PerKind::new` meets its contract.
use mathlib.Core.Path.{refl}
use Rattle.tidy_sizes.specs.Numbers.{no_bytes}
use Rattle.tidy_sizes.proofs.PerKind.new.Goals as goal

pub returns : goal.returns
unfolding no_bytes
returns c = refl
