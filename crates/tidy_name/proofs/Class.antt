-- The law that turns the test over the whole table of classes into the rule at each byte.
use Prim.Native.Nat.{ℕ, ◌<◌}
use native.Mathlib.Nat.{zero-add}
use mathlib.Core.Path.{◌≡◌, subst}
use mathlib.Core.Bool.{true}
use lib.ListN.{get_or}
use borrow.Author.Tests.{eqb-true}
use Rattle.tidy_name.specs.Classes.{class_of}
use Rattle.tidy_name.proofs.Table.{classes, is_class, from, right}

-- the rule at each byte
pub class-at : (b : ℕ) → b < 256 → get_or classes b 0 ≡ class_of b
unfolding classes is_class
class-at b h = eqb-true (get_or classes b 0) (class_of b) (subst (λ m. is_class m (get_or classes b 0) ≡ true) (zero-add b) (from is_class classes 0 b right h))
