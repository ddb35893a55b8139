-- `accepted_line::fields::has_no_repeat` meets its contract.
use Prim.Native.Nat.{ℕ}
use mathlib.Core.Path.{◌≡◌, refl, ◌∙◌}
use mathlib.Core.List.{List, [], ◌∷◌}
use native.Mathlib.Omega.{arith}
use lib.ListN.{length}
use lib.Dec.{eqb}
use borrow.Author.Tests.{ne_eqb}
use Rattle.format.specs.Bytes.{none?}
use Rattle.accepted_line.proofs.fields.has_no_repeat.Goals as goal

empty : (t : List ℕ) → eqb (length t) 0 ≡ none? t
unfolding none?
empty [] = refl
empty (x ∷ t) = ne_eqb (length (x ∷ t)) 0 (λ e. absurd (omega (arith, e)))

pub returns : goal.returns
returns c = c.is_empty.ensures ∙ empty _
