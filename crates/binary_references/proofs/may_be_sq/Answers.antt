-- `binary_references::may_be_sq` meets its contract: a line of fewer than two bytes has no second byte.
use Prim.Native.Nat.{ℕ, ◌<◌}
use mathlib.Core.Path.{◌≡◌, refl, sym}
use mathlib.Core.Bool.{false}
use mathlib.Core.List.{List, [], ◌∷◌}
use native.Mathlib.Omega.{arith}
use lib.ListN.{length}
use Rattle.binary_references.specs.Next.{may_be_sq}
use Rattle.binary_references.proofs.may_be_sq.Goals as goal

short : (s : List ℕ) → length s < 2 → may_be_sq s ≡ false
unfolding may_be_sq
short [] h = refl
short (b ∷ []) h = refl
short (b ∷ c ∷ s) h = absurd (omega arith)

pub returns-then-line-lt2 : goal.returns-then-line-lt2
returns-then-line-lt2 c = sym (short c.args.line.now c.if-line-lt2.true)

pub returns : goal.returns
unfolding may_be_sq
returns c = refl
