-- `tidy_name::is_name` meets its contract: the name at the front is all of the bytes.
use Prim.Native.Nat.{ℕ}
use mathlib.Core.Path.{◌≡◌, refl, sym, ap, ◌∙◌}
use mathlib.Core.Bool.{false, not}
use borrow.Author.Tests.{eqb-true}
use Rattle.std.proofs.lemmas.Bool.{eqb-false}
use Rattle.std.proofs.Common.{◌≢◌}
use mathlib.Core.List.{List, [], ◌∷◌}
use native.Mathlib.Omega.{arith}
use lib.ListN.{length}
use lib.Dec.{eqb}
use Rattle.format.specs.Tidy.{is_name}
use Rattle.tidy_name.proofs.Runs.{name-whole}
use Rattle.tidy_name.proofs.is_name.Goals as goal

empty : (s : List ℕ) → length s ≡ 0 → false ≡ is_name s
unfolding is_name
empty [] h = refl
empty (b ∷ s) h = absurd (omega arith)

pub returns-then-not-is_empty : goal.returns-then-not-is_empty
returns-then-not-is_empty c =
    let s = c.args.s.now in
    let l : length s ≢ 0 = eqb-false (length s) 0 (sym c.is_empty.ensures ∙ c.if-not-is_empty.true) in
    ap (λ n. eqb n (length s)) c.name_len.ensures ∙ name-whole s (omega (arith, l))

pub returns-else-not-is_empty : goal.returns-else-not-is_empty
returns-else-not-is_empty c =
    let e = c.if-not-is_empty.false in
    ap not e ∙ empty _ (eqb-true _ _ (sym c.is_empty.ensures ∙ e))
