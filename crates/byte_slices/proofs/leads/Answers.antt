-- `byte_slices::leads` meets its contract: the list is empty, or it starts with its first byte.
use Prim.Native.Nat.{ℕ}
use mathlib.Core.Path.{◌≡◌, refl, sym, ap, ◌∙◌}
use mathlib.Core.List.{List, [], ◌∷◌}
use denote.Bor.{Bor}
use lib.Dec.{eqb}
use Rattle.std.specs.Prelude.{Option, None, Some}
use Rattle.std.specs.List.{slice_get}
use Rattle.std.specs.Option.{option_eq, option_copied}
use Rattle.std.proofs.lemmas.Option.{none-some, same_Some}
use Rattle.byte_slices.specs.Upto.{leads}
use Rattle.byte_slices.proofs.leads.Goals as goal

-- what std finds in front is compared
first : (s : List ℕ) (o : Option (Bor ℕ)) (b : Bor ℕ) → option_copied o ≡ slice_get s 0 → option_eq (λ x y. eqb x.now y.now) o (Some b) ≡ leads b.now s
unfolding leads
first [] None b h = refl
first [] (Some x) b h = absurd (none-some x.now (sym h))
first (c ∷ s) None b h = absurd (none-some c h)
first (c ∷ s) (Some x) b h = ap (λ k. eqb k b.now) (same_Some x.now c h)

pub returns : goal.returns
returns c = c.eq.ensures ∙ first c.args.s.now c.first.result _ c.first.ensures.value
