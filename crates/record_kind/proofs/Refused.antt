-- Where no kind is read, the line is refused with the number of that answer.
use Prim.Native.Nat.{ℕ, suc, ◌+◌}
use mathlib.Core.Path.{◌≡◌, sym, ap, ◌∙◌}
use mathlib.Core.List.{List, [], ◌∷◌}
use mathlib.Core.Option.{Option, none, some}
use native.Mathlib.Omega.{arith}
use Rattle.format.specs.declared.Kind.{Kind}
use Rattle.format.specs.Records.{refused_line, kind_of, bodied, kinded}
use Rattle.std.specs.Prelude.{Result}
use Rattle.record_kind.specs.declared.KindError.{KindError}
use Rattle.record_kind.specs.Kind.{parsed_kind_of, kind_at, kind_refusal, KindTold}

pub kind-refused : (s : List ℕ) → KindTold s (kind_at s)
unfolding kind_refusal parsed_kind_of kind_at bodied kinded
kind-refused [] strict at n e = ap refused_line e
kind-refused (a ∷ []) strict at n e = ap refused_line e
kind-refused (a ∷ b ∷ s) strict at n e = go (kind_of a b) e
  where
    go : (o : Option Kind) → kind_refusal (parsed_kind_of o) ≡ suc n → bodied strict (at + 2) s o ≡ refused_line (suc n)
    go none e = ap refused_line e
    go (some k) e = absurd (omega (arith, e))

-- whatever is answered as it is there
pub kind-told : (s : List ℕ) (r : Result Kind KindError) → r ≡ kind_at s → (r ≡ kind_at s) × KindTold s r
kind-told s r e = (e, λ strict at n h. kind-refused s strict at n (ap kind_refusal (sym e) ∙ h))
