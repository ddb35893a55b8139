-- Where measuring meets a name that can't be written, writing is refused with the number and the line of that answer.
use Prim.Native.Nat.{ℕ}
use mathlib.Core.Path.{◌≡◌, sym, ap, ◌∙◌}
use mathlib.Core.Option.{Option, none, some}
use Rattle.format.specs.Calls.{Answer, refused, yes, writing}
use Rattle.lists.proofs.Bools.{never}
use Rattle.tidy_sizes.specs.declared.PerKind.{PerKind}
use Rattle.std.specs.Prelude.{Result}
use Rattle.format.specs.declared.LineNo.{LineNo}
use Rattle.tidy_text.specs.Accepted.{measured_of, measured_answer, MeasuredTold}

told : {A : Type 0} → Answer A → ℕ × ℕ
told (refused n l) = (n, l)
told (yes a) = (0, 0)

pub measured-refused : (o : Option ℕ) (sizes : PerKind) → MeasuredTold o (measured_of o sizes)
unfolding measured_answer measured_of writing told
measured-refused none sizes room n l t e = absurd (never (cc))
measured-refused (some k) sizes room n l t e = ap (λ p. refused p.0 p.1) (ap told e)

-- whatever is answered as it is there
pub measured-told : (o : Option ℕ) (sizes : PerKind) (r : Result PerKind LineNo) → r ≡ measured_of o sizes → (r ≡ measured_of o sizes) × MeasuredTold o r
measured-told o sizes r e = (e, λ room n l t h. measured-refused o sizes room n l t (ap measured_answer (sym e) ∙ h))
