-- The answer of reading the front of a line: the byte that must be there, and the kind.
use Rattle.std.specs.Prelude.{ℕ, suc, ◌≡◌, Bool, List, [], ◌∷◌, Result, Ok, Err}
use Rattle.std.proofs.Math.Option.{Option, none, some}
use Rattle.format.specs.declared.Kind.{Kind}
use Rattle.format.specs.Records.{refused_line, kind_of, kinded}
use Rattle.record_kind.specs.declared.KindError.{KindError}
use Rattle.record_kind.specs.declared.KindError.TheVariants.{Empty, Invalid}

unfoldable pub parsed_kind_of : Option Kind → Result Kind KindError
parsed_kind_of none = Err Invalid
parsed_kind_of (some k) = Ok k

-- after the `@`: no byte, one byte or an unknown kind, or a kind
unfoldable pub kind_at : List ℕ → Result Kind KindError
unfolding parsed_kind_of kind_of
kind_at [] = Err Empty
kind_at (a ∷ []) = Err Invalid
kind_at (a ∷ b ∷ s) = parsed_kind_of (kind_of a b)

-- the refusal of each answer, and 0 for a kind
unfoldable pub kind_refusal : Result Kind KindError → ℕ
kind_refusal (Err Empty) = 4
kind_refusal (Err Invalid) = 5
kind_refusal (Ok k) = 0

-- a line for whose kind bytes, at the front of `s`, `r` is the answer: if that is a refusal, the line is refused with its number
abbrev pub KindTold : List ℕ → Result Kind KindError → Type 0
KindTold s r = (strict : Bool) (at n : ℕ) → kind_refusal r ≡ suc n → kinded strict at s ≡ refused_line (suc n)
