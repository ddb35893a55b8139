-- `record_kind::parse_kind` meets its contract: no byte, one byte, or two, which `kind_of` judges.
use Prim.Native.Nat.{ℕ, ◌<◌}
use mathlib.Core.Path.{◌≡◌, refl, ◌∙◌}
use mathlib.Core.List.{List, [], ◌∷◌}
use native.Mathlib.Omega.{arith}
use lib.ListN.{length, get_or}
use Rattle.format.specs.Records.{kind_of}
use Rattle.std.specs.Prelude.{Err}
use Rattle.record_kind.specs.declared.KindError.TheVariants.{Empty, Invalid}
use Rattle.record_kind.specs.Kind.{kind_at, parsed_kind_of}
use Rattle.record_kind.proofs.Refused.{kind-told}
use Rattle.record_kind.proofs.parse_kind.Goals as goal

none : (s : List ℕ) → length s ≡ 0 → Err Empty ≡ kind_at s
unfolding kind_at
none [] h = refl
none (a ∷ s) h = absurd (omega arith)

one : (s : List ℕ) → length s ≡ 1 → Err Invalid ≡ kind_at s
unfolding kind_at
one [] h = absurd (omega arith)
one (a ∷ []) h = refl
one (a ∷ b ∷ s) h = absurd (omega arith)

two : (s : List ℕ) → 1 < length s → parsed_kind_of (kind_of (get_or s 0 0) (get_or s 1 0)) ≡ kind_at s
unfolding kind_at
two [] h = absurd (omega arith)
two (a ∷ []) h = absurd (omega arith)
two (a ∷ b ∷ s) h = refl

pub returns-in-empty : goal.returns-in-empty
returns-in-empty c =
    let told = kind-told _ (Err Empty) (none _ (omega (arith, c.in-empty))) in
    record { is = told.0; refusal = told.1 }

pub returns-in-len1 : goal.returns-in-len1
returns-in-len1 c =
    let told = kind-told _ (Err Invalid) (one _ (omega (arith, c.in-len1))) in
    record { is = told.0; refusal = told.1 }

pub returns-in-len2-up : goal.returns-in-len2-up
returns-in-len2-up c =
    let s = c.args.src.now in
    let told = kind-told s c.kind_of.result (c.kind_of.ensures ∙ two s (omega arith)) in
    record { is = told.0; refusal = told.1 }
