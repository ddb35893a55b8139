-- `field::version::parse_version` meets its contract: a version is what its two sides are.
use Prim.Native.Nat.{◌+◌, ◌<◌, ◌^◌}
use mathlib.Core.Path.{◌≡◌, sym, ap, ◌∙◌}
use native.Mathlib.Omega.{arith}
use lib.ListN.{length, take, drop}
use lib.Seq.{length-take-le}
use Rattle.format.specs.Decimal.{number}
use Rattle.format.specs.Version.{version, both}
use Rattle.byte_slices.proofs.Lines.{upto_le}
use Rattle.field.specs.Spelled.{parsed_version_of, version_side_of}
use Rattle.std.specs.Prelude.{Some, None}
use Rattle.byte_slices.proofs.Before.{rest}
use Rattle.field.proofs.version.Sides.{version-none, version-sides, no-major, no-minor, major-minor}
use Rattle.field.proofs.version.Refused.{version-told}
use Rattle.field.proofs.version.parse_version.Goals as goal
use Rattle.field.proofs.version.parse_version.Goals.{After-parse_part-2, Else-dot-src}

-- ---- where a dot was found

inside : (c : Else-dot-src) → c.upto-dot.result < length c.args.src.now
inside c = omega (arith, upto_le 46 c.args.src.now, c.upto-dot.ensures, c.if-dot-src.false)

split : (c : Else-dot-src)
    → version c.args.src.now
    ≡ both (number (2 ^ 32) (take c.upto-dot.result c.args.src.now))
    (number (2 ^ 32) (drop (c.upto-dot.result + 1) c.args.src.now))
split c = version-sides c.args.src.now c.upto-dot.result c.upto-dot.ensures (inside c)

pub returns-then-dot-src : goal.returns-then-dot-src
unfolding parsed_version_of
returns-then-dot-src c =
    let told = version-told _ None (sym (ap parsed_version_of (version-none _ (sym c.upto-dot.ensures ∙ c.if-dot-src.true)))) in
    record { is = told.0; refusal = told.1 }

pub slice_bounds-parse_part-end : goal.slice_bounds-parse_part-end
slice_bounds-parse_part-end c = sym (length-take-le _ _ (omega (arith, inside c)))

pub returns-in_err-major : goal.returns-in_err-major
returns-in_err-major c =
    let told = version-told _ c.from_residual.result (c.from_residual.ensures ∙ sym (ap parsed_version_of (split (goal.at.returns-in_err-major c).Else-dot-src) ∙ no-major _ _ (sym c.in_err-major.was ∙ c.parse_part.ensures))) in
    record { is = told.0; refusal = told.1 }

pub overflow_add-dot : goal.overflow_add-dot
overflow_add-dot c = omega (arith, inside (goal.at.overflow_add-dot c).Else-dot-src)

pub slice_bounds-parse_part-count : goal.slice_bounds-parse_part-count
slice_bounds-parse_part-count c = omega (arith, inside (goal.at.slice_bounds-parse_part-count c).Else-dot-src)

pub slice_bounds-parse_part-start : goal.slice_bounds-parse_part-start
slice_bounds-parse_part-start c = omega (arith, inside (goal.at.slice_bounds-parse_part-start c).Else-dot-src)

-- what follows the dot is all that is left
minor : (c : After-parse_part-2)
    → c.parse_part-2.result
    ≡ version_side_of
    (number
    (2 ^ 32)
    (drop
    (c.upto-dot.result + 1)
    c.args.src.now))
minor c =
    c.parse_part-2.ensures ∙ ap (λ l. version_side_of (number (2 ^ 32) l)) (rest (c.upto-dot.result + 1) c.args.src.now)

pub returns-in_err-minor : goal.returns-in_err-minor
returns-in_err-minor c =
    let told = version-told _ c.from_residual-in_err-minor.result (c.from_residual-in_err-minor.ensures ∙ sym (ap parsed_version_of (split (goal.at.returns-in_err-minor c).Else-dot-src) ∙ no-minor _ _ (sym c.in_err-minor.was ∙ minor (goal.at.returns-in_err-minor c).After-parse_part-2))) in
    record { is = told.0; refusal = told.1 }

pub returns : goal.returns
returns c =
    let told = version-told _ (Some c.new.result)
    (ap Some c.new.ensures
    ∙ sym
    (ap parsed_version_of (split (goal.at.returns c).Else-dot-src)
    ∙ major-minor _ _ _ _ (sym c.in_ok-major.was ∙ c.parse_part.ensures) (sym c.in_ok-minor.was ∙ minor (goal.at.returns c).After-parse_part-2))) in
    record { is = told.0; refusal = told.1 }
