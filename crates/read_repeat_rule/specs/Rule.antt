-- The rule for repeated tags, one line further.
use Rattle.std.specs.Prelude.{Bool}
use Rattle.std.proofs.Math.Option.{Option, none, some}
use Rattle.format.specs.Reading.{is_strict}
use Rattle.format.specs.declared.Version.{Version}

-- whether they are forbidden, given whether they were before: a version that a line announces decides
unfoldable pub strict_after : Bool → Option Version → Bool
unfolding is_strict
strict_after strict none = strict
strict_after strict (some v) = is_strict (some v)
