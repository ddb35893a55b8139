-- How long a version's text is.
use Prim.Native.Nat.{◌+◌}
use mathlib.Core.Path.{◌≡◌}
use mathlib.Core.List.{◌∷◌}
use native.Mathlib.Omega.{arith}
use lib.ListN.{length, length-append}
use Rattle.format.specs.Decimal.{written}
use Rattle.format.specs.declared.Version.{Version}
use Rattle.tidy_parts.specs.Parts.{version_text}

pub version-size : (v : Version) → length (version_text v) ≡ length (written v.major) + 1 + length (written v.minor)
unfolding version_text
version-size v = omega (arith, length-append (written v.major) (46 ∷ written v.minor))
