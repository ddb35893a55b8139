-- What must hold of the two calls together.
use Rattle.std.specs.Prelude.{ℕ, ◌≡◌, List}
use Rattle.format.specs.Calls.{yes, tidying}
use Rattle.format.specs.Binary.{binary_out, binary_in}

-- reading in what was written out gives the tidy text back, for every text and output, and for every room of `binary_in`
unfoldable pub InAfterOut : Type 0
unfolding binary_out binary_in tidying
InAfterOut = (text bytes : List ℕ) (room more : ℕ) → binary_out text room ≡ yes bytes → binary_in bytes more ≡ tidying text more
