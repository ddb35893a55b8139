-- What sealing leaves in the caller's 32 bytes.
use Rattle.std.specs.Prelude.{ℕ, List}
use Rattle.format.specs.Calls.{Answer, refused, yes}

-- the seal replaces them; a refusal leaves them
unfoldable pub seal_left : Answer (List ℕ) → List ℕ → List ℕ
seal_left (refused n l) old = old
seal_left (yes s) old = s
