-- How long a refusal's line is, and that five writes make it.
use Prim.Native.Nat.{ℕ, ◌+◌, ◌≤◌}
use mathlib.Core.Path.{◌≡◌, refl}
use mathlib.Core.List.{List, [], ◌∷◌, ◌++◌}
use native.Mathlib.Omega.{arith}
use lib.ListN.{length, set, length-append}
use Rattle.format.specs.Decimal.{written}
use Rattle.decimal.proofs.Written.{written-short}
use Rattle.tidy_parts.proofs.Wrote.{Wrote, wrote_then, wrote_one}
use Rattle.format.specs.Program.{spelled_refused, spelled_line, refusal}

pub refusal-size : (n l : ℕ) → length (refusal n l) ≡ 8 + length (written n) + 6 + length (written l) + 1
unfolding refusal spelled_refused spelled_line
refusal-size n l =
    omega (
      arith,
      length-append (spelled_refused ++ written n ++ spelled_line ++ written l) (10 ∷ []),
      length-append (spelled_refused ++ written n ++ spelled_line) (written l),
      length-append (spelled_refused ++ written n) spelled_line,
      length-append spelled_refused (written n),
    )

-- any refusal fits 55 bytes
pub refusal-fits : (n l room : ℕ) → 55 ≤ room → length (refusal n l) ≤ room
refusal-fits n l room h = omega (arith, refusal-size n l, written-short n, written-short l)

-- the word, the number, the word, the line and the LF, each written after the one before
module _ (out : List ℕ) (n l : ℕ) (room : length (refusal n l) ≤ length out) where
  pub refusal-wrote : (a b c d : List ℕ) (p q : ℕ) → Wrote out 0 a 8 spelled_refused → Wrote a 8 b p (written n) → Wrote b p c (p + 6) spelled_line → Wrote c (p + 6) d q (written l) → length d ≡ length out
      → Wrote out 0 (set d q 10) (q + 1) (refusal n l)
  unfolding refusal
  refusal-wrote a b c d p q e f g h same =
      let size = refusal-size n l in
      let two = length-append spelled_refused (written n) in
      let three = length-append (spelled_refused ++ written n) spelled_line in
      let four = length-append (spelled_refused ++ written n ++ spelled_line) (written l) in
      let x = wrote_then out 0 a 8 b p spelled_refused (written n) e f (omega arith) in
      let y = wrote_then out 0 b p c (p + 6) (spelled_refused ++ written n) spelled_line x g (omega arith) in
      let z = wrote_then out 0 c (p + 6) d q (spelled_refused ++ written n ++ spelled_line) (written l) y h (omega arith) in
      wrote_then out 0 d q (set d q 10) (q + 1) (spelled_refused ++ written n ++ spelled_line ++ written l) (10 ∷ []) z (refl, wrote_one d q 10 (omega arith)) (omega arith)
