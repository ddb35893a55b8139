-- What a reader may ask of the padding: a message of b bytes becomes ⌈(b + 1) / 8⌉ whole words, as the paper has it.
use Rattle.std.proofs.Common.{◌≡◌, ℕ, ◌+◌, ◌-◌, ◌*◌, ◌/◌, ◌%◌, List, [], ◌∷◌, ◌++◌, length, replicate, arith, length-append}
use lib.ListN.{length-replicate}
use Rattle.format.specs.SipHash.{pad}

pub pad-length : (s : List ℕ) → length (pad s) ≡ 8 * ((length s + 1 + 7) / 8)
unfolding pad
pad-length s =
    let z : List ℕ = replicate (7 - length s % 8) 0 in
    let b : List ℕ = length s % 256 ∷ [] in
    omega (arith, length-append s (z ++ b), length-append z b, length-replicate {A = ℕ} (7 - length s % 8) 0)
