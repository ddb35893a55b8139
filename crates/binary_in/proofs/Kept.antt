-- The text part without the zero bytes at its end.
use Prim.Native.Nat.{ℕ, ◌+◌, ◌-◌, ◌≤◌}
use mathlib.Core.Path.{◌≡◌, sym, ap, ◌∙◌}
use mathlib.Core.List.{List}
use native.Mathlib.Omega.{arith}
use lib.ListN.{length, take, drop, length-drop}
use lib.Seq.{length-take-le, take-take}
use Rattle.format.specs.Binary.{unpadded}
use Rattle.binary_parts.proofs.Unpadded.{unpadded-within, unpadded-is}

module _ (s : List ℕ) (at len kept : ℕ) (h : at + len ≤ length s) (k : kept ≡ length (unpadded (take (at + len - at) (drop at s)))) where
  padded : List ℕ
  padded = take len (drop at s)

  kept-length : kept ≡ length (unpadded padded)
  unfolding padded
  kept-length = let z : at + len - at ≡ len = omega arith in k ∙ ap (λ n. length (unpadded (take n (drop at s)))) z

  pub kept-within : kept ≤ len
  unfolding padded
  kept-within =
      let z : length padded ≡ len = length-take-le len (drop at s) (omega (arith, length-drop at s)) in
      omega (arith, kept-length, unpadded-within padded, z)

  pub kept-is : take (at + kept - at) (drop at s) ≡ unpadded (take len (drop at s))
  unfolding padded
  kept-is =
      let z : at + kept - at ≡ kept = omega arith in
      ap (λ n. take n (drop at s)) z ∙ sym (take-take kept len (drop at s) kept-within)
      ∙ ap (λ n. take n padded) kept-length ∙ sym (unpadded-is padded)
