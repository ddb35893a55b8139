-- The part of a line that a callee is lent for a key or a comment.
use Prim.Native.Nat.{ℕ, ◌+◌, ◌-◌}
use mathlib.Core.Path.{◌≡◌, ap}
use mathlib.Core.List.{List}
use native.Mathlib.Omega.{arith}
use lib.ListN.{take, drop}
use Rattle.record.specs.declared.Stretch.{Stretch}
use Rattle.tidy_line.specs.Texts.{place_text}

pub place-part : (at : ℕ) (s : List ℕ) (p : Stretch) → take (p.at - at + p.len - (p.at - at)) (drop (p.at - at) s) ≡ place_text at s p
unfolding place_text
place-part at s p = let e : p.at - at + p.len - (p.at - at) ≡ p.len = omega arith in ap (λ n. take n (drop (p.at - at) s)) e
