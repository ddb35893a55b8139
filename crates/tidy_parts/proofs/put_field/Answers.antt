-- `tidy_parts::put_field` meets its contract: what comes before the value, and then the value.
use Prim.Native.Nat.{ℕ, ◌+◌, ◌-◌, ◌≤◌}
use mathlib.Core.Path.{◌≡◌, ap, ◌∙◌}
use mathlib.Core.List.{List, [], ◌∷◌}
use native.Mathlib.Omega.{arith}
use lib.ListN.{length, take, drop, length-drop}
use lib.Seq.{length-take-le}
use Rattle.format.specs.Tidy.{field_text}
use Rattle.byte_slices.specs.Over.{over}
use Rattle.tidy_parts.proofs.Wrote.{Wrote, wrote_then}
use Rattle.tidy_parts.proofs.put_field.Goals as goal

-- the two writes, where the second callee was lent a part of the line
field : (out mid last : List ℕ) (o n a b : ℕ) (line : List ℕ) (from len : ℕ) → from + len ≤ length line → o + 4 + len ≤ length out
    → Wrote out o mid n (9 ∷ a ∷ b ∷ 58 ∷ []) → last ≡ over mid n (take (from + len - from) (drop from line))
    → Wrote out o last (n + len) (field_text a b (take len (drop from line)))
unfolding field_text
field out mid last o n a b line from len h k w v =
    let e : from + len - from ≡ len = omega arith in
    let s : length (take len (drop from line)) ≡ len = length-take-le len (drop from line) (omega (arith, length-drop from line)) in
    let u : last ≡ over mid n (take len (drop from line)) = v ∙ ap (λ m. over mid n (take m (drop from line))) e in
    wrote_then out o mid n last (n + len) (9 ∷ a ∷ b ∷ 58 ∷ []) (take len (drop from line)) w (omega arith, u) (omega arith)

pub returns : goal.returns
returns c =
    let a = c.args in
    let told = field a.out.now c.put_tag-n.new.out c.put_bytes.new.out a.o c.put_tag-n.result a.a a.b a.line.now a.from a.len (omega arith) (omega arith) (c.put_tag-n.ensures.next, c.put_tag-n.ensures.wrote) c.put_bytes.ensures in
    record { next = told.0; wrote = told.1 }
