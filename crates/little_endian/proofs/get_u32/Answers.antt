-- `little_endian::get_u32` meets its contract: std reads the bytes that are copied.
use Prim.Native.Nat.{◌+◌, ◌-◌}
use mathlib.Core.Path.{◌≡◌, ap, ◌∙◌}
use native.Mathlib.Omega.{arith}
use lib.ListN.{length, take, drop, length-drop}
use lib.Seq.{length-take-le}
use Rattle.format.specs.Little.{of_little}
use Rattle.little_endian.proofs.Little.{four-le}
use Rattle.little_endian.proofs.get_u32.Goals as goal

pub returns : goal.returns
returns c =
    let a = c.args in
    let bytes = c.copy_from_slice.new.self in
    let z : a.at + 4 - a.at ≡ 4 = omega arith in
    let p : bytes ≡ take 4 (drop a.at a.s.now) = c.copy_from_slice.ensures.after ∙ ap (λ k. take k (drop a.at a.s.now)) z in
    let l : length bytes ≡ 4 = ap length p ∙ length-take-le 4 (drop a.at a.s.now) (omega (arith, length-drop a.at a.s.now)) in
    c.from_le_bytes.ensures ∙ four-le bytes l ∙ ap of_little p
