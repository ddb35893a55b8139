-- `name_slots::bytes_at` meets its contract: as many bytes as the text has.
use Prim.Native.Nat.{ℕ, ◌+◌, ◌-◌, ◌≤◌, ◌<◌}
use mathlib.Core.Path.{◌≡◌, sym, ap, ◌∙◌}
use mathlib.Core.List.{List}
use native.Mathlib.Omega.{arith}
use lib.ListN.{length, take, drop, length-drop, drop_of_length-le}
use lib.Seq.{take_all, take-nil, drop-length}
use Rattle.name_slots.proofs.bytes_at.Goals as goal

module _ (t : List ℕ) where
  -- nothing is left
  behind : (n at len : ℕ) → length t < at → take n (drop (length t) t) ≡ take len (drop at t)
  behind n at len h =
      let l : length t ≤ at = omega arith in
      ap (take n) (drop-length t) ∙ take-nil n ∙ sym (ap (take len) (drop_of_length-le t l) ∙ take-nil len)

  -- less is left
  short : (n at len : ℕ) → length t - at ≤ n → length t - at ≤ len → take n (drop at t) ≡ take len (drop at t)
  short n at len h l = take_all n (drop at t) (omega (arith, h, length-drop at t)) ∙ sym (take_all len (drop at t) (omega (arith, l, length-drop at t)))

pub returns-then-n-start : goal.returns-then-n-start
returns-then-n-start c = let a = c.args in behind a.text.now (length a.text.now - length a.text.now) a.p.at a.p.len c.if-n-start.true

pub returns-then-n-start-2 : goal.returns-then-n-start-2
returns-then-n-start-2 c = let a = c.args in short a.text.now (length a.text.now - a.p.at) a.p.at a.p.len (omega arith) (omega arith)

pub returns : goal.returns
returns c =
    let a = c.args in
    let e : a.p.at + a.p.len - a.p.at ≡ a.p.len = omega arith in
    ap (λ n. take n (drop a.p.at a.text.now)) e
