-- `replay_cases::until` meets its contract: what is before the next `d` is within the rest. Assumes nothing.
use Prim.Native.Nat.{ℕ, ◌+◌, ◌≤◌, ◌-◌}
use mathlib.Core.Path.{◌≡◌, ap, ◌∙◌}
use mathlib.Core.List.{List}
use native.Mathlib.Omega.{arith}
use lib.ListN.{take, drop, length-take, length-drop, length}
use lib.Seq.{take_all}
use Rattle.byte_slices.specs.Upto.{upto}
use Rattle.byte_slices.proofs.Lines.{upto_le}
use Rattle.replay_cases.proofs.until.Goals as goal
use Rattle.replay_cases.proofs.until.Goals.{After-upto}

inside : (d : ℕ) (s : List ℕ) (at n : ℕ) → at ≤ length s → n ≡ upto d (take (length s - at) (drop at s)) → at + n ≤ length s
inside d s at n h e = omega (arith, upto_le d (take (length s - at) (drop at s)), length-take (length s - at) (drop at s), length-drop at s)

ended : (c : After-upto) → c.args.at + c.upto.result ≤ length c.args.s.now
ended c = inside _ c.args.s.now c.args.at c.upto.result c.requires c.upto.ensures

-- the rest of `s` is what is looked through
found : (c : After-upto) → c.upto.result ≡ upto c.args.d (drop c.args.at c.args.s.now)
found c = let s = c.args.s.now in
    let at = c.args.at in
    c.upto.ensures ∙ ap (upto c.args.d) (take_all (length s - at) (drop at s) (omega (arith, length-drop at s)))

pub overflow_add-result : goal.overflow_add-result
overflow_add-result c = omega (arith, ended c)

pub returns : goal.returns
returns c = (omega arith, ended c, ap (λ n. c.args.at + n) (found c))
