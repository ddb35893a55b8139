-- `key_look::next` meets its contract: the last slot is followed by the first.
use Prim.Native.Nat.{◌+◌, ◌%◌}
use mathlib.Core.Path.{◌≡◌, sym, ap, ◌∙◌}
use native.Mathlib.Omega.{arith}
use native.Mathlib.Nat.{mod-eq_of_lt, mod_self}
use Rattle.key_look.proofs.next.Goals as goal

pub returns-then-n-at-eq1 : goal.returns-then-n-at-eq1
returns-then-n-at-eq1 c =
    let a = c.args in
    let e : a.at + 1 ≡ a.n = omega arith in
    sym (ap (λ m. m % a.n) e ∙ mod_self a.n)

pub returns : goal.returns
returns c = sym (mod-eq_of_lt (omega arith))
