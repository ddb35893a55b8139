-- `key_look::look_at` meets its contract: what is looked for is the key at the place.
use Prim.Native.Nat.{◌+◌, ◌-◌}
use mathlib.Core.Path.{◌≡◌, ap, ◌∙◌}
use native.Mathlib.Omega.{arith}
use lib.ListN.{take, drop}
use Rattle.key_look.specs.Sought.{fingerprint, sought, looks}
use Rattle.key_look.proofs.look_at.Goals as goal

pub returns : goal.returns
returns c =
    let a = c.args in
    let n : a.place.at + a.place.len - a.place.at ≡ a.place.len = omega arith in record {
      sought = c.look.ensures.sought ∙ ap (λ m. sought a.seed a.text.now a.area.now a.kind (take m (drop a.place.at a.text.now))) n;
      slots = c.look.ensures.slots ∙ ap (λ m. looks a.seed a.text.now a.area.now a.kind (take m (drop a.place.at a.text.now))) n;
      print = c.look.ensures.print ∙ ap (λ m. fingerprint a.seed a.kind (take m (drop a.place.at a.text.now))) n;
    }
