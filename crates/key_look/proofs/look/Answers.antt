-- `key_look::look` meets its contract: the number and the fingerprint are the key's.
use Prim.Native.Nat.{◌+◌, ◌*◌, ◌/◌, ◌%◌}
use mathlib.Core.Path.{◌≡◌, ap, ap₂, ◌∙◌}
use Rattle.key_look.specs.Seed.{key_number}
use Rattle.key_look.specs.Sought.{tells_print, sought_from, looks_from, fingerprint, tells_key, first_slot, sought, looks}
use Rattle.key_look.proofs.look.Goals as goal

pub returns : goal.returns
unfolding sought_from looks_from tells_print sought looks tells_key first_slot fingerprint
returns c =
    let a = c.args in
    let n : c.number-n.result ≡ key_number a.seed a.kind a.id.now = c.number-n.ensures in
    let f : c.fingerprint.result ≡ fingerprint a.seed a.kind a.id.now = c.fingerprint.ensures ∙ ap (λ h. a.kind * 32 + h / 134217728 % 32) n in
    let both : sought_from a.text.now a.area.now c.number-n.result c.fingerprint.result a.id.now ≡ sought a.seed a.text.now a.area.now a.kind a.id.now =
    ap₂ (λ h m. sought_from a.text.now a.area.now h m a.id.now) n f in
    let many : looks_from a.text.now a.area.now c.number-n.result c.fingerprint.result a.id.now ≡ looks a.seed a.text.now a.area.now a.kind a.id.now =
    ap₂ (λ h m. looks_from a.text.now a.area.now h m a.id.now) n f in record {
      sought = c.look_from.ensures.sought ∙ both;
      slots = c.look_from.ensures.slots ∙ many;
      print = c.look_from.ensures.print ∙ f;
    }
