-- `key_look::slot_tells` meets its contract: the fingerprint first, then the key.
use Prim.Native.Nat.{◌/◌}
use mathlib.Core.Path.{sym, ap, ◌∙◌}
use mathlib.Core.Bool.{◌&&◌}
use borrow.Author.Tests.{eq-eqb, ne_eqb}
use Rattle.format.specs.Bytes.{same}
use Rattle.key_look.specs.Sought.{key_told}
use Rattle.key_look.proofs.slot_tells.Goals as goal

pub returns-then-slot-print : goal.returns-then-slot-print
returns-then-slot-print c =
    let a = c.args in
    sym (ap (λ b. b && same a.id.now (key_told a.text.now a.slot)) (ne_eqb a.print (a.slot / 16777216) (λ e. c.if-slot-print.true (sym e))))

pub returns : goal.returns
unfolding key_told
returns c =
    let a = c.args in
    c.is_at.ensures ∙ sym (ap (λ b. b && same a.id.now (key_told a.text.now a.slot)) (eq-eqb a.print (a.slot / 16777216) (sym c.if-slot-print.false)))
