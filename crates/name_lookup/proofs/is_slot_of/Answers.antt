-- `name_lookup::is_slot_of` meets its contract: the mark first, then the name.
use Prim.Native.Nat.{◌-◌, ◌/◌, ◌%◌}
use mathlib.Core.Path.{sym, ap, ◌∙◌}
use mathlib.Core.Bool.{◌&&◌}
use borrow.Author.Tests.{eq-eqb, ne_eqb}
use lib.ListN.{drop}
use Rattle.format.specs.Bytes.{same}
use Rattle.key_at.specs.Word.{word}
use Rattle.name_lookup.proofs.is_slot_of.Goals as goal

pub returns-then-code-told : goal.returns-then-code-told
returns-then-code-told c =
    let a = c.args in
    sym (ap (λ b. b && same a.name.now (word (drop ((a.v - 1) / 128) a.text.now))) (ne_eqb a.told ((a.v - 1) % 128) (λ e. c.if-code-told.true (sym e))))

pub returns : goal.returns
returns c =
    let a = c.args in
    c.is_at.ensures ∙ sym (ap (λ b. b && same a.name.now (word (drop ((a.v - 1) / 128) a.text.now))) (eq-eqb a.told ((a.v - 1) % 128) (sym c.if-code-told.false)))
