-- `key_look::number` meets its contract: keyed or plain.
use mathlib.Core.Path.{sym, ap, ◌∙◌}
use mathlib.Core.Bool.{cond}
use Rattle.format.specs.SipHash.{sip}
use Rattle.key_look.specs.Hash.{key_hash}
use Rattle.key_look.specs.Seed.{key_number}
use Rattle.key_look.proofs.number.Goals as goal

pub returns-then-seed : goal.returns-then-seed
unfolding key_number
returns-then-seed c =
    let a = c.args in
    c.sip_hash.ensures ∙ sym (ap (λ b. cond b (sip 1 3 a.seed.k0 a.seed.k1 a.id.now) (key_hash a.kind a.id.now)) c.if-seed.true)

pub returns : goal.returns
unfolding key_number
returns c =
    let a = c.args in
    c.hash.ensures ∙ sym (ap (λ b. cond b (sip 1 3 a.seed.k0 a.seed.k1 a.id.now) (key_hash a.kind a.id.now)) c.if-seed.false)
