-- The seal of a header: the SHA-256 of its tidy text. Two texts with equal records have the same seal, whatever their order, spelling and line
-- endings.
use Rattle.std.specs.Prelude.{ℕ, cond, List}
use Rattle.format.specs.Bytes.{same}
use Rattle.format.specs.Records.{Record}
use Rattle.format.specs.Calls.{Answer, refused, yes, then, fresh, tidying}
use Rattle.format.specs.Sha256.{sha256}

-- sealing: refused as tidying is. The tidy text goes into the work area, of which `room` is the size
unfoldable pub sealing : List ℕ → ℕ → Answer (List ℕ)
unfolding then tidying sha256
sealing text room = then (tidying text room) (λ t. yes (sha256 t))

-- what checking a seal writes to the work area: the tidy text, once the catalogue is known to be this text's
unfoldable pub tidying_fresh : List ℕ → List ℕ → ℕ → Answer (List ℕ)
unfolding then fresh tidying
tidying_fresh text c room = then (fresh text c) (λ rs. tidying text room)

-- 33 if the seal is not the header's own
unfoldable pub own_seal : List ℕ → List ℕ → List Record → Answer (List Record)
unfolding same
own_seal seal own rs = cond (same seal own) (yes rs) (refused 33 0)

-- checking a text against a catalogue and a seal: the refusals of reading, 21, those of tidying, then 33
unfoldable pub checking_sealed : List ℕ → List ℕ → List ℕ → ℕ → Answer (List Record)
unfolding then fresh sealing own_seal
checking_sealed text c seal room = then (fresh text c) (λ rs. then (sealing text room) (λ own. own_seal seal own rs))
