-- `key_look::seed_of` meets its contract.
use Prim.Native.Nat.{ℕ}
use mathlib.Core.Path.{ap, ◌∙◌}
use mathlib.Core.Bool.{true}
use Rattle.format.specs.SipHash.{key_of}
use Rattle.key_look.specs.Seed.{seed_of}
use Rattle.key_look.specs.declared.Seed.{Seed}
use Rattle.key_look.proofs.seed_of.Goals as goal

keyed-by : ℕ × ℕ → Seed
keyed-by w = record { keyed = true; k0 = w.0; k1 = w.1 }

pub returns : goal.returns
unfolding seed_of keyed-by
returns c = ap keyed-by (c.key_of-key.ensures ∙ ap key_of c.hash.ensures)
