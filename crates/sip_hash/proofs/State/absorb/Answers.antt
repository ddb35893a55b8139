-- `sip_hash::State::absorb` meets its contract.
use Rattle.std.proofs.Common.{ℕ, ap}
use lib.Bits.{bit_xor}
use Rattle.format.specs.SipHash.{SipState, absorb}
use Rattle.sip_hash.proofs.State.absorb.Goals as goal

mixed-in : ℕ → SipState → SipState
mixed-in m t = record { v0 = bit_xor t.v0 m; v1 = t.v1; v2 = t.v2; v3 = t.v3 }

pub returns : goal.returns
unfolding absorb mixed-in
returns c = ap (mixed-in c.args.m) c.rounds-t.ensures
