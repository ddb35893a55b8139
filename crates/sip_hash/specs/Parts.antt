-- What the functions of the code have in hand.
use Rattle.format.specs.SipHash.{SipState}
use Rattle.sip_hash.specs.declared.State.{State}

-- the state that the code's words are
abbrev pub state_of : State → SipState
state_of s = record { v0 = s.v0; v1 = s.v1; v2 = s.v2; v3 = s.v3 }
