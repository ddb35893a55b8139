-- The keys of a line: where the last value of each is.
use Rattle.std.specs.Prelude.{ℕ, cond, List, eqb}
use Rattle.std.proofs.Math.Option.{Option, none}
use Rattle.format.specs.Lines.{Piece}
use Rattle.format.specs.Fields.{Field, last_of}
use Rattle.format.specs.declared.Kind.{Kind}
use Rattle.format.specs.declared.Kind.TheVariants.{Header, ReferenceSequence, ReadGroup, Program, Comment}
use Rattle.accepted_line.specs.Next.{or_value, no_value}
use Rattle.record.specs.declared.Stretch.{Stretch}
use Rattle.accepted_line.specs.declared.KeyValues.{KeyValues}

-- VN of HD, SN of SQ, ID of RG and PG
unfoldable pub last_key : Kind → List Field → Option Piece
unfolding last_of
last_key Header fs = last_of 86 78 fs
last_key ReferenceSequence fs = last_of 83 78 fs
last_key ReadGroup fs = last_of 73 68 fs
last_key Program fs = last_of 73 68 fs
last_key Comment fs = none

-- LN of SQ
unfoldable pub last_number : Kind → List Field → Option Piece
unfolding last_of
last_number Header fs = none
last_number ReferenceSequence fs = last_of 76 78 fs
last_number ReadGroup fs = none
last_number Program fs = none
last_number Comment fs = none

-- the last values of the keys among some fields, or those in `ks` where there are none
unfoldable pub keys_from : Kind → KeyValues → List Field → KeyValues
unfolding or_value last_key last_number
keys_from k ks fs = record { key = or_value ks.key (last_key k fs); number = or_value ks.number (last_number k fs) }

abbrev pub no_key_values : KeyValues
no_key_values = record { key = no_value; number = no_value }

unfoldable pub keys_in : Kind → List Field → KeyValues
unfolding keys_from
keys_in k fs = keys_from k no_key_values fs

-- with the value of one more key: the first letter of the tag is enough to recognize LN
unfoldable pub with_key : KeyValues → ℕ → Stretch → KeyValues
with_key ks a v = cond (eqb a 76) (record { key = ks.key; number = v }) (record { key = v; number = ks.number })
