-- Finding a record by its key: the ordinal of the first SQ, RG or PG whose SN or ID equals the bytes that are asked for.
use Rattle.std.specs.Prelude.{ℕ, ◌+◌, Bool, false, cond, List, [], ◌∷◌}
use Rattle.std.proofs.Math.Option.{Option, none, some}
use Rattle.format.specs.Bytes.{same}
use Rattle.format.specs.Lines.{Piece}
use Rattle.format.specs.Records.{Record, key}
use Rattle.format.specs.Reading.{of_kind}
use Rattle.format.specs.Calls.{Answer, then, fresh, there}

-- is there a key, and is it `x`? HD and CO have none
unfoldable pub equals_key : List ℕ → Option Piece → Bool
unfolding same
equals_key x none = false
equals_key x (some p) = same x p.bytes

-- the ordinal of the first of some records whose key is `x`, counted from `i`
unfoldable pub key_ordinal_from : ℕ → List ℕ → List Record → Option ℕ
unfolding equals_key key
key_ordinal_from i x [] = none
key_ordinal_from i x (r ∷ rs) = cond (equals_key x (key r)) (some i) (key_ordinal_from (i + 1) x rs)

-- among the records of a kind: 25 if there is none, and for a kind without keys
unfoldable pub finding : List ℕ → List ℕ → ℕ → List ℕ → Answer ℕ
unfolding then fresh there key_ordinal_from of_kind
finding text c k x = then (fresh text c) (λ rs. there (key_ordinal_from 0 x (of_kind k rs)))
