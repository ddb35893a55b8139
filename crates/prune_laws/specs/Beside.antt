-- Pruning compared with tidying: with all programs in use it is tidying, and it never needs more room.
use Rattle.std.specs.Prelude.{ℕ, ◌+◌, ◌≤◌, ◌<◌, ◌≡◌, true, false, List, length, eqb, leb}
use Rattle.format.specs.Bytes.{any}
use Rattle.format.specs.Records.{Record}
use Rattle.format.specs.Reading.{read_text, accept}
use Rattle.format.specs.Programs.{programs, links, tangled}
use Rattle.format.specs.Tidy.{tidy}
use Rattle.format.specs.Calls.{yes, fresh, tidying}
use Rattle.format.specs.Prune.{pruned, pruning}
use Rattle.accepted.specs.Read.{records_of}

-- if 21, 25, 22 and 23 do not apply and each program is in use, pruning is tidying, including its refusals
unfoldable pub TidiesAll : Type 0
unfolding pruning
TidiesAll =
    (t c us : List ℕ) (room : ℕ) (rs : List Record)
    → fresh t c ≡ yes rs
    → any (leb (length (links (programs rs)))) us ≡ false
    → tangled (links (programs rs)) ≡ 0
    → ((k : ℕ) → k < length (programs rs) → any (eqb k) us ≡ true)
    → pruning t c us room ≡ tidying t room

-- what is written is never longer than the tidy text, and so at most one byte longer than the text
unfoldable pub NeverLonger : Type 0
NeverLonger =
    (t us : List ℕ) (rs : List Record)
    → read_text t ≡ accept rs
    → (length (tidy (pruned us rs)) ≤ length (tidy rs)) × (length (tidy (pruned us rs)) ≤ length t + 1)

-- an output with room for the tidy text is large enough: a larger one gets the same answer
unfoldable pub RoomForTidy : Type 0
unfolding pruning
RoomForTidy = (t c us : List ℕ) (room more : ℕ) → length (tidy (records_of t)) ≤ room → pruning t c us (room + more) ≡ pruning t c us room
