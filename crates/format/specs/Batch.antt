-- Many names at once (Req 06 and 07): the answer for every text, catalogue, list of names, work area and result list. The ordinal of a name is that
-- of a plain search in the SQ list; the front of the work area becomes the index of the SQ names; the slots that the searches look at are counted.
use Rattle.std.specs.Prelude.{ℕ, cond, List, map, length, ltb}
use Rattle.format.specs.Records.{Record, key}
use Rattle.format.specs.Reading.{of_kind, longest}
use Rattle.format.specs.Programs.{bytes_of}
use Rattle.format.specs.Calls.{Answer, refused, yes, then, fresh, fitting}
use Rattle.format.specs.Asked.{asked}
use Rattle.format.specs.NameIndex.{name_ordinal, index, looks}
use Rattle.format.specs.Summed.{summed}

-- the names of the SQ records, in order: a name's place in the list is its ordinal
unfoldable pub references : List Record → List (List ℕ)
unfolding bytes_of key of_kind
references rs = map (λ r. bytes_of (key r)) (of_kind 2 rs)

-- given the names `xs` of the SQ records: the ordinal of each asked name, the index, and the slots that are looked at in answering, not counting how
-- the index is built. 1 for a list that is too long, then 20 if the work area has fewer slots than the index or the result list has room for fewer
-- ordinals than there are names; `work` and `room` are the sizes of these two
unfoldable pub batched : List (List ℕ) → List ℕ → ℕ → ℕ → Answer (List ℕ × List ℕ × ℕ)
unfolding then fitting longest asked name_ordinal index summed looks
batched xs list work room =
    cond (ltb longest (length list)) (refused 1 0)
    (then (fitting work (index xs)) (λ slots.
    then (fitting room (map (name_ordinal xs) (asked list))) (λ found. yes (found, slots, summed (looks xs) (asked list)))))

-- a batch: after the refusals of reading and 21
unfoldable pub batching : List ℕ → List ℕ → List ℕ → ℕ → ℕ → Answer (List ℕ × List ℕ × ℕ)
unfolding then fresh references batched
batching text c list work room = then (fresh text c) (λ rs. batched (references rs) list work room)
