-- The key of a record, given by its place.
use Rattle.std.specs.Prelude.{ℕ, ◌<◌, ◌≡◌, List, drop}
use Rattle.format.specs.Records.{Record, header, reference, group, program, comment}
use Rattle.key_at.specs.Word.{word}

-- a record's key is given by its place: the offset is below 2 ^ 24, and the key ends before the first byte below 32
unfoldable pub Ended : List ℕ → Record → Type 0
unfolding word
Ended t (header v fs) = Unit
Ended t (reference p n fs) = (p.at < 16777216) × (word (drop p.at t) ≡ p.bytes)
Ended t (group p fs) = (p.at < 16777216) × (word (drop p.at t) ≡ p.bytes)
Ended t (program p fs) = (p.at < 16777216) × (word (drop p.at t) ≡ p.bytes)
Ended t (comment p) = Unit
