-- What the slots say of a line's key, and the cursor after the line.
use Rattle.std.specs.Prelude.{ℕ, zero, suc, ◌+◌, ◌*◌, ◌/◌, Bool, not, cond, List, length, eqb}
use Rattle.format.specs.Records.{line}
use Rattle.accepted.specs.First.{first_at}
use Rattle.record.specs.Head.{head_of}
use Rattle.record.specs.declared.Head.{Head}
use Rattle.record.specs.declared.Head.TheVariants as head
use Rattle.read_admission.specs.Admission.{programs_of}
use Rattle.key_index.specs.KeySlots.{is_found, after_entering, is_first_key}
use Rattle.carry_keys.specs.Blocks.{after_keyed, filled_for}
use Rattle.key_look.specs.Seed.{plain_seed}
use Rattle.key_look.specs.declared.Seed.{Seed}
use Rattle.carry_lines.specs.declared.Cursor.{Cursor}

-- the head of the line at an offset
abbrev pub head_at : Bool → List ℕ → ℕ → Head
head_at strict t at = head_of (line strict (first_at at t))

-- is a head's key used? Programs that are kept are in the slots `ids`, by the plain numbers; the slots `area` hold where other keys came first
unfoldable pub used_by : Seed → List ℕ → List ℕ → List ℕ → Head → Bool
unfolding is_found is_first_key
used_by seed t area ids (head.Refused n) = not (is_first_key seed t area (head.Refused n))
used_by seed t area ids (head.Header v n) = not (is_first_key seed t area (head.Header v n))
used_by seed t area ids (head.ReferenceSequence p l n) = not (is_first_key seed t area (head.ReferenceSequence p l n))
used_by seed t area ids (head.ReadGroup p n) = not (is_first_key seed t area (head.ReadGroup p n))
used_by seed t area ids (head.Program p n) = is_found plain_seed t ids (head.Program p n)
used_by seed t area ids (head.Comment p) = not (is_first_key seed t area (head.Comment p))

-- the slots `ids` after that
unfoldable pub ids_after : Bool → List ℕ → List ℕ → Head → List ℕ
unfolding after_entering
ids_after room t ids (head.Refused n) = ids
ids_after room t ids (head.Header v n) = ids
ids_after room t ids (head.ReferenceSequence p l n) = ids
ids_after room t ids (head.ReadGroup p n) = ids
ids_after room t ids (head.Program p n) = after_entering plain_seed room t ids (head.Program p n)
ids_after room t ids (head.Comment p) = ids

-- the end of the block that the line at an offset is in, with `n` slots: at the end of a block the next one begins
unfoldable pub until_at : Bool → List ℕ → ℕ → ℕ → ℕ → ℕ
unfolding after_keyed
until_at strict t n at until = cond (eqb at until) (after_keyed strict (n / 4 * 3) at t) until

-- and the area, which is filled for the next one by the numbers `seed`
unfoldable pub filled_at : Seed → Bool → List ℕ → ℕ → List ℕ → ℕ → ℕ → List ℕ
unfolding filled_for
filled_at seed strict t from area at until = cond (eqb at until) (filled_for seed strict t (length area) from at) area

-- where judging is after a line, in a block that ends at `until`: `n` is 0 where it is kept
unfoldable pub advanced : Cursor → ℕ → ℕ → Seed → Head → ℕ → Cursor
unfolding programs_of
advanced c next until seed x zero =
    record { at = next; line = c.line + 1; until = until; seed = seed; kept = c.kept + 1; programs = c.programs + programs_of x }
advanced c next until seed x (suc n) =
    record { at = next; line = c.line + 1; until = until; seed = seed; kept = c.kept; programs = c.programs }
