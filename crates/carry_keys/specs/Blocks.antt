-- A block of lines, and the slots that say where each of its keys occurs first.
use Rattle.std.specs.Prelude.{ℕ, ◌-◌, ◌*◌, ◌/◌, Bool, cond, length, drop, replicate, ltb}
use Rattle.std.proofs.Math.Bool.{true}
use mathlib.Core.List.{List, [], ◌∷◌, ◌++◌}
use Rattle.format.specs.Lines.{Piece, lines_from}
use Rattle.format.specs.Records.{Record, Line, refused_line, read, line}
use Rattle.record.specs.Head.{head_of}
use Rattle.record.specs.declared.Head.{Head}
use Rattle.record.specs.declared.Head.TheVariants as head
use Rattle.key_index.specs.KeySlots.{after_entering, after_pointing}
use Rattle.key_look.specs.declared.Seed.{Seed}

-- how many keys a head puts into the slots
unfoldable pub head_keys : Head → ℕ
head_keys (head.Refused n) = 0
head_keys (head.Header v n) = 0
head_keys (head.ReferenceSequence p l n) = 1
head_keys (head.ReadGroup p n) = 1
head_keys (head.Program p n) = 1
head_keys (head.Comment p) = 0

-- the lines up to the one with the `n`-th key, or all lines if there are fewer keys
unfoldable pub keyed_front : Bool → ℕ → List Piece → List Piece
unfolding head_keys head_of line
keyed_front strict n [] = []
keyed_front strict n (p ∷ ps) = cond (ltb 0 n) (p ∷ keyed_front strict (n - head_keys (head_of (line strict p))) ps) []

-- the lines after these
unfoldable pub keyed_behind : Bool → ℕ → List Piece → List Piece
unfolding head_keys head_of line
keyed_behind strict n [] = []
keyed_behind strict n (p ∷ ps) = cond (ltb 0 n) (keyed_behind strict (n - head_keys (head_of (line strict p))) ps) (p ∷ ps)

-- the offset of the first of some lines, or `end` if there are none
unfoldable pub start_of : ℕ → List Piece → ℕ
start_of end [] = end
start_of end (p ∷ ps) = p.at

-- the offset after the lines from `at` on up to the one with the `n`-th key, or the end of the text
unfoldable pub after_keyed : Bool → ℕ → ℕ → List ℕ → ℕ
unfolding keyed_behind lines_from start_of
after_keyed strict n at t = start_of (length t) (keyed_behind strict n (lines_from at (drop at t)))

-- of some lines in text order, those that start before the offset `to`
unfoldable pub earlier : ℕ → List Piece → List Piece
earlier to [] = []
earlier to (p ∷ ps) = cond (ltb p.at to) (p ∷ earlier to ps) []

-- the records of the lines that parse, in order
unfoldable pub record_if_read : Line → List Record
record_if_read (refused_line n) = []
record_if_read (read r) = r ∷ []

unfoldable pub read_in : Bool → List Piece → List Record
unfolding record_if_read line
read_in strict [] = []
read_in strict (p ∷ ps) = record_if_read (line strict p) ++ read_in strict ps

module _ (seed : Seed) where
  -- the slots after the keys of some lines entered, one after the other: one that is there already does not enter
  unfoldable pub entered : Bool → List ℕ → List ℕ → List Piece → List ℕ
  unfolding after_entering head_of line
  entered strict t slots [] = slots
  entered strict t slots (p ∷ ps) = entered strict t (after_entering seed true t slots (head_of (line strict p))) ps

  -- and after slots with a key of some lines were set to these lines' offsets, one after the other
  unfoldable pub pointed_back : Bool → List ℕ → List ℕ → List Piece → List ℕ
  unfolding after_pointing head_of line
  pointed_back strict t slots [] = slots
  pointed_back strict t slots (p ∷ ps) = pointed_back strict t (after_pointing seed t slots (head_of (line strict p))) ps

  -- ---- by where the lines are in the text

  -- the keys of the lines from the offset `at` on entered, up to the line with the `n`-th key
  abbrev pub entered_from : Bool → List ℕ → List ℕ → ℕ → ℕ → List ℕ
  entered_from strict t slots at n = entered strict t slots (keyed_front strict n (lines_from at (drop at t)))

  -- slots were set to the offsets of the lines from the offset `from` on that start before `to`
  abbrev pub pointed_from : Bool → List ℕ → List ℕ → ℕ → ℕ → List ℕ
  pointed_from strict t slots from to = pointed_back strict t slots (earlier to (lines_from from (drop from t)))

  -- `n` slots for the block of lines from the offset `at` on, after the lines from `from` on
  unfoldable pub filled_for : Bool → List ℕ → ℕ → ℕ → ℕ → List ℕ
  unfolding entered pointed_back keyed_front earlier lines_from
  filled_for strict t n from at = pointed_from strict t (entered_from strict t (replicate n 0) at (n / 4 * 3)) from at
