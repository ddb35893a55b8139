-- What the second engine must satisfy, for every text, catalogue, output and table: its refusals, leaves, order and hops are the first engine's,
-- except that a table with fewer records than programs is refused with 20 where the first engine answers.
use Rattle.std.specs.Prelude.{ℕ, ◌≤◌, ◌<◌, ◌≡◌, List, length}
use Rattle.format.specs.Programs.{programs, links}
use Rattle.format.specs.Calls.{refused, yes, leafing}
use Rattle.format.specs.Table.{nodes, leafing_table}
use Rattle.format.specs.declared.Node.{Node}
use Rattle.accepted.specs.Read.{records_of}
use Rattle.programs_by_table.specs.Answers.{without_table}

pub record SameAsFirst (text c : List ℕ) (room seats : ℕ) : Type 0 where
  -- the second engine refuses what the first refuses, with the same number and line
  pub refusals : (n l : ℕ) → leafing text c room ≡ refused n l → leafing_table text c room seats ≡ refused n l
  -- with a record for every program both give the same answer
  pub same : length (programs (records_of text)) ≤ seats → without_table (leafing_table text c room seats) ≡ leafing text c room
  -- a shorter table is refused with 20 where the first engine answers
  pub short : seats < length (programs (records_of text)) → (a : List ℕ × ℕ) → leafing text c room ≡ yes a → leafing_table text c room seats ≡ refused 20 0
  -- an answer has the first engine's leaves and hops, and the parent and the depth of each program
  pub answers : (xs : List ℕ) (h : ℕ) (ns : List Node) → leafing_table text c room seats ≡ yes (xs, h, ns)
      → (leafing text c room ≡ yes (xs, h)) × (ns ≡ nodes (links (programs (records_of text))))

unfoldable pub AllSameAsFirst : Type 0
AllSameAsFirst = (text c : List ℕ) (room seats : ℕ) → SameAsFirst text c room seats

-- no text has more than 1,024 programs, so 1,024 records are enough
unfoldable pub AllSeated : Type 0
AllSeated = (text c : List ℕ) (room seats : ℕ) → 1024 ≤ seats → without_table (leafing_table text c room seats) ≡ leafing text c room
