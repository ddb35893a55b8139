-- What a table says of the programs of a text, in terms of their PP and ID.
use Rattle.std.specs.Prelude.{ℕ, suc, ◌+◌, ◌<◌, ◌≡◌, List, [], ◌∷◌, length, get_or}
use Rattle.std.proofs.Math.Option.{none, some}
use Rattle.format.specs.Lines.{Piece}
use Rattle.format.specs.Programs.{Program, programs}
use Rattle.format.specs.Adding.{no_program}
use Rattle.format.specs.Calls.{yes}
use Rattle.format.specs.Table.{leafing_table}
use Rattle.format.specs.declared.Node.{Node}
use Rattle.accepted.specs.Read.{records_of}

-- the program at an ordinal, and its record
unfoldable pub program_at : List Program → ℕ → Program
unfolding no_program
program_at ps i = get_or ps i no_program

unfoldable pub node_at : List Node → ℕ → Node
node_at ns i = get_or ns i (record { parent = 4294967295; depth = 0 })

-- the depths of all records, summed
unfoldable pub depth_sum : List Node → ℕ
depth_sum [] = 0
depth_sum (n ∷ ns) = n.depth + depth_sum ns

-- the parent of a program with this PP: the program whose ID is the PP, one link nearer to its root
pub record HasParent (ps : List Program) (ns : List Node) (previous : Piece) (n : Node) : Type 0 where
  pub listed : n.parent < length ps
  pub named : (program_at ps n.parent).id ≡ previous.bytes
  pub deeper : n.depth ≡ suc (node_at ns n.parent).depth

pub record TableSays (ps : List Program) (hops : ℕ) (ns : List Node) : Type 0 where
  -- there is one record per program
  pub each : length ns ≡ length ps
  -- a program without PP has no parent, and the depth 0
  pub roots : (i : ℕ) → i < length ps → (program_at ps i).previous ≡ none → node_at ns i ≡ record { parent = 4294967295; depth = 0 }
  -- any other has the depth of its parent plus one
  pub children : (i : ℕ) → i < length ps → (p : Piece) → (program_at ps i).previous ≡ some p → HasParent ps ns p (node_at ns i)
  -- the hops are the sum of the depths
  pub summed : hops ≡ depth_sum ns

-- the law, for every text, catalogue, and room of output and table
unfoldable pub AllTablesSay : Type 0
AllTablesSay = (text c : List ℕ) (room seats : ℕ) (xs : List ℕ) (h : ℕ) (ns : List Node) → leafing_table text c room seats ≡ yes (xs, h, ns)
    → TableSays (programs (records_of text)) h ns
