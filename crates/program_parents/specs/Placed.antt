-- Places of a text that say programs.
use Rattle.std.specs.Prelude.{ℕ, ◌*◌, ◌≤◌, ◌≡◌, List, length, take}
use Rattle.std.proofs.Math.Option.{Option, none, some}
use Rattle.format.specs.Lines.{Piece}
use Rattle.format.specs.Programs.{Program, programs}
use Rattle.byte_slices.specs.Stands.{Stands}
use Rattle.lists.specs.Pairs.{Pairs}
use Rattle.accepted.specs.Read.{records_of}
use Rattle.catalogue_entries.specs.declared.Place.{Place}
use Rattle.catalogue_entries.specs.Entries.{piece_at}
use Rattle.program_ids.specs.Places.{InsideText, bytes_at, nowhere}
use Rattle.program_ids.specs.Ids.{ids_at, IdsInText}
use Rattle.program_ids.specs.Search.{ids_of}
use Rattle.program_places.specs.declared.Programs.{Programs}
use Rattle.program_places.specs.Gathered.{ProgramPlaces, gathered_of}

-- where a PP stands: nowhere without PP
unfoldable pub Before : List ℕ → Place → Option Piece → Type 0
unfolding piece_at nowhere
Before t q none = q ≡ nowhere
Before t q (some p) = (q ≡ piece_at p) × Stands t 0 p

-- the places of one program: its ID, and where its PP stands
pub record Says (t : List ℕ) (n : ProgramPlaces) (p : Program) : Type 0 where
  pub inside : InsideText (length t) n.id
  pub bytes : bytes_at t n.id ≡ p.id
  pub previous : Before t n.previous p.previous

-- the places `q` say the programs `ps`, 1,024 at most
pub record PlacesOf (t : List ℕ) (ps : List Program) (q : Programs) : Type 0 where
  pub ns : List ProgramPlaces
  pub is : q ≡ gathered_of ns
  pub says : Pairs (Says t) ns ps
  pub few : length ps ≤ 1024

-- they say some programs, and the text is no longer than one may be
pub record ArePlaces (t : List ℕ) (q : Programs) : Type 0 where
  pub ps : List Program
  pub are : PlacesOf t ps q
  pub fits : length t ≤ 16777216

-- the first numbers of a list are the IDs of the programs of a text, of which there are `count`
pub record ListsIds (t ids : List ℕ) (count : ℕ) : Type 0 where
  pub counts : count ≡ length (programs (records_of t))
  pub long : count * 3 ≤ length ids
  pub listed : IdsInText t (take (count * 3) ids)
  pub are : ids_at t (take (count * 3) ids) ≡ ids_of (programs (records_of t))
