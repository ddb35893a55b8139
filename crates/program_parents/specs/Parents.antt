-- The parents of the programs as numbers, and what is found from them.
use Rattle.std.specs.Prelude.{ℕ, ◌≤◌, ◌≡◌, cond, Result, Ok, Err, ⊤, List, map, length, eqb}
use Rattle.std.proofs.Math.Option.{Option, none, some}
use Rattle.format.specs.Bytes.{any}
use Rattle.format.specs.Programs.{Program, Link, links, root, dangling, child, is_dangling, tangled, leaves}
use Rattle.program_chains.specs.Parents.{nobody, in_array}
use Rattle.program_chains.specs.declared.Ordinals.{Ordinals}
use Rattle.catalogue_entries.specs.declared.Place.{Place}
use Rattle.program_ids.specs.Places.{InsideText, bytes_at}
use Rattle.program_ids.specs.Search.{id_ordinal_from}
use Rattle.program_parents.specs.declared.Parents.{Parents}

-- ---- parents

-- the parent of a program whose PP equals no ID: neither an ordinal nor nobody
unfoldable pub stranger : ℕ
stranger = 4294967294

-- a link, as the number of a parent
unfoldable pub link_number : Link → ℕ
unfolding nobody stranger
link_number root = nobody
link_number dangling = stranger
link_number (child k) = k

unfoldable pub or_stranger : Option ℕ → ℕ
unfolding stranger
or_stranger none = stranger
or_stranger (some k) = k

-- the parent, from the place of the PP: nobody without a PP, the ordinal of the program that it names, a stranger if it names none
unfoldable pub parent_of : List ℕ → List (List ℕ) → Place → ℕ
unfolding nobody or_stranger id_ordinal_from bytes_at
parent_of t ids p = cond (eqb p.at 4294967295) nobody (or_stranger (id_ordinal_from (bytes_at t p) 0 ids))

-- a PP, if there is one, is within `n` bytes
abbrev pub Somewhere : ℕ → Place → Type 0
Somewhere n p = (p.at ≡ 4294967295 → ⊥) → InsideText n p

-- the parents that links describe, in an array
unfoldable pub parents_of : List Link → Parents
unfolding in_array link_number any is_dangling
parents_of ls = record { list = in_array (map link_number ls); count = length ls; dangling = any is_dangling ls }

-- they are the parents of at most 1,024 programs
pub record AreParents (q : Parents) : Type 0 where
  pub ps : List Program
  pub few : length ps ≤ 1024
  pub is : q ≡ parents_of (links ps)

-- ---- leaves

unfoldable pub ordinals_of : List ℕ → Ordinals
unfolding in_array
ordinals_of xs = record { list = in_array xs; count = length xs }

-- a value, or the refusal if a PP dangles or there is a cycle: 22 or 23
unfoldable pub unless_tangled : {A : Type 0} → List Link → A → Result A ℕ
unfolding tangled
unless_tangled ls x = cond (eqb (tangled ls) 0) (Ok x) (Err (tangled ls))

abbrev pub tangle_of : List Link → Result ⊤ ℕ
tangle_of ls = unless_tangled ls tt

-- the leaves, or 22 or 23
unfoldable pub graph_of : List Link → Result Ordinals ℕ
unfolding unless_tangled ordinals_of leaves
graph_of ls = unless_tangled ls (ordinals_of (leaves ls))
