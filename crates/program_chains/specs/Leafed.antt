-- What the leaves of a text and its own catalogue must satisfy: 22 exactly if a PP equals no ID; 23 exactly if there is no such PP and a program
-- comes back to itself; otherwise each program that no PP names is listed once, in the order of noodles-sam.
use Rattle.std.specs.Prelude.{ℕ, ◌<◌, ◌≡◌, ◌↔◌, Bool, true, false, not, ◌&&◌, List, length, eqb, ltb}
use Rattle.std.proofs.Math.Option.{Option, none, some}
use Rattle.format.specs.Bytes.{same, any, distinct}
use Rattle.format.specs.Lines.{Piece}
use Rattle.format.specs.Records.{Record}
use Rattle.format.specs.Programs.{Program, programs, links, loops_from, leaves}
use Rattle.format.specs.Calls.{Answer, refused, yes, fresh, leafing}
use Rattle.program_chains.specs.Listed.{named}

-- does this PP equal no ID?
unfoldable pub is_stray : List Program → Option Piece → Bool
unfolding any same
is_stray ps none = false
is_stray ps (some p) = not (any (λ q. same p.bytes q.id) ps)

-- does the PP of some program equal no ID?
unfoldable pub strays : List Program → Bool
unfolding any is_stray
strays ps = any (λ p. is_stray ps p.previous) ps

-- does some program come back to itself, parent by parent?
unfoldable pub returns : List Program → Bool
unfolding links loops_from
returns ps = loops_from (links ps) 0 (links ps)

-- a list of the leaves
pub record Leaves (ps : List Program) (xs : List ℕ) : Type 0 where
  -- the leaves are the programs that no PP names
  pub unnamed : (x : ℕ) → any (eqb x) xs ≡ (ltb x (length ps) && not (named x (links ps)))
  pub once : distinct xs ≡ true
  pub order : xs ≡ leaves (links ps)

-- the answer of the call for these programs and this room
pub record Leafed (ps : List Program) (room : ℕ) (answer : Answer (List ℕ × ℕ)) : Type 0 where
  pub dangling : (answer ≡ refused 22 0) ↔ (strays ps ≡ true)
  pub cycle : (answer ≡ refused 23 0) ↔ ((strays ps ≡ false) × (returns ps ≡ true))
  pub short : (answer ≡ refused 20 0) ↔ ((strays ps ≡ false) × (returns ps ≡ false) × (room < length (leaves (links ps))))
  pub listed : (xs : List ℕ) (hops : ℕ) → answer ≡ yes (xs, hops) → Leaves ps xs

-- the law, for every text and its own catalogue
unfoldable pub AllLeafed : Type 0
unfolding leafing programs
AllLeafed = (text c : List ℕ) (room : ℕ) (rs : List Record) → fresh text c ≡ yes rs → Leafed (programs rs) room (leafing text c room)
