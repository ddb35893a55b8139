-- What pruning must satisfy (Req 14). Programs are identified by their IDs, because ordinals are counted anew in the text that is answered.
use Rattle.std.specs.Prelude.{ℕ, ◌≡◌, true, List, [], map, length, get_or, eqb}
use Rattle.format.specs.Bytes.{any, same}
use Rattle.format.specs.Programs.{Program, programs, links, leaves, tangled}
use Rattle.format.specs.Adding.{no_program}
use Rattle.format.specs.Calls.{yes, reading}
use Rattle.format.specs.Prune.{pruning}
use Rattle.accepted.specs.Read.{records_of}

-- the programs of a text; none if it is refused
unfoldable pub programs_in : List ℕ → List Program
unfolding programs records_of
programs_in text = programs (records_of text)

-- the ID of the program `k` of a text; empty if there is none
unfoldable pub id_at : List ℕ → ℕ → List ℕ
unfolding programs_in no_program
id_at text k = (get_or (programs_in text) k no_program).id

-- `out` is the text `t` pruned by the programs `us`
pub record Pruned (t : List ℕ) (us : List ℕ) (out : List ℕ) : Type 0 where
  -- every PP that stays names a program that stays, and no program comes back to itself
  pub whole : tangled (links (programs_in out)) ≡ 0
  -- every leaf that stays was in use
  pub in_use : (k : ℕ) → any (eqb k) (leaves (links (programs_in out))) ≡ true → any (same (id_at out k)) (map (id_at t) us) ≡ true
  -- pruning by the same programs, `vs` in the new text, changes nothing
  pub again : (c vs : List ℕ) (room : ℕ) → reading out room ≡ yes c → map (id_at out) vs ≡ map (id_at t) us
      → pruning out c vs (length out) ≡ yes out
  -- with no program in use, none stays
  pub empty : us ≡ [] → programs_in out ≡ []

-- the law of every text that pruning answers
unfoldable pub Prunes : Type 0
unfolding pruning
Prunes = (t c us : List ℕ) (room : ℕ) (out : List ℕ) → pruning t c us room ≡ yes out → Pruned t us out
