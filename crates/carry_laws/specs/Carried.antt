-- What carrying on must satisfy. For texts of at most 16,777,215 bytes whose kept reference names are allowed: the tidy text of the kept records is
-- accepted and holds exactly these; tidying it, or carrying on over it, changes nothing and skips nothing; two texts have equal tidy texts exactly
-- when the same records are kept of them. For every text that is not too long, reading is carrying on up to the first skip. For every text of which
-- nothing is skipped, carrying on is tidying.
use Rattle.std.specs.Prelude.{ℕ, ◌+◌, ◌≤◌, ◌≡◌, ◌↔◌, List, [], ◌∷◌, length}
use Rattle.std.proofs.Math.Option.{none}
use Rattle.format.specs.Records.{Record, Line}
use Rattle.format.specs.Tidy.{tidy}
use Rattle.format.specs.Calls.{Answer, refused, yes, then, records, fitting, tidying}
use Rattle.tidy_laws.specs.Bare.{Equal}
use Rattle.tidy_laws.specs.Faithful.{Holds}
use Rattle.format.specs.Carrying.{kept_of, carried_lines, Skip, skips, rows, unwritable_line, carrying}

-- a text as above, whose lines are judged as `ls`
pub record AllowedLines (t : List ℕ) (ls : List Line) : Type 0 where
  pub judged : carried_lines t ≡ ls
  pub small : length t ≤ 16777215
  pub names : unwritable_line 0 ls ≡ none

-- the laws of one text
pub record Carried (t : List ℕ) (ls : List Line) : Type 0 where
  -- the call refuses only for an output or a table that is too short
  pub answers : (room table : ℕ)
      → carrying t room table ≡ then (fitting room (tidy (kept_of ls))) (λ out. then (fitting table (rows (skips 0 ls))) (λ ss. yes (out, ss)))
  -- the tidy text is at most one byte longer than the text
  pub long : length (tidy (kept_of ls)) ≤ length t + 1
  pub holds : Holds (kept_of ls)
  -- carrying on over it changes nothing and skips nothing
  pub still : (room table : ℕ)
      → carrying (tidy (kept_of ls)) room table ≡ then (fitting room (tidy (kept_of ls))) (λ out. yes (out, []))

-- the answer of reading, from the skips and the kept records
unfoldable pub unless_skipped : List Skip → List Record → Answer (List Record)
unless_skipped [] rs = yes rs
unless_skipped (s ∷ ss) rs = refused s.refusal s.line

pub record CarriedFaithfully : Type 0 where
  pub carried : (t : List ℕ) (ls : List Line) → AllowedLines t ls → Carried t ls
  pub told : (t u : List ℕ) (ls ms : List Line) → AllowedLines t ls → AllowedLines u ms → (tidy (kept_of ls) ≡ tidy (kept_of ms)) ↔ Equal (kept_of ls) (kept_of ms)
  pub reads : (t : List ℕ) → length t ≤ 16777216 → records t ≡ unless_skipped (skips 0 (carried_lines t)) (kept_of (carried_lines t))
  pub tidies : (t : List ℕ) (room table : ℕ) → skips 0 (carried_lines t) ≡ [] → carrying t room table ≡ then (tidying t room) (λ out. yes (out, []))
