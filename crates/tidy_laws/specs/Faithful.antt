-- What the tidy text must satisfy, for accepted texts of at most 16,777,215 bytes with allowed reference names: it is accepted and holds the same
-- records; tidying it again changes nothing; two texts have equal tidy texts exactly when their HD and their SQ, RG, PG and CO lists are equal.
use Rattle.std.specs.Prelude.{ℕ, ◌+◌, ◌≤◌, ◌≡◌, ◌↔◌, List, map, length}
use Rattle.std.proofs.Math.Option.{none}
use Rattle.format.specs.Records.{Record}
use Rattle.format.specs.Tidy.{in_order, tidy, unwritable}
use Rattle.format.specs.Calls.{Answer, yes, records, fitting, tidying}
use Rattle.tidy_laws.specs.Bare.{bare, Equal}

-- a text as above, and its records
pub record Allowed (t : List ℕ) (rs : List Record) : Type 0 where
  pub accepted : records t ≡ yes rs
  pub small : length t ≤ 16777215
  pub names : unwritable 0 rs ≡ none

-- the laws of some records: their tidy text holds them
pub record Holds (rs : List Record) : Type 0 where
  -- it is accepted
  pub found : List Record
  pub accepted : records (tidy rs) ≡ yes found
  -- it holds the same records, kind by kind and each kind in its order
  pub equal : Equal found rs
  pub order : map bare found ≡ map bare (in_order rs)
  -- tidying it changes nothing
  pub again : (room : ℕ) → tidying (tidy rs) room ≡ fitting room (tidy rs)

-- the laws of one text
pub record Kept (t : List ℕ) (rs : List Record) : Type 0 where
  -- tidying answers the tidy text, and refuses only for an output that is too short
  pub answers : (room : ℕ) → tidying t room ≡ fitting room (tidy rs)
  -- the tidy text is at most one byte longer than the text
  pub long : length (tidy rs) ≤ length t + 1
  pub holds : Holds rs

-- the tidy text of `t` as the call answers it, for an output that takes every tidy text
unfoldable pub tidied : List ℕ → Answer (List ℕ)
unfolding tidying
tidied t = tidying t 16777216

pub record Faithful : Type 0 where
  pub kept : (t : List ℕ) (rs : List Record) → Allowed t rs → Kept t rs
  pub told : (t u : List ℕ) (rs qs : List Record) → Allowed t rs → Allowed u qs → (tidied t ≡ tidied u) ↔ Equal rs qs
