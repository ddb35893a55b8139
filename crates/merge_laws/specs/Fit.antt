-- A text that a merge can be made of: reading accepts it, no PP dangles, and no program comes back to itself.
use Rattle.std.specs.Prelude.{ℕ, ◌≡◌, false, List}
use Rattle.format.specs.Bytes.{any}
use Rattle.format.specs.Programs.{Link, programs, links, is_dangling, loops_from}
use Rattle.format.specs.Calls.{yes, records}
use Rattle.accepted.specs.Read.{records_of}

-- the parent of each program of a text, in order
unfoldable pub parent_links : List ℕ → List Link
unfolding records_of links programs
parent_links t = links (programs (records_of t))

pub record Fit (t : List ℕ) : Type 0 where
  pub accepted : records t ≡ yes (records_of t)
  pub linked : any is_dangling (parent_links t) ≡ false
  pub acyclic : loops_from (parent_links t) 0 (parent_links t) ≡ false

-- all three texts
pub record Fits (a b m : List ℕ) : Type 0 where
  pub fit_a : Fit a
  pub fit_b : Fit b
  pub fit_merged : Fit m
