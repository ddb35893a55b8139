-- What gathering the programs from a text's own catalogue, and the search for their parents, ask.
use Prim.Native.Nat.{ℕ, ◌≤◌}
use mathlib.Core.Path.{◌≡◌, sym, ap, subst, ◌∙◌}
use mathlib.Core.Bool.{true}
use mathlib.Core.List.{List}
use lib.ListN.{length}
use Rattle.format.specs.Reading.{accept, read_text}
use Rattle.format.specs.Catalogue.{catalogue}
use Rattle.format.specs.Programs.{programs}
use Rattle.accepted.specs.Read.{is_accepted, records_of}
use Rattle.accepted.proofs.Read.{accepted-reads}
use Rattle.catalogue_entries.specs.Entries.{entries_in, counted}
use Rattle.catalogue_lookup.proofs.Kept.{text-few}
use Rattle.program_places.specs.declared.Programs.{Programs}
use Rattle.program_places.specs.Gathered.{noted_in, gathered_of}
use Rattle.program_parents.proofs.Own.{few-programs}

-- it has few programs
pub few-entries : (t c : List ℕ) → is_accepted (read_text t) ≡ true → c ≡ catalogue (records_of t) → counted 4 (entries_in c) ≤ 1024
few-entries t c accepted own = subst (λ s. counted 4 (entries_in s) ≤ 1024) (sym own) (text-few t (records_of t) (accepted-reads t accepted))

-- what is gathered from it is what the text's programs are
pub record Opened (t c : List ℕ) : Type 0 where
  pub accepted : is_accepted (read_text t) ≡ true
  pub entries : counted 4 (entries_in c) ≤ 1024
  pub gathers : (p : Programs) → p ≡ gathered_of (noted_in (entries_in c)) → p ≡ gathered_of (noted_in (entries_in (catalogue (records_of t))))
  pub few : length (programs (records_of t)) ≤ 1024

module _ (t c : List ℕ) (reads : read_text t ≡ accept (records_of t)) (own : c ≡ catalogue (records_of t)) where
  own-accepted : is_accepted (read_text t) ≡ true
  unfolding is_accepted
  own-accepted = ap is_accepted reads

  pub opened : Opened t c
  opened = record {
    accepted = own-accepted;
    entries = subst (λ s. counted 4 (entries_in s) ≤ 1024) (sym own) (text-few t (records_of t) reads);
    gathers = λ p e. e ∙ ap (λ s. gathered_of (noted_in (entries_in s))) own;
    few = few-programs t own-accepted;
  }
