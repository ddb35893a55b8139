-- The tidy text satisfies its laws.
use Prim.Native.Nat.{ℕ, ◌≤◌}
use mathlib.Core.Path.{◌≡◌, refl, sym, ap, ◌∙◌}
use mathlib.Core.List.{List}
use mathlib.Core.Logic.{◌↔◌}
use mathlib.Core.Option.{none}
use native.Mathlib.Omega.{arith}
use lib.ListN.{length}
use borrow.Author.Tests.{le-ltb}
use Rattle.format.specs.Records.{Record}
use Rattle.format.specs.Reading.{read_text, longest}
use Rattle.format.specs.Tidy.{in_order, tidy, unwritable}
use Rattle.format.specs.Calls.{Answer, yes, then, read_answer, records, fitting, writing, tidying}
use Rattle.tidy_laws.specs.Bare.{Equal}
use Rattle.tidy_laws.specs.Writable.{Writable}
use Rattle.tidy_laws.specs.Gathered.{Gathered}
use Rattle.tidy_laws.specs.Faithful.{Allowed, Holds, Kept, tidied, Faithful}
use Rattle.tidy_laws.proofs.Answered.{read_of}
use Rattle.tidy_laws.proofs.Bare.{tidy-equal}
use Rattle.tidy_laws.proofs.Back.{Back}
use Rattle.tidy_laws.proofs.Gathered.{text-gathered, gathered-writable}
use Rattle.tidy_laws.proofs.Total.{gathered-length}
use Rattle.tidy_laws.proofs.Tidy.{tidy-back, back-equal, tidy-again, tidy-tells, names-again}

-- a header that can be written
tidying-fits : (t : List ℕ) (rs : List Record) (room : ℕ) → records t ≡ yes rs → unwritable 0 rs ≡ none → length (tidy rs) ≤ 16777216 → tidying t room ≡ fitting room (tidy rs)
unfolding tidying then writing longest
tidying-fits t rs room e n h = rw (e, n, le-ltb 16777216 (length (tidy rs)) h) refl

-- records that a text can hold
pub holds : (rs : List Record) → Writable rs → length (tidy rs) ≤ 16777216 → unwritable 0 rs ≡ none → Holds rs
unfolding records read_answer
holds rs w h n =
    let b : Back (in_order rs) (read_text (tidy rs)) = tidy-back rs w h in
    let yes-found : records (tidy rs) ≡ yes b.found = ap read_answer b.reads in
    let self : tidy b.found ≡ tidy rs = tidy-again rs w h in
    record {
      found = b.found;
      accepted = yes-found;
      equal = back-equal rs w h;
      order = b.same;
      again = λ room. tidying-fits (tidy rs) b.found room yes-found (names-again rs b.found b.same n) (rw self h) ∙ ap (fitting room) self;
    }

module _ (t : List ℕ) (rs : List Record) (a : Allowed t rs) where
  gathered : Gathered t rs
  gathered = text-gathered t rs (read_of t rs a.accepted)

  writable : Writable rs
  writable = gathered-writable t rs gathered

  fits : length (tidy rs) ≤ 16777216
  fits = omega (arith, gathered-length t rs gathered, a.small)

  kept : Kept t rs
  kept =
      record {
        answers = λ room. tidying-fits t rs room a.accepted a.names fits;
        long = gathered-length t rs gathered;
        holds = holds rs writable fits a.names;
      }

  tidied-yes : tidied t ≡ yes (tidy rs)
  unfolding tidied fitting
  tidied-yes = tidying-fits t rs 16777216 a.accepted a.names fits ∙ rw (le-ltb 16777216 (length (tidy rs)) fits) refl

one-yes : (x y : List ℕ) → ◌≡◌ {A = Answer (List ℕ)} (yes x) (yes y) → x ≡ y
one-yes x y e = cc

told : (t u : List ℕ) (rs qs : List Record) → Allowed t rs → Allowed u qs → (tidied t ≡ tidied u) ↔ Equal rs qs
told t u rs qs a b = (
  λ e. tidy-tells rs qs (writable t rs a) (writable u qs b) (fits t rs a) (one-yes (tidy rs) (tidy qs) (sym (tidied-yes t rs a) ∙ e ∙ tidied-yes u qs b)),
  λ e. tidied-yes t rs a ∙ ap yes (tidy-equal rs qs e) ∙ sym (tidied-yes u qs b),
)

pub faithful : Faithful
faithful = record { kept = kept; told = told }
