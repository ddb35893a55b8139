-- Carrying on satisfies its laws.
use Prim.Native.Nat.{ℕ, ◌≤◌}
use mathlib.Core.Path.{◌≡◌, refl, sym, ap, ◌∙◌}
use mathlib.Core.Bool.{Bool, true, false}
use mathlib.Core.List.{List, [], ◌∷◌}
use mathlib.Core.Logic.{◌↔◌}
use native.Mathlib.Omega.{arith}
use lib.ListN.{length}
use lib.Dec.{ltb}
use borrow.Author.Tests.{le-ltb, ltb-false}
use Rattle.format.specs.Records.{Record, Line}
use Rattle.format.specs.Reading.{accept, longest, read_text}
use Rattle.format.specs.Tidy.{tidy}
use Rattle.format.specs.Calls.{yes, then, read_answer, records, fitting, writing, tidying}
use Rattle.accepted.specs.Read.{is_accepted, records_of}
use Rattle.lists.proofs.Bools.{never}
use Rattle.accepted.proofs.Read.{accepted-reads}
use Rattle.accepted.proofs.Text.{text-fits}
use Rattle.tidy_laws.specs.Bare.{Equal}
use Rattle.tidy_laws.specs.Writable.{Writable}
use Rattle.tidy_laws.specs.Gathered.{Gathered}
use Rattle.tidy_laws.specs.Faithful.{Holds}
use Rattle.tidy_laws.proofs.Bare.{tidy-equal}
use Rattle.tidy_laws.proofs.Gathered.{gathered-writable}
use Rattle.tidy_laws.proofs.Total.{gathered-length}
use Rattle.tidy_laws.proofs.Tidy.{tidy-tells}
use Rattle.tidy_laws.proofs.Faithful.{holds}
use Rattle.format.specs.Carrying.{kept_of, carried_lines, Skip, skips, rows, carrying}
use Rattle.carry_laws.specs.Carried.{AllowedLines, Carried, unless_skipped, CarriedFaithfully}
use Rattle.carry_laws.proofs.Skips.{reads}
use Rattle.carry_laws.proofs.Kept.{carried-gathered, kept-names, unskipped-names}

-- ---- where nothing is skipped

-- an empty table fits
fits-none : (table : ℕ) → fitting table [] ≡ yes []
unfolding fitting
fits-none table = rw (le-ltb table 0 (omega arith)) refl

unskipped-carrying : (t : List ℕ) (room table : ℕ) → length t ≤ 16777216 → skips 0 (carried_lines t) ≡ []
    → carrying t room table ≡ then (tidying t room) (λ out. yes (out, []))
unfolding carrying longest tidying then rows unless_skipped
unskipped-carrying t room table h e =
    rw (reads t h, e, le-ltb 16777216 (length t) h, fits-none table, unskipped-names 0 (carried_lines t) e) refl

tidies : (t : List ℕ) (room table : ℕ) → skips 0 (carried_lines t) ≡ [] → carrying t room table ≡ then (tidying t room) (λ out. yes (out, []))
unfolding carrying longest tidying then records read_text read_answer
tidies t room table e = go (ltb 16777216 (length t)) refl
  where
    go : (b : Bool) → ltb 16777216 (length t) ≡ b → carrying t room table ≡ then (tidying t room) (λ out. yes (out, []))
    go true h = rw h refl
    go false h = unskipped-carrying t room table (ltb-false 16777216 (length t) h) e

-- a text that is read has no skips
read-unskipped : (ss : List Skip) (rs qs : List Record) → unless_skipped ss rs ≡ yes qs → ss ≡ []
unfolding unless_skipped
read-unskipped [] rs qs e = refl
read-unskipped (s ∷ ss) rs qs e = absurd (never (cc))

-- the records of a text that reading accepts
accepted-records : (t : List ℕ) → read_text t ≡ accept (records_of t) → records t ≡ yes (records_of t)
unfolding records read_answer
accepted-records t e = rw e refl

-- carrying on over such a text is tidying
pub accepted-tidies : (t : List ℕ) (room table : ℕ) → is_accepted (read_text t) ≡ true → carrying t room table ≡ then (tidying t room) (λ out. yes (out, []))
accepted-tidies t room table a =
    let read = accepted-reads t a in
    tidies t room table
    (read-unskipped (skips 0 (carried_lines t)) (kept_of (carried_lines t)) (records_of t)
    (sym (reads t (text-fits t (records_of t) read)) ∙ accepted-records t read))

-- ---- one text

module _ (t : List ℕ) (ls : List Line) (a : AllowedLines t ls) where
  gathered : Gathered t (kept_of ls)
  gathered = rw (← a.judged) (carried-gathered t)

  writable : Writable (kept_of ls)
  writable = gathered-writable t (kept_of ls) gathered

  fits : length (tidy (kept_of ls)) ≤ 16777216
  fits = omega (arith, gathered-length t (kept_of ls) gathered, a.small)

  held : Holds (kept_of ls)
  held = holds (kept_of ls) writable fits (kept-names 0 0 ls a.names)

  answers : (room table : ℕ) → carrying t room table ≡ then (fitting room (tidy (kept_of ls))) (λ out. then (fitting table (rows (skips 0 ls))) (λ ss. yes (out, ss)))
  unfolding carrying longest writing
  answers room table = rw (a.judged, le-ltb 16777216 (length t) (omega (arith, a.small)), a.names, le-ltb 16777216 (length (tidy (kept_of ls))) fits) refl

  still : (room table : ℕ) → carrying (tidy (kept_of ls)) room table ≡ then (fitting room (tidy (kept_of ls))) (λ out. yes (out, []))
  still room table =
      let u : List ℕ = tidy (kept_of ls) in
      let none-skipped : skips 0 (carried_lines u) ≡ [] = read-unskipped (skips 0 (carried_lines u)) (kept_of (carried_lines u)) held.found (sym (reads u fits) ∙ held.accepted) in
      tidies u room table none-skipped ∙ ap (λ w. then w (λ out. yes (out, []))) (held.again room)

  carried : Carried t ls
  carried = record { answers = answers; long = gathered-length t (kept_of ls) gathered; holds = held; still = still }

-- ---- two texts

told : (t u : List ℕ) (ls ms : List Line) → AllowedLines t ls → AllowedLines u ms → (tidy (kept_of ls) ≡ tidy (kept_of ms)) ↔ Equal (kept_of ls) (kept_of ms)
told t u ls ms a b = (
  tidy-tells (kept_of ls) (kept_of ms) (writable t ls a) (writable u ms b) (fits t ls a),
  tidy-equal (kept_of ls) (kept_of ms),
)

pub faithful : CarriedFaithfully
faithful = record { carried = carried; told = told; reads = reads; tidies = tidies }
