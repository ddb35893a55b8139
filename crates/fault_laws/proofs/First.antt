-- The faults that reading could give are the lines that are skipped; so the first of them is reading's refusal.
use Prim.Native.Nat.{ℕ, ◌+◌, ◌≤◌}
use mathlib.Core.Path.{◌≡◌, refl, sym, ap, ◌∙◌}
use mathlib.Core.List.{List, [], ◌∷◌}
use mathlib.Core.Option.{none}
use lib.ListN.{length, get_or}
use lib.Dec.{eqb}
use Rattle.format.specs.Lines.{lines}
use Rattle.format.specs.Records.{Record, code, Line, refused_line, read}
use Rattle.format.specs.Programs.{Link, root, is_dangling, reaches, links, programs}
use Rattle.format.specs.Tidy.{is_writable}
use Rattle.format.specs.Calls.{records}
use Rattle.format.specs.Carrying.{kept_of, carried_lines, Skip, skips}
use Rattle.carry_laws.specs.Carried.{unless_skipped}
use Rattle.carry_laws.proofs.Skips.{reads}
use Rattle.format.specs.Faults.{link_fault, record_fault, next_program, if_faulty, faults_from, faults_in}
use Rattle.fault_laws.specs.First.{is_later, of_reading, FirstFault}
use Rattle.fault_laws.proofs.Early.{cond_both, Early, AllEarly, all-early}

-- no fault of a line that is kept is reading's
module _ (ks : List Link) (l i : ℕ) (ss : List Skip) where
  unfoldable Passed : ℕ → Type 0
  unfolding if_faulty of_reading
  Passed n = of_reading (if_faulty l n ss) ≡ of_reading ss

  passed-link : Passed (link_fault ks i)
  unfolding Passed link_fault if_faulty of_reading is_later
  passed-link = cond_both Passed (is_dangling (get_or ks i root)) 22 _ refl (cond_both Passed (reaches ks i (length ks) (get_or ks i root)) 23 0 refl refl)

  passed : (r : Record) → of_reading (if_faulty l (record_fault ks i r) ss) ≡ of_reading ss
  unfolding Passed record_fault if_faulty of_reading is_later
  passed r = cond_both Passed (is_writable r) _ 24 (cond_both Passed (eqb (code r) 4) _ 0 passed-link refl) refl

pub of-skips : (ks : List Link) (l i : ℕ) (ls : List Line) → AllEarly ls → of_reading (faults_from ks l i ls) ≡ skips l ls
unfolding faults_from of_reading skips AllEarly Early
of-skips ks l i [] h = refl
of-skips ks l i (refused_line n ∷ ls) h =
    let s : Skip = record { line = l; refusal = n } in
    rw h.0 (ap (λ ss. s ∷ ss) (of-skips ks (l + 1) i ls h.1))
of-skips ks l i (read r ∷ ls) h = passed ks l i (faults_from ks (l + 1) (next_program i r) ls) r ∙ of-skips ks (l + 1) (next_program i r) ls h.1

reading-first : (t : List ℕ) → length t ≤ 16777216 → records t ≡ unless_skipped (of_reading (faults_in (carried_lines t))) (kept_of (carried_lines t))
unfolding faults_in carried_lines
reading-first t h =
    let e : of_reading (faults_in (carried_lines t)) ≡ skips 0 (carried_lines t) =
    of-skips (links (programs (kept_of (carried_lines t)))) 0 0 (carried_lines t) (all-early none [] (lines t)) in
    reads t h ∙ ap (λ ss. unless_skipped ss (kept_of (carried_lines t))) (sym e)

pub first-fault : FirstFault
first-fault = record { first = reading-first }
