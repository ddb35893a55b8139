-- The call's answer by what writing the tidy text says, and the answer in the code's numbers.
use Prim.Native.Nat.{ℕ, ◌/◌, ◌≤◌, ◌<◌}
use mathlib.Core.Path.{◌≡◌, refl, sym, ap, ◌∙◌}
use mathlib.Core.List.{List}
use lib.ListN.{length, length-replicate}
use borrow.Author.Tests.{lt-ltb, le-ltb}
use Rattle.format.specs.Reading.{longest}
use Rattle.format.specs.Tidy.{tidy}
use Rattle.format.specs.Calls.{Answer, refused, yes, then, fitting, writing}
use Rattle.format.specs.Work.{all_zeros}
use Rattle.byte_slices.specs.Over.{over}
use Rattle.read.specs.Answers.{output_of}
use Rattle.read.proofs.AnswerCases.{written-answer}
use Rattle.format.specs.Carrying.{kept_of, carried_lines, skips, rows, unwritable_line, carrying}
use Rattle.carry_on.specs.Answers.{carried_of, text_of, table_of}
use Rattle.std.specs.Prelude.{Result, Ok, Err}
use Rattle.format.specs.declared.Refusal.{Refusal}
use Rattle.carry_on.specs.declared.Written.{Written}

-- ---- 1, then what writing the tidy text says, then 20

module _ (t : List ℕ) (room table : ℕ) where
  pub told-long : 16777216 < length t → carrying t room table ≡ refused 1 0
  unfolding carrying longest
  told-long h = rw (lt-ltb 16777216 (length t) h) refl

  module _ (h : length t ≤ 16777216) where
    pub told-refused : (n l : ℕ) → writing room (unwritable_line 0 (carried_lines t)) (tidy (kept_of (carried_lines t))) ≡ refused n l → carrying t room table ≡ refused n l
    unfolding carrying longest then
    told-refused n l e = rw (le-ltb 16777216 (length t) h, e) refl

    pub told-short : (xs : List ℕ) → writing room (unwritable_line 0 (carried_lines t)) (tidy (kept_of (carried_lines t))) ≡ yes xs
        → table < length (rows (skips 0 (carried_lines t))) → carrying t room table ≡ refused 20 0
    unfolding carrying longest then fitting
    told-short xs e s = rw (le-ltb 16777216 (length t) h, e, lt-ltb table (length (rows (skips 0 (carried_lines t)))) s) refl

    pub told-fits : (xs : List ℕ) → writing room (unwritable_line 0 (carried_lines t)) (tidy (kept_of (carried_lines t))) ≡ yes xs
        → length (rows (skips 0 (carried_lines t))) ≤ table → carrying t room table ≡ yes (xs, rows (skips 0 (carried_lines t)))
    unfolding carrying longest then fitting
    told-fits xs e s = rw (le-ltb 16777216 (length t) h, e, le-ltb table (length (rows (skips 0 (carried_lines t)))) s) refl

-- ---- the answers in the code's numbers

module _ (a : Answer (List ℕ × List ℕ)) (out table : List ℕ) where
  pub refused_all : (r : Refusal) → a ≡ refused r.number r.line.0 → (Err r ≡ carried_of a) × ((out ≡ output_of (text_of a) out) × (table ≡ output_of (table_of a) table))
  unfolding carried_of text_of table_of output_of
  refused_all r e = (sym (ap carried_of e), (sym (ap (λ x. output_of (text_of x) out) e), sym (ap (λ x. output_of (table_of x) table) e)))

  pub written_all : (xs ys out' table' : List ℕ) (n m : ℕ) → a ≡ yes (xs, ys) → n ≡ length xs → m ≡ length ys / 2 → out' ≡ over out 0 xs → table' ≡ over table 0 ys
      → (◌≡◌ {A = Result Written Refusal} (Ok (record { size = n; skipped = m })) (carried_of a)) × ((out' ≡ output_of (text_of a) out) × (table' ≡ output_of (table_of a) table))
  unfolding carried_of text_of table_of
  written_all xs ys out' table' n m e p q v w = (
    rw (p, q) (sym (ap carried_of e)),
    ((written-answer (text_of a) out xs out' (length xs) (ap text_of e) refl v).1, (written-answer (table_of a) table ys table' (length ys) (ap table_of e) refl w).1),
  )

-- an area of zeros is as long as it was
pub zeros-long : (xs ys : List ℕ) → xs ≡ all_zeros ys → length xs ≡ length ys
unfolding all_zeros
zeros-long xs ys e = ap length e ∙ length-replicate (length ys) 0
