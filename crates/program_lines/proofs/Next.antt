-- The PG lines of a text, line by line.
use Prim.Native.Nat.{ℕ, ◌+◌, ◌-◌, ◌≤◌, ◌<◌}
use mathlib.Core.Path.{◌≡◌, refl, sym, ap, ◌∙◌}
use mathlib.Core.Bool.{true, false, cond}
use mathlib.Core.List.{List, [], ◌∷◌}
use native.Mathlib.Omega.{arith}
use lib.ListN.{length, take, drop, length-drop, drop_of_length-le}
use lib.Seq.{drop-drop}
use Rattle.format.specs.Lines.{lines_from}
use Rattle.byte_slices.specs.First.{first_line}
use Rattle.byte_slices.specs.declared.Cut.{Cut}
use Rattle.byte_slices.proofs.Lines.{lines_none}
use Rattle.byte_slices.proofs.First.{lines-first, first-le, first-within, first_some}
use Rattle.program_lines.specs.Found.{may_be_program, program_lines, pg_from}

-- there is no line after the last
pub pg-none : (t : List ℕ) (at : ℕ) → length t ≤ at → pg_from t at ≡ []
unfolding program_lines
pg-none t at h = ap (λ s. program_lines (lines_from at s)) (drop_of_length-le t h) ∙ ap program_lines (lines_none at)

-- the part of the text that the line is lent as
abbrev pub lent : List ℕ → ℕ → ℕ → List ℕ
lent t at n = take (at + n - at) (drop at t)

-- the first line of those that are left
pub record Turn (t : List ℕ) (at : ℕ) (c : Cut) : Type 0 where
  pub inside : at + c.len ≤ length t
  pub onward : 0 < c.next
  pub within : at + c.next ≤ length t
  pub first : may_be_program (lent t at c.len) ≡ true → pg_from t at ≡ record { at = at; bytes = take c.len (drop at t) } ∷ pg_from t (at + c.next)
  pub other : may_be_program (lent t at c.len) ≡ false → pg_from t at ≡ pg_from t (at + c.next)

pub turn : (t : List ℕ) (at : ℕ) → at < length t → (c : Cut) → c ≡ first_line (drop at t) → Turn t at c
unfolding program_lines
turn t at h c f =
    let s : List ℕ = drop at t in
    let l : length s ≡ length t - at = length-drop at t in
    let bound : (c.len ≤ c.next) × (c.next ≤ length s) × (0 < c.next) = rw f (first-le s, first-within s, first_some s (omega arith)) in
    let m : at + c.len - at ≡ c.len = omega arith in
    let cut : lines_from at s ≡ record { at = at; bytes = take c.len s } ∷ lines_from (at + c.next) (drop (at + c.next) t) =
    lines-first at s (omega arith) ∙ rw (← f, drop-drop c.next at t) refl in
    let list : pg_from t at ≡ cond (may_be_program (take c.len s)) (record { at = at; bytes = take c.len s } ∷ pg_from t (at + c.next)) (pg_from t (at + c.next)) = ap program_lines cut in
    record {
      inside = omega (arith, bound);
      onward = bound.2;
      within = omega (arith, bound);
      first = λ e. list ∙ ap (λ b. cond b (record { at = at; bytes = take c.len s } ∷ pg_from t (at + c.next)) (pg_from t (at + c.next))) (ap (λ n. may_be_program (take n s)) (sym m) ∙ e);
      other = λ e. list ∙ ap (λ b. cond b (record { at = at; bytes = take c.len s } ∷ pg_from t (at + c.next)) (pg_from t (at + c.next))) (ap (λ n. may_be_program (take n s)) (sym m) ∙ e);
    }
