-- Whether no tag is repeated: what one more line says of it.
use Prim.Native.Nat.{ℕ, ◌+◌, ◌≤◌, ◌<◌}
use mathlib.Core.Path.{◌≡◌, refl, sym, ap, ◌∙◌}
use mathlib.Core.Bool.{Bool, true, false, ◌&&◌, ◌||◌, false≢true}
use mathlib.Core.List.{List, [], ◌∷◌, ◌++◌}
use native.Mathlib.Omega.{arith}
use lib.ListN.{length, take, drop, length-drop, drop_of_length-le}
use lib.Seq.{drop-drop}
use Rattle.format.specs.Lines.{Piece, lines, lines_from}
use Rattle.format.specs.Records.{Record, Line, refused_line, read, line}
use Rattle.format.specs.Reading.{Reading, admitted, read_on, read_from}
use Rattle.byte_slices.specs.First.{first_line}
use Rattle.accepted.specs.Read.{is_read, is_accepted}
use Rattle.accepted.proofs.Onward.{read_first, read_none}
use Rattle.accepted_rule.specs.Rule.{is_once}
use Rattle.accepted_rule.proofs.Lax.{admitted-lax, admitted-repeats}

-- at the line that starts at `at`, the line number `n`: the strict rule accepts the text where it accepts the lines before, `once`, and those ahead
unfoldable pub Once : List ℕ → Bool → ℕ → ℕ → List Record → Type 0
unfolding is_once is_accepted read_from
Once t once at n before = is_once t ≡ (once && is_accepted (read_from true n before (lines_from at (drop at t))))

pub once-start : (t : List ℕ) → Once t true 0 0 []
unfolding Once is_once lines
once-start t = refl

and-true : (a : Bool) → (a && true) ≡ a
and-true true = refl
and-true false = refl

-- no line is left
pub once-end : (t : List ℕ) (once : Bool) (at n : ℕ) (before : List Record) → Once t once at n before → length t ≤ at → is_once t ≡ once
unfolding Once is_accepted
once-end t once at n before o h =
    o
    ∙ ap (λ l. once && is_accepted (read_from true n before (lines_from at l))) (drop_of_length-le t h)
    ∙ ap (λ x. once && is_accepted x) (read_none true n before at)
    ∙ and-true once

-- a line that the text's own rule takes as the record `r`
step : (strict once : Bool) (n : ℕ) (next : Record → Reading) (before : List Record) (p : Piece) (r : Record) → admitted strict before p ≡ read r
    → (once && is_accepted (read_on n next (admitted true before p))) ≡ ((once && (strict || is_read (line true p))) && is_accepted (next r))
unfolding read_on is_accepted is_read
step true once n next before p r ok = ap (λ l. once && is_accepted (read_on n next l)) ok ∙ ap (λ b. b && is_accepted (next r)) (sym (and-true once))
step false once n next before p r ok = go (is_read (line true p)) refl
  where
    none : (l : Line) → is_read l ≡ false → is_accepted (read_on n next l) ≡ false
    none (refused_line m) e = refl
    none (read q) e = absurd (false≢true (sym e))

    go : (b : Bool) → is_read (line true p) ≡ b → (once && is_accepted (read_on n next (admitted true before p))) ≡ ((once && b) && is_accepted (next r))
    go true e = ap (λ l. once && is_accepted (read_on n next l)) (admitted-lax before p e ∙ ok) ∙ ap (λ b. b && is_accepted (next r)) (sym (and-true once))
    go false e = ap (λ b. once && b) (none (admitted true before p) (admitted-repeats before p e)) ∙ nothing once (is_accepted (next r))
      where
        nothing : (a b : Bool) → (a && false) ≡ ((a && false) && b)
        nothing true b = refl
        nothing false b = refl

module _ (strict : Bool) (t : List ℕ) (once : Bool) (at n : ℕ) (before : List Record) (o : Once t once at n before) (h : at < length t) (r : Record)
    (ok : admitted strict before (record { at = at; bytes = take (first_line (drop at t)).len (drop at t) }) ≡ read r) where
  pub once-on : Once t (once && (strict || is_read (line true (record { at = at; bytes = take (first_line (drop at t)).len (drop at t) })))) (at + (first_line (drop at t)).next) (n + 1) (before ++ (r ∷ []))
  unfolding Once
  once-on =
      o
      ∙ ap (λ x. once && is_accepted x) (read_first true n before at (drop at t) (omega (arith, length-drop at t)))
      ∙ step strict once n (λ q. read_from true (n + 1) (before ++ (q ∷ [])) (lines_from (at + (first_line (drop at t)).next) (drop (first_line (drop at t)).next (drop at t)))) before
      (record { at = at; bytes = take (first_line (drop at t)).len (drop at t) }) r ok
      ∙ ap
      (λ l. (once && (strict || is_read (line true (record { at = at; bytes = take (first_line (drop at t)).len (drop at t) })))) && is_accepted (read_from true (n + 1) (before ++ (r ∷ [])) (lines_from (at + (first_line (drop at t)).next) l)))
      (drop-drop (first_line (drop at t)).next at t)
