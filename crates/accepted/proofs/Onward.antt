-- Reading a text by one line: its first line is judged, and reading goes on after it.
use Prim.Native.Nat.{ℕ, ◌+◌, ◌<◌, ◌≤◌}
use mathlib.Core.Path.{◌≡◌, refl, ap}
use mathlib.Core.Bool.{Bool}
use mathlib.Core.List.{List, [], ◌∷◌, ◌++◌}
use native.Mathlib.Omega.{arith}
use lib.ListN.{length, take, drop, length-drop}
use Rattle.format.specs.Lines.{lines_from}
use Rattle.format.specs.Records.{Record}
use Rattle.format.specs.Reading.{accept, admitted, read_on, read_from}
use Rattle.byte_slices.specs.First.{first_line}
use Rattle.byte_slices.proofs.Lines.{lines_none}
use Rattle.byte_slices.proofs.First.{first_some, first-within, lines-first}
use Rattle.byte_slices.proofs.Stands.{by_parts}

pub read_none : (strict : Bool) (l : ℕ) (before : List Record) (at : ℕ) → read_from strict l before (lines_from at []) ≡ accept before
unfolding read_from
read_none strict l before at = rw (lines_none at) refl

pub read_first : (strict : Bool) (l : ℕ) (before : List Record) (at : ℕ) (s : List ℕ) → 0 < length s
    → read_from strict l before (lines_from at s)
    ≡ read_on l (λ r. read_from strict (l + 1) (before ++ (r ∷ [])) (lines_from (at + (first_line s).next) (drop (first_line s).next s)))
    (admitted strict before (record { at = at; bytes = take (first_line s).len s }))
unfolding read_from
read_first strict l before at s h = ap (read_from strict l before) (lines-first at s h)

-- a text has at most as many lines as bytes
pub lines-count : (at : ℕ) (s : List ℕ) → length (lines_from at s) ≤ length s
lines-count = by_parts (λ at s. length (lines_from at s) ≤ length s) step
  where
    step : (at : ℕ) (s : List ℕ) → ((n : ℕ) → 0 < n → n ≤ length s → length (lines_from (at + n) (drop n s)) ≤ length (drop n s)) → length (lines_from at s) ≤ length s
    step at [] ih = rw (lines_none at) (omega arith)
    step at (b ∷ s) ih =
        let t : List ℕ = b ∷ s in
        let n : ℕ = (first_line t).next in
        let p : 0 < n = first_some t (omega arith) in
        let w : n ≤ length t = first-within t in
        rw (lines-first at t (omega arith)) (omega (arith, ih n p w, length-drop n t))
