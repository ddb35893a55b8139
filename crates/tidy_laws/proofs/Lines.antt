-- The lines of the tidy text are its records' lines.
use Prim.Native.Nat.{ℕ, ◌+◌}
use mathlib.Core.Path.{◌≡◌, refl, ap}
use mathlib.Core.Bool.{false, ◌||◌}
use mathlib.Core.List.{List, [], ◌∷◌, ◌++◌}
use lib.ListN.{length}
use lib.Seq.{append_snoc}
use lib.Dec.{eqb}
use Rattle.format.specs.Bytes.{any}
use Rattle.format.specs.Lines.{onto, broken, chomp, lines_from}
use Rattle.format.specs.Records.{Record, breaks}
use Rattle.format.specs.Tidy.{record_text}
use Rattle.accepted.specs.Sound.{Sound}
use Rattle.lists.proofs.Bools.{or_left, or_right}
use Rattle.tidy_laws.specs.Line.{record_line, Unbroken}
use Rattle.tidy_laws.proofs.Line.{record-line, line-unbroken}

-- a byte that is neither LF nor CR, and bytes after it that are neither
record Unbreaking (b : ℕ) (s : List ℕ) : Type 0 where
  no-lf : eqb b 10 ≡ false
  no-cr : eqb b 13 ≡ false
  rest : any breaks s ≡ false

unbreaking : (b : ℕ) (s : List ℕ) → any breaks (b ∷ s) ≡ false → Unbreaking b s
unfolding any breaks
unbreaking b s h =
    let t : eqb b 10 || eqb b 13 ≡ false = or_left (eqb b 10 || eqb b 13) (any breaks s) h in
    record { no-lf = or_left (eqb b 10) (eqb b 13) t; no-cr = or_right (eqb b 10) (eqb b 13) t; rest = or_right (eqb b 10 || eqb b 13) (any breaks s) h }

broken-line : (l s : List ℕ) → any breaks l ≡ false → broken (l ++ (10 ∷ s)) ≡ (l ++ (10 ∷ [])) ∷ broken s
unfolding broken onto
broken-line [] s h = refl
broken-line (b ∷ l) s h =
    let u : Unbreaking b l = unbreaking b l h in
    rw (u.no-lf, broken-line l s u.rest) refl

chomp-line : (l : List ℕ) → any breaks l ≡ false → chomp (l ++ (10 ∷ [])) ≡ l
unfolding chomp
chomp-line [] h = refl
chomp-line (b ∷ []) h = rw (unbreaking b [] h).no-cr refl
chomp-line (b ∷ c ∷ []) h = ap (λ l. b ∷ l) (chomp-line (c ∷ []) (unbreaking b (c ∷ []) h).rest)
chomp-line (b ∷ c ∷ d ∷ s) h = ap (λ l. b ∷ l) (chomp-line (c ∷ d ∷ s) (unbreaking b (c ∷ d ∷ s) h).rest)

-- a line without LF or CR, its LF, and what follows
pub lines-line : (at : ℕ) (l s : List ℕ) → any breaks l ≡ false
    → lines_from at (l ++ (10 ∷ s)) ≡ record { at = at; bytes = l } ∷ lines_from (at + length (l ++ (10 ∷ []))) s
unfolding lines_from
lines-line at l s h = rw (broken-line l s h, chomp-line l h) refl

pub lines-record : (at : ℕ) (r : Record) (s : List ℕ) → Sound r → Unbroken r
    → lines_from at (record_text r ++ s) ≡ record { at = at; bytes = record_line r } ∷ lines_from (at + length (record_text r)) s
lines-record at r s h u = rw (record-line r, append_snoc (record_line r) 10 s) (lines-line at (record_line r) s (line-unbroken r h u))
