-- Lines that are accepted where repeated tags are forbidden are the same records where they are allowed.
use Prim.Native.Nat.{ℕ, ◌+◌}
use mathlib.Core.Path.{◌≡◌, refl, sym, ap, ◌∙◌}
use mathlib.Core.Bool.{Bool, true, false, false≢true}
use mathlib.Core.List.{List, [], ◌∷◌, ◌++◌}
use Rattle.format.specs.Lines.{Piece}
use Rattle.format.specs.Records.{Record, Line, refused_line, read, line}
use Rattle.format.specs.Reading.{Reading, following, admitted, read_on, read_from}
use Rattle.accepted.specs.Read.{is_read, is_accepted}
use Rattle.accepted_line.proofs.Lax.{line-lax}

-- a line, after the records before it
pub admitted-lax : (before : List Record) (p : Piece) → is_read (line true p) ≡ true → admitted true before p ≡ admitted false before p
unfolding admitted
admitted-lax before p h = ap (following before) (line-lax true p h)

-- a line that the rule refuses is refused whatever is before it
pub admitted-repeats : (before : List Record) (p : Piece) → is_read (line true p) ≡ false → is_read (admitted true before p) ≡ false
unfolding admitted following is_read
admitted-repeats before p h = go (line true p) h
  where
    go : (l : Line) → is_read l ≡ false → is_read (following before l) ≡ false
    go (refused_line n) h = refl
    go (read r) h = absurd (false≢true (sym h))

-- all lines
pub from-lax : (n : ℕ) (before : List Record) (ps : List Piece) → is_accepted (read_from true n before ps) ≡ true → read_from true n before ps ≡ read_from false n before ps
unfolding is_accepted read_from read_on is_read
from-lax n before [] h = refl
from-lax n before (p ∷ ps) h = go (is_read (line true p)) refl (admitted true before p) refl h (λ r. from-lax (n + 1) (before ++ (r ∷ [])) ps)
  where
    rest : Bool → Record → Reading
    rest strict r = read_from strict (n + 1) (before ++ (r ∷ [])) ps

    go : (b : Bool) → is_read (line true p) ≡ b → (l : Line) → admitted true before p ≡ l → is_accepted (read_on n (rest true) l) ≡ true
        → ((r : Record) → is_accepted (rest true r) ≡ true → rest true r ≡ rest false r) → read_on n (rest true) l ≡ read_on n (rest false) (admitted false before p)
    go b e (refused_line m) q h ih = absurd (false≢true h)
    go true e (read r) q h ih = ih r h ∙ ap (read_on n (rest false)) (sym q ∙ admitted-lax before p e)
    go false e (read r) q h ih = absurd (false≢true (sym (admitted-repeats before p e) ∙ ap is_read q))
