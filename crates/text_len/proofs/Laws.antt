-- The laws of a header's length.
use Prim.Native.Nat.{ℕ, ◌+◌, ◌≤◌}
use mathlib.Core.Path.{◌≡◌, refl, sym, ap, ◌∙◌}
use mathlib.Core.Bool.{Bool, true, false, cond}
use mathlib.Core.List.{List, [], ◌∷◌, ◌++◌, append-nil}
use native.Mathlib.Omega.{arith}
use native.Mathlib.Nat.{zero-add}
use lib.ListN.{length, length-append}
use lib.Dec.{eqb}
use Rattle.format.specs.Bytes.{any}
use Rattle.format.specs.Lines.{Piece, lines, lines_from}
use Rattle.format.specs.Records.{Record, refused_line, read, breaks, kinded, prefixed, line}
use Rattle.format.specs.Reading.{read_text, accept}
use Rattle.byte_slices.specs.Stands.{Stands, Each}
use Rattle.byte_slices.proofs.First.{lines-first}
use Rattle.byte_slices.proofs.Lines.{lines_none}
use Rattle.byte_slices.proofs.Stands.{each_map, lines-stand}
use Rattle.accepted.specs.Admits.{strictly}
use Rattle.lists.proofs.Bools.{never}
use Rattle.lists.proofs.Pairs.{pairs-left}
use Rattle.accepted.proofs.Text.{text-lines}
use Rattle.format.specs.TextLen.{headed, other_line, text_len}
use Rattle.text_len.specs.Laws.{AcceptedIsHeader, AllHeaded, CutBehind, AcceptedIsCut, Within}
use Rattle.text_len.proofs.HeaderLines.{headed-first}
use Rattle.text_len.proofs.Behind.{lines-behind}

-- ---- lines that start with `@`

lines-headed : (end : ℕ) (ps qs : List Piece) → Each (λ p. headed p.bytes ≡ true) ps → other_line end (ps ++ qs) ≡ other_line end qs
unfolding Each other_line
lines-headed end [] qs h = refl
lines-headed end (p ∷ ps) qs h = rw h.0 (lines-headed end ps qs h.1)

-- a line that is read starts with `@`
line-headed : (strict : Bool) (p : Piece) (r : Record) → line strict p ≡ read r → headed p.bytes ≡ true
unfolding line prefixed headed
line-headed strict p r e = go (any breaks p.bytes) e
  where
    inner : (s : List ℕ) → prefixed strict p.at s ≡ read r → headed s ≡ true
    inner [] e = absurd (never (cc))
    inner (b ∷ s) e = head (eqb b 64) e
      where
        head : (u : Bool) → cond u (kinded strict (p.at + 1) s) (refused_line 3) ≡ read r → u ≡ true
        head true e = refl
        head false e = absurd (never (cc))

    go : (t : Bool) → cond t (refused_line 2) (prefixed strict p.at p.bytes) ≡ read r → headed p.bytes ≡ true
    go true e = absurd (never (cc))
    go false e = inner p.bytes e

accepted-headed : (t : List ℕ) (rs : List Record) → read_text t ≡ accept rs → AllHeaded t
unfolding AllHeaded
accepted-headed t rs e =
    pairs-left (λ p r. line (strictly t) p ≡ read r) (λ p. headed p.bytes ≡ true) (λ p r. line-headed (strictly t) p r) (lines t) rs (text-lines t rs e)

-- ---- the laws

all-header : (t : List ℕ) → AllHeaded t → text_len t ≡ length t
unfolding AllHeaded text_len other_line
all-header t h = ap (other_line (length t)) (sym (append-nil (lines t))) ∙ lines-headed (length t) (lines t) [] h

pub accepted-is-header : AcceptedIsHeader
unfolding AcceptedIsHeader
accepted-is-header t rs e = all-header t (accepted-headed t rs e)

-- bytes that do not start with `@`
other_at : (at : ℕ) (s : List ℕ) → headed s ≡ false → other_line (at + length s) (lines_from at s) ≡ at
unfolding other_line
other_at at [] h = rw (lines_none at) (omega arith)
other_at at (b ∷ s) h =
    ap (other_line (at + length (b ∷ s))) (lines-first at (b ∷ s) (omega arith))
    ∙ rw (headed-first (b ∷ s), h) refl

pub cut-behind : CutBehind
unfolding CutBehind AllHeaded text_len lines
cut-behind t rest h e o =
    let end : ℕ = length (t ++ rest) in
    ap (other_line end) (lines-behind 0 t rest e) ∙ lines-headed end (lines t) (lines_from (0 + length t) rest) h
    ∙ rw (zero-add (length t), length-append t rest) (other_at (length t) rest o)

pub accepted-is-cut : AcceptedIsCut
unfolding AcceptedIsCut CutBehind
accepted-is-cut t rest rs e l o = cut-behind t rest (accepted-headed t rs e) l o

-- ---- within the bytes

other-within : (end : ℕ) (ps : List Piece) → Each (λ p. p.at ≤ end) ps → other_line end ps ≤ end
unfolding other_line Each
other-within end [] h = omega arith
other-within end (p ∷ ps) h = go (headed p.bytes) (other-within end ps h.1)
  where
    go : (u : Bool) → other_line end ps ≤ end → cond u (other_line end ps) p.at ≤ end
    go true k = k
    go false k = h.0

pub within : Within
unfolding Within text_len lines
within s =
    other-within (length s) (lines_from 0 s)
    (each_map (Stands s 0) (λ p. p.at ≤ length s) (λ p k. omega (arith, k.within)) (lines_from 0 s) (lines-stand 0 s))
