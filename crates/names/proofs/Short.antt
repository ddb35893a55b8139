-- A catalogue has at most eight times as many bytes as its text.
use Prim.Native.Nat.{ℕ, ◌+◌, ◌*◌, ◌≤◌, ◌<◌}
use mathlib.Core.Path.{◌≡◌, sym, ap, ◌∙◌}
use mathlib.Core.Bool.{Bool}
use mathlib.Core.List.{List, [], ◌∷◌}
use native.Mathlib.Omega.{arith}
use lib.ListN.{length, take, drop, length-append, length-drop}
use lib.Seq.{length-take-le}
use Rattle.format.specs.Lines.{Piece, lines, lines_from}
use Rattle.format.specs.Records.{Record, line, read}
use Rattle.format.specs.Reading.{accept, read_text}
use Rattle.format.specs.Catalogue.{catalogue_from, catalogue}
use Rattle.byte_slices.specs.First.{first_line}
use Rattle.byte_slices.proofs.Lines.{lines_none}
use Rattle.byte_slices.proofs.First.{first_some, first-within, first-le, lines-first}
use Rattle.byte_slices.proofs.Stands.{by_parts}
use Rattle.accepted.specs.Admits.{strictly}
use Rattle.lists.specs.Pairs.{Pairs}
use Rattle.accepted.proofs.Text.{text-lines, text-fits}
use Rattle.catalogue_lines.specs.Line.{record_bytes}
use Rattle.catalogue_lines.proofs.Records.{from_cons}
use Rattle.catalogue_lines.proofs.Length.{bytes-few}

-- the bytes of lines
unfoldable total : List Piece → ℕ
total [] = 0
total (p ∷ ps) = length p.bytes + total ps

lines-total : (at : ℕ) (s : List ℕ) → total (lines_from at s) ≤ length s
unfolding total
lines-total = by_parts (λ at s. total (lines_from at s) ≤ length s) step
  where
    step : (at : ℕ) (s : List ℕ) → ((n : ℕ) → 0 < n → n ≤ length s → total (lines_from (at + n) (drop n s)) ≤ length (drop n s)) → total (lines_from at s) ≤ length s
    step at [] ih = rw (lines_none at) (omega arith)
    step at (b ∷ s) ih =
        let t : List ℕ = b ∷ s in
        let n : ℕ = (first_line t).next in
        let p : 0 < n = first_some t (omega arith) in
        let w : n ≤ length t = first-within t in
        let m : length (take (first_line t).len t) ≡ (first_line t).len = length-take-le (first_line t).len t (omega (arith, w, first-le t)) in
        rw (lines-first at t (omega arith)) (omega (arith, ih n p w, length-drop n t, m, first-le t))

records-short : (strict : Bool) (l : ℕ) (ps : List Piece) (rs : List Record) → Pairs (λ p r. line strict p ≡ read r) ps rs → length (catalogue_from l rs) ≤ 8 * total ps
unfolding Pairs total catalogue_from
records-short strict l [] [] h = omega arith
records-short strict l [] (r ∷ rs) h = absurd h
records-short strict l (p ∷ ps) [] h = absurd h
records-short strict l (p ∷ ps) (r ∷ rs) h =
    let one : length (record_bytes l (read r)) ≤ 8 * length p.bytes = rw (sym h.0) (bytes-few strict p l) in
    let all : length (catalogue_from l (r ∷ rs)) ≡ length (record_bytes l (read r)) + length (catalogue_from (l + 1) rs) = ap length (from_cons l r rs) ∙ length-append (record_bytes l (read r)) (catalogue_from (l + 1) rs) in
    omega (arith, one, all, records-short strict (l + 1) ps rs h.1)

pub text-short : (t : List ℕ) (rs : List Record) → read_text t ≡ accept rs → length (catalogue rs) ≤ 4294967294
unfolding lines catalogue
text-short t rs h = omega (arith, records-short (strictly t) 0 (lines t) rs (text-lines t rs h), lines-total 0 t, text-fits t rs h)
