-- The tidy text reads back.
use Prim.Native.Nat.{ℕ, ◌+◌, ◌≤◌}
use mathlib.Core.Path.{◌≡◌, refl, sym, ap, ◌∙◌}
use mathlib.Core.Bool.{Bool}
use mathlib.Core.List.{List, [], ◌∷◌, ◌++◌, map, map-append, append-nil}
use lib.ListN.{length}
use lib.Seq.{append_snoc}
use borrow.Author.Tests.{le-ltb}
use Rattle.format.specs.Lines.{Piece, lines_from}
use Rattle.format.specs.Records.{Record, read, line}
use Rattle.format.specs.Reading.{Reading, accept, barred, unless, following, admitted, read_on, read_from, read_text, longest}
use Rattle.format.specs.Tidy.{record_text, text}
use Rattle.byte_slices.specs.Stands.{Each}
use Rattle.byte_slices.proofs.Lines.{lines_none}
use Rattle.accepted.specs.Sound.{Sound}
use Rattle.tidy_laws.specs.Bare.{bare}
use Rattle.tidy_laws.specs.Line.{record_line, Unbroken}
use Rattle.accepted.specs.Admits.{Unbarred}
use Rattle.tidy_laws.proofs.Line.{Reads, line-back}
use Rattle.tidy_laws.proofs.Lines.{lines-record}
use Rattle.tidy_laws.proofs.Barred.{barred-bare}

-- a reading that accepts `rs`, up to offsets
pub record Back (rs : List Record) (g : Reading) : Type 0 where
  pub found : List Record
  pub reads : g ≡ accept found
  pub same : map bare found ≡ map bare rs

-- a line that is read, and may follow, is taken
taken-on : (strict : Bool) (l : ℕ) (before : List Record) (p : Piece) (ps : List Piece) (r : Record) → line strict p ≡ read r → barred before r ≡ 0
    → read_from strict l before (p ∷ ps) ≡ read_from strict (l + 1) (before ++ (r ∷ [])) ps
unfolding read_from read_on admitted following unless
taken-on strict l before p ps r e b = rw (e, b) refl

back : (strict : Bool) (l at : ℕ) (now before rs : List Record) → map bare now ≡ map bare before → Unbarred before rs → Each Sound rs → Each Unbroken rs
    → Back (before ++ rs) (read_from strict l now (lines_from at (text rs)))
unfolding Unbarred Each text read_from
back strict l at now before [] e a s u = record { found = now; reads = ap (read_from strict l now) (lines_none at); same = rw (append-nil before) e }
back strict l at now before (r ∷ rs) e a s u =
    let here : Reads strict at (record_line r) r = line-back strict at r s.0 u.0 in
    let b : barred now here.found ≡ 0 = sym (barred-bare now here.found) ∙ rw (e, here.same) (barred-bare before r ∙ a.0) in
    let on : map bare (now ++ (here.found ∷ [])) ≡ map bare (before ++ (r ∷ [])) = rw (map-append bare now (here.found ∷ []), map-append bare before (r ∷ []), e, here.same) refl in
    let next : Back (before ++ (r ∷ []) ++ rs) (read_from strict (l + 1) (now ++ (here.found ∷ [])) (lines_from (at + length (record_text r)) (text rs))) =
    back strict (l + 1) (at + length (record_text r)) (now ++ (here.found ∷ [])) (before ++ (r ∷ [])) rs on a.1 s.1 u.1 in
    record {
      found = next.found;
      reads = ap (read_from strict l now) (lines-record at r (text rs) s.0 u.0)
          ∙ taken-on strict l now (record { at = at; bytes = record_line r }) (lines_from (at + length (record_text r)) (text rs)) here.found here.reads b
          ∙ next.reads;
      same = next.same ∙ ap (map bare) (append_snoc before r rs);
    }

pub text-back : (rs : List Record) → Unbarred [] rs → Each Sound rs → Each Unbroken rs → length (text rs) ≤ 16777216 → Back rs (read_text (text rs))
unfolding read_text longest
text-back rs a s u h = rw (le-ltb 16777216 (length (text rs)) h) (back _ 0 0 [] [] rs refl a s u)
