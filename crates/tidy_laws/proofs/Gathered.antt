-- What records gathered from a text are, for the tidy text; those of an accepted text are gathered.
use Prim.Native.Nat.{ℕ}
use mathlib.Core.Path.{◌≡◌}
use mathlib.Core.Bool.{Bool, false}
use mathlib.Core.List.{List, [], ◌∷◌}
use Rattle.format.specs.Bytes.{any}
use Rattle.format.specs.Lines.{Piece, lines}
use Rattle.format.specs.Fields.{Field}
use Rattle.format.specs.Records.{Record, read, breaks, line}
use Rattle.format.specs.Reading.{accept, read_text}
use Rattle.format.specs.declared.Kind.{Kind}
use Rattle.byte_slices.specs.Stands.{Each}
use Rattle.lists.specs.Pairs.{Pairs}
use Rattle.accepted.specs.Sound.{Sound}
use Rattle.accepted.specs.Spelled as sp
use Rattle.accepted.specs.Spelled.{Made, AcceptedLine}
use Rattle.accepted.specs.Admits.{strictly}
use Rattle.accepted.proofs.Sound.{line-sound}
use Rattle.accepted.proofs.Spelled.{line-prefixed, line-accepted}
use Rattle.accepted.proofs.Text.{text-lines, text-unbarred}
use Rattle.tidy_laws.specs.Line.{Unbroken}
use Rattle.tidy_laws.specs.Writable.{Writable}
use Rattle.tidy_laws.specs.Gathered as ga
use Rattle.tidy_laws.specs.Gathered.{From, Gathered}

-- ---- one line

-- fields make no comment
made-unbroken : (fs : List Field) (k : Kind) (r : Record) → Made fs k r → Unbroken r
unfolding Unbroken
made-unbroken fs k r (sp.of-header p v e g) = tt
made-unbroken fs k r (sp.of-reference p n e g) = tt
made-unbroken fs k r (sp.of-group p e) = tt
made-unbroken fs k r (sp.of-program p e) = tt

accepted-unbroken : (strict : Bool) (at : ℕ) (s : List ℕ) (r : Record) → AcceptedLine strict at s r → any breaks s ≡ false → Unbroken r
unfolding Unbroken any breaks
accepted-unbroken strict at s r (sp.of-remark t) h = h
accepted-unbroken strict at s r (sp.of_fields a) h = made-unbroken a.fields a.kind r a.made

-- a comment that was read holds neither LF nor CR
line-unbroken : (strict : Bool) (p : Piece) (r : Record) → line strict p ≡ read r → Unbroken r
line-unbroken strict p r e = accepted-unbroken strict p.at p.bytes r (line-accepted strict p r e) (line-prefixed strict p r e).0

-- ---- each

from_each : (P : Record → Type 0) → ((strict : Bool) (p : Piece) (r : Record) → line strict p ≡ read r → P r) → (ps : List Piece) (rs : List Record) → From ps rs → Each P rs
unfolding Each
from_each P f [] [] ga.end = tt
from_each P f [] (r ∷ rs) h = elim h [ ]
from_each P f (p ∷ ps) rs (ga.passed h) = from_each P f ps rs h
from_each P f (p ∷ ps) (r ∷ rs) (ga.taken strict e h) = (f strict p r e, from_each P f ps rs h)

module _ (t : List ℕ) (rs : List Record) (g : Gathered t rs) where
  pub gathered-sound : Each Sound rs
  gathered-sound = from_each Sound line-sound (lines t) rs g.from

  pub gathered-unbroken : Each Unbroken rs
  gathered-unbroken = from_each Unbroken line-unbroken (lines t) rs g.from

  pub gathered-writable : Writable rs
  gathered-writable = record { unbarred = g.unbarred; sound = gathered-sound; unbroken = gathered-unbroken }

-- ---- an accepted text

pairs-from : (strict : Bool) (ps : List Piece) (rs : List Record) → Pairs (λ p r. line strict p ≡ read r) ps rs → From ps rs
unfolding Pairs
pairs-from strict [] [] h = ga.end
pairs-from strict [] (r ∷ rs) h = absurd h
pairs-from strict (p ∷ ps) [] h = absurd h
pairs-from strict (p ∷ ps) (r ∷ rs) h = ga.taken strict h.0 (pairs-from strict ps rs h.1)

pub text-gathered : (t : List ℕ) (rs : List Record) → read_text t ≡ accept rs → Gathered t rs
text-gathered t rs e = record { from = pairs-from (strictly t) (lines t) rs (text-lines t rs e); unbarred = text-unbarred t rs e }
