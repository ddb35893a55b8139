-- The PG lines of an accepted text are its programs.
use Prim.Native.Nat.{ℕ, ◌+◌, ◌≤◌}
use mathlib.Core.Path.{◌≡◌, refl, sym, ap, subst, ◌∙◌}
use mathlib.Core.Bool.{Bool, true, false, cond}
use mathlib.Core.List.{List, [], ◌∷◌}
use lib.ListN.{length}
use lib.Dec.{eqb}
use Rattle.format.specs.Lines.{Piece, lines}
use Rattle.format.specs.Records as records
use Rattle.format.specs.Records.{Record, header, reference, group, program, comment, code, read}
use Rattle.format.specs.Reading.{accept, read_text, of_kind}
use Rattle.lists.specs.Pairs.{Pairs}
use Rattle.accepted.specs.Sound.{kind}
use Rattle.accepted.specs.Spelled as sp
use Rattle.accepted.specs.Spelled.{AcceptedLine, Spelled, kind₀}
use Rattle.lists.proofs.Bools.{never}
use Rattle.accepted.proofs.Spelled.{line-accepted}
use Rattle.accepted_rule.specs.Rule.{ReadsBy}
use Rattle.accepted_rule.proofs.Rule.{lines-by}
use Rattle.accepted_line.proofs.fields.Start.{accepted-start, accepted-tags}
use Rattle.binary_references.proofs.Next.{second-byte}
use Rattle.program_lines.specs.Line.{FieldsOf}
use Rattle.program_lines.specs.Found.{may_be_program, program_lines, pg_from}

-- a line is read as a program
pub record IsProgram (strict : Bool) (p : Piece) (r : Record) : Type 0 where
  pub reads : records.line strict p ≡ read r
  pub kind : eqb (code r) 4 ≡ true

by_code : (r : Record) → eqb (kind₀ (kind r)) 80 ≡ eqb (code r) 4
unfolding kind₀ kind code
by_code (header v fs) = refl
by_code (reference p n fs) = refl
by_code (group p fs) = refl
by_code (program p fs) = refl
by_code (comment p) = refl

may-be : (strict : Bool) (p : Piece) (r : Record) → records.line strict p ≡ read r → may_be_program p.bytes ≡ eqb (code r) 4
unfolding may_be_program
may-be strict p r e = ap (λ b. eqb b 80) (second-byte strict p.at p.bytes r (line-accepted strict p r e)) ∙ by_code r

pairs-programs : (strict : Bool) (ps : List Piece) (rs : List Record) → Pairs (λ p r. records.line strict p ≡ read r) ps rs → Pairs (IsProgram strict) (program_lines ps) (of_kind 4 rs)
unfolding Pairs program_lines of_kind
pairs-programs strict [] [] h = tt
pairs-programs strict [] (r ∷ rs) h = absurd h
pairs-programs strict (p ∷ ps) [] h = absurd h
pairs-programs strict (p ∷ ps) (r ∷ rs) h =
    subst (λ b. Pairs (IsProgram strict) (cond b (p ∷ program_lines ps) (program_lines ps)) (cond (eqb (code r) 4) (r ∷ of_kind 4 rs) (of_kind 4 rs))) (sym (may-be strict p r h.0))
    (go (eqb (code r) 4) refl (pairs-programs strict ps rs h.1))
  where
    go : (b : Bool) → eqb (code r) 4 ≡ b → Pairs (IsProgram strict) (program_lines ps) (of_kind 4 rs) → Pairs (IsProgram strict) (cond b (p ∷ program_lines ps) (program_lines ps)) (cond b (r ∷ of_kind 4 rs) (of_kind 4 rs))
    go true e ih = (record { reads = h.0; kind = e }, ih)
    go false e ih = ih

pub text-program-lines : (strict : Bool) (t : List ℕ) (rs : List Record) → read_text t ≡ accept rs → ReadsBy strict t → Pairs (IsProgram strict) (pg_from t 0) (of_kind 4 rs)
unfolding lines
text-program-lines strict t rs e s = pairs-programs strict (lines t) rs (lines-by strict t rs e s)

-- such a line is one of fields
spelled-of : (strict : Bool) (at : ℕ) (s : List ℕ) (r : Record) → AcceptedLine strict at s r → eqb (code r) 4 ≡ true → Spelled strict at s r
unfolding code
spelled-of strict at s r (sp.of-remark t) k = absurd (never (cc))
spelled-of strict at s r (sp.of_fields a) k = a

pub spelled : (strict : Bool) (p : Piece) (r : Record) → IsProgram strict p r → Spelled strict p.at p.bytes r
spelled strict p r h = spelled-of strict p.at p.bytes r (line-accepted strict p r h.reads) h.kind

pub fielded : (strict : Bool) (p : Piece) (r : Record) → IsProgram strict p r → p.at + length p.bytes ≤ 16777216 → FieldsOf strict p.at p.bytes
fielded strict p r h short = record {
  start = accepted-start strict p.at p.bytes r (spelled strict p r h);
  tags = accepted-tags strict p.at p.bytes r (spelled strict p r h);
  short = short;
}
