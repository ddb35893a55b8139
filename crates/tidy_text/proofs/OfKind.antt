-- The second byte of an accepted line determines its record's kind, and so to which kind's text the line goes.
use Prim.Native.Nat.{ℕ, ◌≤◌}
use mathlib.Core.Path.{◌≡◌, refl, sym, ap, ◌∙◌}
use mathlib.Core.Bool.{Bool, true, false, cond}
use mathlib.Core.List.{List, [], ◌∷◌, ◌++◌}
use native.Mathlib.Omega.{arith}
use lib.ListN.{length, get_or}
use lib.Dec.{eqb}
use Rattle.format.specs.Records.{Record, header, reference, group, program, comment, code, Line, refused_line, read, line}
use Rattle.format.specs.Reading.{of_kind}
use Rattle.format.specs.Tidy.{record_text, text}
use Rattle.format.specs.declared.Kind.{Kind}
use Rattle.accepted.specs.Sound.{kind}
use Rattle.accepted.specs.Spelled as sp
use Rattle.accepted.specs.Spelled.{AcceptedLine, kind₀, kind₁}
use Rattle.lists.proofs.Bools.{never}
use Rattle.accepted.proofs.Sound.{made-kind}
use Rattle.accepted.proofs.Spelled.{line-accepted}
use Rattle.accepted.specs.Read.{is_read}
use Rattle.tidy_line.specs.Line.{line_text}
use Rattle.tidy_text.specs.Accepted.{with_record}
use Rattle.tidy_sizes.specs.Numbers.{kind_number}
use Rattle.tidy_text.specs.Kinds.{kind_text, text_of_kind}
use Rattle.accepted_line.specs.Found.{kind_by}
use Rattle.accepted_line.proofs.Finds.{first_byte}

kind-number : (r : Record) → kind_number (kind r) ≡ code r
unfolding kind kind_number code
kind-number (header v fs) = refl
kind-number (reference p n fs) = refl
kind-number (group p fs) = refl
kind-number (program p fs) = refl
kind-number (comment p) = refl

-- ---- an accepted line

-- its first three bytes
record Front (s : List ℕ) (r : Record) : Type 0 where
  pub rest : List ℕ
  pub spells : s ≡ 64 ∷ kind₀ (kind r) ∷ kind₁ (kind r) ∷ rest

accepted-front : (strict : Bool) (at : ℕ) (s : List ℕ) (r : Record) → AcceptedLine strict at s r → Front s r
unfolding kind₀ kind₁ kind
accepted-front strict at s r (sp.of-remark t) = record { rest = 9 ∷ t; spells = refl }
accepted-front strict at s r (sp.of_fields a) =
    record { rest = 9 ∷ a.rest; spells = a.spells ∙ ap (λ k. 64 ∷ kind₀ k ∷ kind₁ k ∷ 9 ∷ a.rest) (sym (made-kind a.fields a.kind r a.made)) }

-- what of a text goes to the kind `k`, if it is all of the kind `j`
abbrev pub only : Kind → List ℕ → Kind → List ℕ
only j xs k = cond (eqb (kind_number j) (kind_number k)) xs []

module _ (strict : Bool) (at : ℕ) (s : List ℕ) (h : is_read (line strict (record { at = at; bytes = s })) ≡ true) where
  by-record : (P : Line → Type 0) → ((r : Record) → Front s r → P (read r)) → P (line strict (record { at = at; bytes = s }))
  unfolding is_read
  by-record P f = go (line strict (record { at = at; bytes = s })) refl h
    where
      go : (l : Line) → line strict (record { at = at; bytes = s }) ≡ l → is_read l ≡ true → P l
      go (refused_line n) e q = absurd (never (cc))
      go (read r) e q = f r (accepted-front strict at s r (line-accepted strict (record { at = at; bytes = s }) r e))

  pub three : 3 ≤ length s
  three = by-record (λ l. 3 ≤ length s) (λ r f. omega (arith, ap length f.spells))

  front-number : (r : Record) → Front s r → kind_number (kind_by (get_or s 1 0)) ≡ code r
  front-number r f = ap (λ l. kind_number (kind_by (get_or l 1 0))) f.spells ∙ ap kind_number (first_byte (kind r)) ∙ kind-number r

  -- the line's text goes to the kind that its second byte gives
  pub line-kind : (k : Kind) → kind_text k (line strict (record { at = at; bytes = s })) ≡ only (kind_by (get_or s 1 0)) (line_text (line strict (record { at = at; bytes = s }))) k
  unfolding kind_text line_text
  line-kind k = by-record (λ l. kind_text k l ≡ only (kind_by (get_or s 1 0)) (line_text l) k) (λ r f. ap (λ n. cond (eqb n (kind_number k)) (record_text r) []) (sym (front-number r f)))

-- ---- one line before others

pub kind-onto : (k : Kind) (l : Line) (rs : List Record) → text_of_kind k (with_record l rs) ≡ kind_text k l ++ text_of_kind k rs
unfolding text_of_kind with_record kind_text of_kind text
kind-onto k (refused_line n) rs = refl
kind-onto k (read r) rs = go (eqb (code r) (kind_number k))
  where
    go : (t : Bool) → text (cond t (r ∷ of_kind (kind_number k) rs) (of_kind (kind_number k) rs)) ≡ cond t (record_text r) [] ++ text (of_kind (kind_number k) rs)
    go true = refl
    go false = refl

-- the texts of the kinds before a line's record is taken and after
pub kind-turn : (j k : Kind) (l : Line) (rs : List Record) → kind_text k l ≡ only j (line_text l) k → text_of_kind k (with_record l rs) ≡ only j (line_text l) k ++ text_of_kind k rs
kind-turn j k l rs e = kind-onto k l rs ∙ ap (λ xs. xs ++ text_of_kind k rs) e
