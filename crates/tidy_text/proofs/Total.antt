-- The tidy text kind by kind, and its length line by line.
use Prim.Native.Nat.{ℕ, ◌+◌, ◌≤◌}
use mathlib.Core.Bool.{Bool}
use mathlib.Core.Path.{◌≡◌, refl, sym, ap, ◌∙◌}
use mathlib.Core.List.{List, [], ◌∷◌, ◌++◌, append_assoc}
use native.Mathlib.Omega.{arith}
use lib.ListN.{length, length-append}
use Rattle.format.specs.Records.{Record, Line, refused_line, read, line}
use Rattle.format.specs.Reading.{of_kind}
use Rattle.format.specs.Tidy.{record_text, text, in_order, tidy}
use Rattle.format.specs.declared.Kind.{Kind}
use Rattle.format.specs.declared.Kind.TheVariants.{Header, ReferenceSequence, ReadGroup, Program, Comment}
use Rattle.accepted.proofs.Ahead.{lent}
use Rattle.tidy_line.specs.Line.{line_text}
use Rattle.tidy_text.specs.Accepted.{with_record, records_from}
use Rattle.tidy_sizes.specs.Numbers.{kind_number}
use Rattle.tidy_text.specs.Kinds.{text_of_kind, front_text}
use Rattle.tidy_text.proofs.Lines.{Opened, Turn, ended}
use Rattle.byte_slices.specs.declared.Cut.{Cut}
use Rattle.accepted.specs.Read.{records_of}
use Rattle.tidy_laws.proofs.Total.{order-length, tidy-length}

pub text-onto : (l : Line) (rs : List Record) → text (with_record l rs) ≡ line_text l ++ text rs
unfolding text with_record line_text
text-onto (refused_line n) rs = refl
text-onto (read r) rs = refl

pub text-append : (rs qs : List Record) → text (rs ++ qs) ≡ text rs ++ text qs
unfolding text
text-append [] qs = refl
text-append (r ∷ rs) qs = ap (λ l. record_text r ++ l) (text-append rs qs) ∙ sym (append_assoc (record_text r) (text rs) (text qs))

-- the comments come last
pub tidy-kinds : (rs : List Record) → tidy rs ≡ front_text rs ++ text_of_kind Comment rs
unfolding tidy in_order text_of_kind kind_number front_text
tidy-kinds rs =
    rw (
      text-append (of_kind 1 rs ++ of_kind 2 rs ++ of_kind 3 rs ++ of_kind 4 rs) (of_kind 5 rs),
      text-append (of_kind 1 rs ++ of_kind 2 rs ++ of_kind 3 rs) (of_kind 4 rs),
      text-append (of_kind 1 rs ++ of_kind 2 rs) (of_kind 3 rs),
      text-append (of_kind 1 rs) (of_kind 2 rs),
    ) refl

-- ---- how long it is

-- how long the records of a kind are
abbrev pub size : Kind → List Record → ℕ
size k rs = length (text_of_kind k rs)

-- how long the front is, kind by kind
pub front-sizes : (rs : List Record) → length (front_text rs) ≡ size Header rs + size ReferenceSequence rs + size ReadGroup rs + size Program rs
unfolding front_text
front-sizes rs =
    let a : List ℕ = text_of_kind Header rs in
    let b : List ℕ = text_of_kind ReferenceSequence rs in
    let c : List ℕ = text_of_kind ReadGroup rs in
    let d : List ℕ = text_of_kind Program rs in
    length-append (a ++ b ++ c) d ∙ omega (arith, length-append (a ++ b) c, length-append a b)

-- and the tidy text
pub tidy-sizes : (rs : List Record) → length (tidy rs) ≡ size Header rs + size ReferenceSequence rs + size ReadGroup rs + size Program rs + size Comment rs
tidy-sizes rs = omega (arith, ap length (tidy-kinds rs), length-append (front_text rs) (text_of_kind Comment rs), front-sizes rs)

-- it is as long as the records' lines in text order
pub tidy-total : (rs : List Record) → length (tidy rs) ≡ length (text rs)
unfolding tidy
tidy-total rs = order-length rs

-- ---- a step

abbrev line_at : Bool → List ℕ → ℕ → Cut → Line
line_at strict t at c = line strict (record { at = at; bytes = lent t at c.len })

pub text-turn : (strict : Bool) (t : List ℕ) (at : ℕ) (c : Cut) → Turn strict t at c
    → length (text (records_from strict t at)) ≡ length (line_text (line_at strict t at c)) + length (text (records_from strict t (at + c.next)))
text-turn strict t at c u =
    ap (λ rs. length (text rs)) u.records
    ∙ ap length (text-onto (line_at strict t at c) (records_from strict t (at + c.next)))
    ∙ length-append (line_text (line_at strict t at c)) (text (records_from strict t (at + c.next)))

-- after the last line
pub text-ended : (strict : Bool) (t : List ℕ) (at : ℕ) → length t ≤ at → length (text (records_from strict t at)) ≡ 0
unfolding text
text-ended strict t at h = ap (λ rs. length (text rs)) (ended strict t at h)

-- the whole, one byte longer than the text at most
pub tidy-small : (strict : Bool) (t : List ℕ) → Opened strict t
    → (length (text (records_from strict t 0)) ≡ length (tidy (records_of t))) × (length (tidy (records_of t)) ≤ 16777217)
tidy-small strict t o = (
  ap (λ rs. length (text rs)) o.records ∙ sym (tidy-total (records_of t)),
  omega (arith, tidy-length t (records_of t) o.reads, o.fits),
)
