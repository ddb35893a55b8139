-- The tidy text is at most one byte longer than the text: each record's line in it is no longer than the line read.
use Prim.Native.Nat.{ℕ, suc, ◌+◌, ◌≤◌, ◌<◌}
use mathlib.Core.Path.{◌≡◌, refl, ap, ◌∙◌}
use mathlib.Core.Bool.{Bool, true, false, cond}
use mathlib.Core.List.{List, [], ◌∷◌, ◌++◌}
use mathlib.Core.Logic.{⊎_elim}
use mathlib.Core.Option.{some}
use native.Mathlib.Omega.{arith}
use lib.ListN.{length, take, drop, length-append, length-drop}
use lib.Seq.{length-take-le, drop-length}
use lib.Dec.{eqb}
use borrow.Author.Tests.{eqb-true}
use Rattle.format.specs.Decimal.{worth, digits, written}
use Rattle.format.specs.Lines.{Piece, onto, cut, placed, lines, lines_from}
use Rattle.format.specs.Fields.{Field, tagged, last_of, settled, without}
use Rattle.format.specs.Records.{Record, header, reference, group, program, comment, code}
use Rattle.format.specs.Reading.{accept, read_text, of_kind}
use Rattle.format.specs.Tidy.{fields_text, record_text, text, in_order, tidy}
use Rattle.format.specs.declared.Kind.{Kind}
use Rattle.format.specs.declared.Kind.TheVariants.{ReferenceSequence}
use Rattle.byte_slices.specs.Upto.{upto}
use Rattle.byte_slices.specs.First.{first_line}
use Rattle.byte_slices.specs.Stands.{Each}
use Rattle.byte_slices.proofs.Before.{upto-cases}
use Rattle.byte_slices.proofs.Lines.{lines_none}
use Rattle.byte_slices.proofs.First.{first-whole, first_more, first-le, first-within, first_some, first-before, lines-first}
use Rattle.byte_slices.proofs.Stands.{by_parts}
use Rattle.decimal.proofs.ReadBack.{written-fewest}
use Rattle.lists.specs.Pairs.{Pairs}
use Rattle.accepted.specs.Spelled as sp
use Rattle.accepted.specs.Spelled.{LengthInRange, Good, Made, Spelled, AcceptedLine}
use Rattle.lists.proofs.Bools.{and_left}
use Rattle.accepted.proofs.Fields.{Of, last_of-of}
use Rattle.lists.proofs.Pairs.{pairs-right, each_all}
use Rattle.accepted.proofs.Spelled.{line-accepted}
use Rattle.tidy_laws.specs.Line.{own, keys, record_line}
use Rattle.tidy_laws.specs.Gathered as ga
use Rattle.tidy_laws.specs.Gathered.{From, Gathered}
use Rattle.tidy_laws.proofs.Gathered.{text-gathered}
use Rattle.tidy_laws.proofs.Line.{record-line}
use Rattle.tidy_laws.proofs.Length.{one_more, settled-length, key-length, last-without, version-length}

-- ---- a line and its fields

-- pieces, and a tab for each
tabbed : List (List ℕ) → ℕ
tabbed [] = 0
tabbed (p ∷ ps) = suc (length p) + tabbed ps

cut-tabbed : (d : ℕ) (s : List ℕ) → tabbed (cut d s) ≡ suc (length s)
unfolding cut tabbed
cut-tabbed d [] = refl
cut-tabbed d (b ∷ s) = go (eqb b d) (cut d s) (cut-tabbed d s)
  where
    go : (t : Bool) (ps : List (List ℕ)) → tabbed ps ≡ suc (length s) → tabbed (cond t ([] ∷ ps) (onto b ps)) ≡ suc (suc (length s))
    go true ps e = omega arith
    go false [] e = absurd (omega arith)
    go false (p ∷ ps) e = omega arith

good-tabbed : (k : Kind) (at : ℕ) (ps : List (List ℕ)) (fs : List Field) → Pairs (λ p f. Good k p.at p.bytes f) (placed at ps) fs → tabbed ps ≡ length (fields_text fs)
unfolding tabbed placed Pairs fields_text
good-tabbed k at [] [] h = refl
good-tabbed k at [] (f ∷ fs) h = absurd h
good-tabbed k at (p ∷ ps) [] h = absurd h
good-tabbed k at (p ∷ ps) (f ∷ fs) h =
    omega (arith, one_more f fs, ap length h.0.spells, good-tabbed k (at + length p + 1) ps fs h.1)

-- ---- the record that the fields make

pub record-length : (r : Record) → length (record_text r) ≡ suc (length (record_line r))
record-length r = rw (record-line r) (omega (arith, length-append (record_line r) (10 ∷ [])))

-- an LN's digits
last_digits : (fs : List Field) (n : Piece) → Each (LengthInRange ReferenceSequence) fs → last_of 76 78 fs ≡ some n → digits n.bytes ≡ true
unfolding LengthInRange
last_digits fs n h e =
    let o : Of (LengthInRange ReferenceSequence) 76 78 n = last_of-of (LengthInRange ReferenceSequence) 76 78 fs n h e in
    rw (← o.value) (o.holds o.tag).2

-- LN is not SN
not-name : (f : Field) → tagged 76 78 f ≡ true → tagged 83 78 f ≡ false
unfolding tagged
not-name f h = let q : f.tag₀ ≡ 76 = eqb-true f.tag₀ 76 (and_left (eqb f.tag₀ 76) (eqb f.tag₁ 78) h) in rw q refl

made-length : (fs : List Field) (k : Kind) (r : Record) → Each (LengthInRange k) fs → Made fs k r → length (record_line r) ≤ 3 + length (fields_text fs)
unfolding record_line keys own
made-length fs k r h (sp.of-header p v e g) =
    let gs : List Field = without 86 78 fs in
    let w : List ℕ = written v.major ++ (46 ∷ written v.minor) in
    omega (arith, one_more (own 86 78 w) (settled gs), settled-length gs, key-length 86 78 fs p e, version-length p.bytes v g)
made-length fs k r h (sp.of-reference p n e g) =
    let bs : List Field = without 76 78 fs in
    let gs : List Field = without 83 78 bs in
    let w : List ℕ = written (worth n.bytes) in
    omega (
      arith,
      one_more (own 83 78 p.bytes) (own 76 78 w ∷ settled gs),
      one_more (own 76 78 w) (settled gs),
      settled-length gs,
      key-length 83 78 bs p (last-without 83 78 76 78 not-name fs ∙ e),
      key-length 76 78 fs n g,
      written-fewest n.bytes (last_digits fs n h g),
    )
made-length fs k r h (sp.of-group p e) =
    let gs : List Field = without 73 68 fs in
    omega (arith, one_more (own 73 68 p.bytes) (settled gs), settled-length gs, key-length 73 68 fs p e)
made-length fs k r h (sp.of-program p e) =
    let gs : List Field = without 73 68 fs in
    omega (arith, one_more (own 73 68 p.bytes) (settled gs), settled-length gs, key-length 73 68 fs p e)

-- ---- one line

spelled-length : (strict : Bool) (at : ℕ) (s : List ℕ) (r : Record) → Spelled strict at s r → length (record_line r) ≤ length s
spelled-length strict at s r a =
    let sized : Each (LengthInRange a.kind) a.fields =
    pairs-right (λ p f. Good a.kind p.at p.bytes f) (λ p. Unit {0}) (LengthInRange a.kind) (λ p f u g. g.sized)
    (placed (at + 4) (cut 9 a.rest)) a.fields (each_all (λ p. Unit {0}) (λ p. tt) (placed (at + 4) (cut 9 a.rest))) a.each in
    omega (
      arith,
      made-length a.fields a.kind r sized a.made,
      good-tabbed a.kind (at + 4) (cut 9 a.rest) a.fields a.each,
      cut-tabbed 9 a.rest,
      ap length a.spells,
    )

accepted-length : (strict : Bool) (at : ℕ) (s : List ℕ) (r : Record) → AcceptedLine strict at s r → length (record_line r) ≤ length s
unfolding record_line
accepted-length strict at s r (sp.of-remark t) = omega arith
accepted-length strict at s r (sp.of_fields a) = spelled-length strict at s r a

-- ---- all lines

-- lines, and one more byte for each
ended : List Piece → ℕ
ended [] = 0
ended (p ∷ ps) = suc (length p.bytes) + ended ps

from-ended : (ps : List Piece) (rs : List Record) → From ps rs → length (text rs) ≤ ended ps
unfolding text ended
from-ended [] [] ga.end = omega arith
from-ended [] (r ∷ rs) h = elim h [ ]
from-ended (p ∷ ps) rs (ga.passed h) = omega (arith, from-ended ps rs h)
from-ended (p ∷ ps) (r ∷ rs) (ga.taken strict e h) =
    omega (
      arith,
      length-append (record_text r) (text rs),
      record-length r,
      accepted-length strict p.at p.bytes r (line-accepted strict p r e),
      from-ended ps rs h,
    )

-- every line but the last has an LF
lines-ended : (at : ℕ) (s : List ℕ) → ended (lines_from at s) ≤ suc (length s)
unfolding ended
lines-ended = by_parts (λ at s. ended (lines_from at s) ≤ suc (length s)) step
  where
    step : (at : ℕ) (s : List ℕ) → ((n : ℕ) → 0 < n → n ≤ length s → ended (lines_from (at + n) (drop n s)) ≤ suc (length (drop n s))) → ended (lines_from at s) ≤ suc (length s)
    step at [] ih = rw (lines_none at) (omega arith)
    step at (b ∷ s) ih = rw (lines-first at t (omega arith)) (⊎_elim with-lf without-lf (upto-cases 10 t))
      where
        t : List ℕ
        t = b ∷ s

        n : ℕ
        n = (first_line t).next

        len : length (take (first_line t).len t) ≡ (first_line t).len
        len = length-take-le (first_line t).len t (omega (arith, first-le t, first-within t))

        with-lf : upto 10 t < length t → suc (length (take (first_line t).len t)) + ended (lines_from (at + n) (drop n t)) ≤ suc (length t)
        with-lf h =
            omega (arith, len, first-before t, ap (λ c. c.next) (first_more t h), ih n (first_some t (omega arith)) (first-within t), length-drop n t, first-within t)

        without-lf : upto 10 t ≡ length t → suc (length (take (first_line t).len t)) + ended (lines_from (at + n) (drop n t)) ≤ suc (length t)
        without-lf h =
            let e : n ≡ length t = ap (λ c. c.next) (first-whole t h) in
            let z : drop n t ≡ [] = ap (λ m. drop m t) e ∙ drop-length t in
            omega (arith, len, ap (λ c. c.len) (first-whole t h), ap ended (ap (lines_from (at + n)) z ∙ lines_none (at + n)))

-- ---- in order

text-none : length (text []) ≡ 0
unfolding text
text-none = refl

text-more : (r : Record) (rs : List Record) → length (text (r ∷ rs)) ≡ length (record_text r) + length (text rs)
unfolding text
text-more r rs = length-append (record_text r) (text rs)

text-append : (xs ys : List Record) → length (text (xs ++ ys)) ≡ length (text xs) + length (text ys)
unfolding text
text-append [] ys = omega arith
text-append (x ∷ xs) ys = omega (arith, text-more x (xs ++ ys), text-more x xs, text-append xs ys)

-- how long the records of a kind are
size : ℕ → List Record → ℕ
size k rs = length (text (of_kind k rs))

-- each record is of one kind
kinds-length : (rs : List Record) → size 1 rs + size 2 rs + size 3 rs + size 4 rs + size 5 rs ≡ length (text rs)
unfolding size of_kind code
kinds-length [] = omega (arith, text-none)
kinds-length (header v fs ∷ rs) = omega (arith, text-more (header v fs) (of_kind 1 rs), text-more (header v fs) rs, kinds-length rs)
kinds-length (reference p n fs ∷ rs) = omega (arith, text-more (reference p n fs) (of_kind 2 rs), text-more (reference p n fs) rs, kinds-length rs)
kinds-length (group p fs ∷ rs) = omega (arith, text-more (group p fs) (of_kind 3 rs), text-more (group p fs) rs, kinds-length rs)
kinds-length (program p fs ∷ rs) = omega (arith, text-more (program p fs) (of_kind 4 rs), text-more (program p fs) rs, kinds-length rs)
kinds-length (comment p ∷ rs) = omega (arith, text-more (comment p) (of_kind 5 rs), text-more (comment p) rs, kinds-length rs)

pub order-length : (rs : List Record) → length (text (in_order rs)) ≡ length (text rs)
unfolding in_order size
order-length rs =
    let a : List Record = of_kind 1 rs in
    let b : List Record = a ++ of_kind 2 rs in
    let c : List Record = b ++ of_kind 3 rs in
    omega (
      arith,
      text-append (c ++ of_kind 4 rs) (of_kind 5 rs),
      text-append c (of_kind 4 rs),
      text-append b (of_kind 3 rs),
      text-append a (of_kind 2 rs),
      kinds-length rs,
    )

-- ---- the whole

pub gathered-length : (t : List ℕ) (rs : List Record) → Gathered t rs → length (tidy rs) ≤ length t + 1
unfolding tidy lines
gathered-length t rs g = omega (arith, order-length rs, from-ended (lines t) rs g.from, lines-ended 0 t)

pub tidy-length : (t : List ℕ) (rs : List Record) → read_text t ≡ accept rs → length (tidy rs) ≤ length t + 1
tidy-length t rs e = gathered-length t rs (text-gathered t rs e)
