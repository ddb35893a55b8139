-- No text is refused with 28: reading's refusals are below it.
use Prim.Native.Nat.{ℕ, zero, suc, ◌+◌, ◌<◌, ◌^◌}
use mathlib.Core.Path.{◌≡◌}
use mathlib.Core.Bool.{Bool, true, false, not, ◌&&◌, ◌||◌, cond}
use mathlib.Core.List.{List, [], ◌∷◌, ◌++◌}
use mathlib.Core.Option.{Option, none, some}
use native.Mathlib.Omega.{arith}
use lib.ListN.{length}
use lib.Dec.{eqb, leb, ltb}
use Rattle.format.specs.Bytes.{any, none?}
use Rattle.format.specs.Decimal.{worth, span}
use Rattle.format.specs.Lines.{Piece, lines, cut, placed}
use Rattle.format.specs.Version.{version}
use Rattle.format.specs.declared.Version.{Version}
use Rattle.format.specs.declared.Kind.{Kind}
use Rattle.format.specs.declared.Kind.TheVariants.{Header, ReferenceSequence, ReadGroup, Program, Comment}
use Rattle.format.specs.Fields.{Field, JudgedPiece, refused_piece, good, good_then, is_value, allows, plain, spelled, version_field, length_field, value_field, is_tag, field, Scan, onward, scan, repeats, last_of}
use Rattle.format.specs.Records.{Record, code, Line, refused_line, read, announcing, versioned, measured, keyed, made, stopped, judged, fielded, remark, body, kind_of, bodied, kinded, prefixed, breaks, line}
use Rattle.format.specs.Reading.{Reading, refused_text, accept, clash, of_kind, barred, unless, following, admitted, read_on, read_from, longest, read_text, is_strict, announced}

-- either way
pub cond_both : {A : Type 0} (P : A → Type 0) (t : Bool) (a b : A) → P a → P b → P (cond t a b)
cond_both P true a b h k = h
cond_both P false a b h k = k

-- ---- a field

unfoldable LowPiece : JudgedPiece → Type 0
LowPiece (refused_piece n) = n < 28
LowPiece (good f) = Unit
LowPiece (good_then f n) = n < 28

low-plain : (k : Kind) (a b at : ℕ) (v : List ℕ) → LowPiece (plain k a b at v)
unfolding LowPiece plain
low-plain k a b at v = cond_both LowPiece (allows k a b v) _ _ tt (omega arith)

low-spelled : (o : Option Version) (j : JudgedPiece) → LowPiece j → LowPiece (spelled o j)
unfolding LowPiece spelled
low-spelled none j h = omega arith
low-spelled (some v) j h = h

low-version : (at : ℕ) (v : List ℕ) → LowPiece (version_field at v)
unfolding LowPiece version_field
low-version at v = cond_both LowPiece (is_value v) _ _ (low-spelled (version v) (plain Header 86 78 at v) (low-plain Header 86 78 at v)) (omega arith)

low-length : (at : ℕ) (s : List ℕ × List ℕ) → LowPiece (length_field at s)
unfolding LowPiece length_field
low-length at s =
    cond_both LowPiece (none? s.0 || not (ltb (worth s.0) (2 ^ 64))) _ _ (omega arith)
    (cond_both LowPiece (eqb (worth s.0) 0) _ _ (omega arith)
    (cond_both LowPiece (not (ltb (worth s.0) (2 ^ 31))) _ _ (omega arith)
    (cond_both LowPiece (none? s.1) _ _ tt (omega arith))))

low_value : (k : Kind) (a b at : ℕ) (v : List ℕ) → LowPiece (value_field k a b at v)
unfolding value_field
low_value Header a b at v = cond_both LowPiece (eqb a 86 && eqb b 78) _ _ (low-version at v) (low-plain Header a b at v)
low_value ReferenceSequence a b at v = cond_both LowPiece (eqb a 76 && eqb b 78) _ _ (low-length at (span v)) (low-plain ReferenceSequence a b at v)
low_value ReadGroup a b at v = low-plain ReadGroup a b at v
low_value Program a b at v = low-plain Program a b at v
low_value Comment a b at v = low-plain Comment a b at v

low_field : (k : Kind) (at : ℕ) (s : List ℕ) → LowPiece (field k at s)
unfolding LowPiece field
low_field k at [] = omega arith
low_field k at (a ∷ []) = omega arith
low_field k at (a ∷ b ∷ []) = cond_both LowPiece (is_tag a b) _ _ (omega arith) (omega arith)
low_field k at (a ∷ b ∷ c ∷ v) =
    cond_both LowPiece (is_tag a b) _ _ (cond_both LowPiece (eqb c 58) _ _ (low_value k a b (at + 3) v) (omega arith)) (omega arith)

low-onward : (j : JudgedPiece) (s : Scan) → LowPiece j → s.stop < 28 → (onward j s).stop < 28
unfolding LowPiece onward
low-onward (refused_piece n) s h k = h
low-onward (good f) s h k = k
low-onward (good_then f n) s h k = h

low-scan : (k : Kind) (ps : List Piece) → (scan k ps).stop < 28
unfolding scan
low-scan k [] = omega arith
low-scan k (p ∷ ps) = low-onward (field k p.at p.bytes) (scan k ps) (low_field k p.at p.bytes) (low-scan k ps)

-- ---- a line

unfoldable Low : Line → Type 0
Low (refused_line n) = n < 28
Low (read r) = Unit

low-announcing : (fs : List Field) (o : Option Version) → Low (announcing fs o)
unfolding Low announcing
low-announcing fs none = omega arith
low-announcing fs (some v) = tt

low-versioned : (fs : List Field) (o : Option Piece) → Low (versioned fs o)
unfolding Low versioned
low-versioned fs none = omega arith
low-versioned fs (some p) = low-announcing fs (version p.bytes)

low-measured : (fs : List Field) (o n : Option Piece) → Low (measured fs o n)
unfolding Low measured
low-measured fs none n = omega arith
low-measured fs (some p) none = omega arith
low-measured fs (some p) (some n) = tt

low-keyed : (r : Piece → Record) (o : Option Piece) → Low (keyed r o)
unfolding Low keyed
low-keyed r none = omega arith
low-keyed r (some p) = tt

low-made : (k : Kind) (fs : List Field) → Low (made k fs)
unfolding Low made
low-made Header fs = low-versioned _ (last_of 86 78 fs)
low-made ReferenceSequence fs = low-measured _ (last_of 83 78 fs) (last_of 76 78 fs)
low-made ReadGroup fs = low-keyed _ (last_of 73 68 fs)
low-made Program fs = low-keyed _ (last_of 73 68 fs)
low-made Comment fs = omega arith

low-stopped : (k : Kind) (fs : List Field) (n : ℕ) → n < 28 → Low (stopped k fs n)
unfolding Low stopped
low-stopped k fs zero h = low-made k fs
low-stopped k fs (suc n) h = h

low-judged : (strict : Bool) (k : Kind) (s : Scan) → s.stop < 28 → Low (judged strict k s)
unfolding Low judged
low-judged strict k s h = cond_both Low (strict && repeats s.fields) _ _ (omega arith) (low-stopped k s.fields s.stop h)

low-fielded : (strict : Bool) (k : Kind) (at : ℕ) (s : List ℕ) → Low (fielded strict k at s)
unfolding Low fielded
low-fielded strict k at [] = omega arith
low-fielded strict k at (b ∷ s) =
    cond_both Low (eqb b 9) _ _ (low-judged strict k (scan k (placed (at + 1) (cut 9 s))) (low-scan k (placed (at + 1) (cut 9 s)))) (omega arith)

low-remark : (at : ℕ) (s : List ℕ) → Low (remark at s)
unfolding Low remark
low-remark at [] = omega arith
low-remark at (b ∷ s) = cond_both Low (eqb b 9) _ _ tt (omega arith)

low-body : (strict : Bool) (k : Kind) (at : ℕ) (s : List ℕ) → Low (body strict k at s)
unfolding body
low-body strict Header at s = low-fielded strict Header at s
low-body strict ReferenceSequence at s = low-fielded strict ReferenceSequence at s
low-body strict ReadGroup at s = low-fielded strict ReadGroup at s
low-body strict Program at s = low-fielded strict Program at s
low-body strict Comment at s = low-remark at s

low-bodied : (strict : Bool) (at : ℕ) (s : List ℕ) (o : Option Kind) → Low (bodied strict at s o)
unfolding Low bodied
low-bodied strict at s none = omega arith
low-bodied strict at s (some k) = low-body strict k at s

low-kinded : (strict : Bool) (at : ℕ) (s : List ℕ) → Low (kinded strict at s)
unfolding Low kinded
low-kinded strict at [] = omega arith
low-kinded strict at (a ∷ []) = omega arith
low-kinded strict at (a ∷ b ∷ s) = low-bodied strict (at + 2) s (kind_of a b)

low-prefixed : (strict : Bool) (at : ℕ) (s : List ℕ) → Low (prefixed strict at s)
unfolding Low prefixed
low-prefixed strict at [] = omega arith
low-prefixed strict at (b ∷ s) = cond_both Low (eqb b 64) _ _ (low-kinded strict (at + 1) s) (omega arith)

low-line : (strict : Bool) (p : Piece) → Low (line strict p)
unfolding Low line
low-line strict p = cond_both Low (any breaks p.bytes) _ _ (omega arith) (low-prefixed strict p.at p.bytes)

low-barred : (before : List Record) (r : Record) → barred before r < 28
unfolding barred
low-barred before r =
    cond_both (λ n. n < 28) (eqb (code r) 1 && not (none? before)) 17 _ (omega arith)
    (cond_both (λ n. n < 28) (any (clash r) before) 18 _ (omega arith)
    (cond_both (λ n. n < 28) (eqb (code r) 4 && leb 1024 (length (of_kind 4 before))) 19 0 (omega arith) (omega arith)))

low-unless : (n : ℕ) (r : Record) → n < 28 → Low (unless n r)
unfolding Low unless
low-unless zero r h = tt
low-unless (suc n) r h = h

low-following : (before : List Record) (l : Line) → Low l → Low (following before l)
unfolding Low following
low-following before (refused_line n) h = h
low-following before (read r) h = low-unless (barred before r) r (low-barred before r)

-- ---- a text

unfoldable LowText : Reading → Type 0
LowText (refused_text n l) = n < 28
LowText (accept rs) = Unit

low-on : (l : ℕ) (next : Record → Reading) (i : Line) → Low i → ((r : Record) → LowText (next r)) → LowText (read_on l next i)
unfolding Low LowText read_on
low-on l next (refused_line n) h k = h
low-on l next (read r) h k = k r

low-from : (strict : Bool) (l : ℕ) (before : List Record) (ps : List Piece) → LowText (read_from strict l before ps)
unfolding LowText read_from admitted
low-from strict l before [] = tt
low-from strict l before (p ∷ ps) =
    low-on l (λ r. read_from strict (l + 1) (before ++ (r ∷ [])) ps) (admitted strict before p) (low-following before (line strict p) (low-line strict p))
    (λ r. low-from strict (l + 1) (before ++ (r ∷ [])) ps)

low-text : (t : List ℕ) → LowText (read_text t)
unfolding LowText read_text
low-text t = cond_both LowText (ltb longest (length t)) _ _ (omega arith) (low-from (is_strict (announced (lines t))) 0 [] (lines t))

pub reading-low : (t : List ℕ) (n l : ℕ) → read_text t ≡ refused_text n l → n < 28
unfolding LowText
reading-low t n l e = rw e at (low-text t)
