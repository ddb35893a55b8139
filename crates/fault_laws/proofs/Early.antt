-- No line is refused with 22, 23 or 24.
use Prim.Native.Nat.{ℕ, zero, suc, ◌+◌, ◌^◌}
use mathlib.Core.Path.{◌≡◌, refl}
use mathlib.Core.Bool.{Bool, true, false, not, ◌&&◌, ◌||◌, cond}
use mathlib.Core.List.{List, [], ◌∷◌, ◌++◌}
use mathlib.Core.Option.{Option, none, some}
use lib.ListN.{length}
use lib.Dec.{eqb, leb, ltb}
use Rattle.format.specs.Bytes.{any, none?}
use Rattle.format.specs.Decimal.{worth, span}
use Rattle.format.specs.Lines.{Piece, cut, placed}
use Rattle.format.specs.Version.{version}
use Rattle.format.specs.declared.Version.{Version}
use Rattle.format.specs.declared.Kind.{Kind}
use Rattle.format.specs.declared.Kind.TheVariants.{Header, ReferenceSequence, ReadGroup, Program, Comment}
use Rattle.format.specs.Fields.{Field, JudgedPiece, refused_piece, good, good_then, is_value, allows, plain, spelled, version_field, length_field}
use Rattle.format.specs.Fields.{value_field, is_tag, field, Scan, onward, scan, repeats, last_of}
use Rattle.format.specs.Records.{Record, code, Line, refused_line, read, announcing, versioned, measured, keyed, made, stopped, judged}
use Rattle.format.specs.Records.{fielded, remark, body, kind_of, bodied, kinded, prefixed, breaks, line}
use Rattle.format.specs.Reading.{clash, of_kind, barred, unless, following, is_strict, admitted}
use Rattle.format.specs.Carrying.{kept_of, ruling, carried_from}
use Rattle.fault_laws.specs.First.{is_later}

-- what holds either way
pub cond_both : {A : Type 0} (P : A → Type 0) (t : Bool) (a b : A) → P a → P b → P (cond t a b)
cond_both P true a b h k = h
cond_both P false a b h k = k

-- ---- a field

unfoldable EarlyPiece : JudgedPiece → Type 0
EarlyPiece (refused_piece n) = is_later n ≡ false
EarlyPiece (good f) = Unit
EarlyPiece (good_then f n) = is_later n ≡ false

early-plain : (k : Kind) (a b at : ℕ) (v : List ℕ) → EarlyPiece (plain k a b at v)
unfolding EarlyPiece plain is_later
early-plain k a b at v = cond_both EarlyPiece (allows k a b v) _ _ tt refl

early-spelled : (o : Option Version) (j : JudgedPiece) → EarlyPiece j → EarlyPiece (spelled o j)
unfolding EarlyPiece spelled is_later
early-spelled none j h = refl
early-spelled (some v) j h = h

early-version : (at : ℕ) (v : List ℕ) → EarlyPiece (version_field at v)
unfolding EarlyPiece version_field is_later
early-version at v = cond_both EarlyPiece (is_value v) _ _ (early-spelled (version v) (plain Header 86 78 at v) (early-plain Header 86 78 at v)) refl

early-length : (at : ℕ) (s : List ℕ × List ℕ) → EarlyPiece (length_field at s)
unfolding EarlyPiece length_field is_later
early-length at s =
    cond_both EarlyPiece (none? s.0 || not (ltb (worth s.0) (2 ^ 64))) _ _ refl
    (cond_both EarlyPiece (eqb (worth s.0) 0) _ _ refl
    (cond_both EarlyPiece (not (ltb (worth s.0) (2 ^ 31))) _ _ refl
    (cond_both EarlyPiece (none? s.1) _ _ tt refl)))

early-value : (k : Kind) (a b at : ℕ) (v : List ℕ) → EarlyPiece (value_field k a b at v)
unfolding value_field
early-value Header a b at v = cond_both EarlyPiece (eqb a 86 && eqb b 78) _ _ (early-version at v) (early-plain Header a b at v)
early-value ReferenceSequence a b at v = cond_both EarlyPiece (eqb a 76 && eqb b 78) _ _ (early-length at (span v)) (early-plain ReferenceSequence a b at v)
early-value ReadGroup a b at v = early-plain ReadGroup a b at v
early-value Program a b at v = early-plain Program a b at v
early-value Comment a b at v = early-plain Comment a b at v

early-field : (k : Kind) (at : ℕ) (s : List ℕ) → EarlyPiece (field k at s)
unfolding EarlyPiece field is_later
early-field k at [] = refl
early-field k at (a ∷ []) = refl
early-field k at (a ∷ b ∷ []) = cond_both EarlyPiece (is_tag a b) _ _ refl refl
early-field k at (a ∷ b ∷ c ∷ v) =
    cond_both EarlyPiece (is_tag a b) _ _ (cond_both EarlyPiece (eqb c 58) _ _ (early-value k a b (at + 3) v) refl) refl

early-onward : (j : JudgedPiece) (s : Scan) → EarlyPiece j → is_later s.stop ≡ false → is_later (onward j s).stop ≡ false
unfolding EarlyPiece onward is_later
early-onward (refused_piece n) s h k = h
early-onward (good f) s h k = k
early-onward (good_then f n) s h k = h

early-scan : (k : Kind) (ps : List Piece) → is_later (scan k ps).stop ≡ false
unfolding scan is_later
early-scan k [] = refl
early-scan k (p ∷ ps) = early-onward (field k p.at p.bytes) (scan k ps) (early-field k p.at p.bytes) (early-scan k ps)

-- ---- a line

unfoldable pub Early : Line → Type 0
Early (refused_line n) = is_later n ≡ false
Early (read r) = Unit

early-announcing : (fs : List Field) (o : Option Version) → Early (announcing fs o)
unfolding Early announcing is_later
early-announcing fs none = refl
early-announcing fs (some v) = tt

early-versioned : (fs : List Field) (o : Option Piece) → Early (versioned fs o)
unfolding Early versioned is_later
early-versioned fs none = refl
early-versioned fs (some p) = early-announcing fs (version p.bytes)

early-measured : (fs : List Field) (o n : Option Piece) → Early (measured fs o n)
unfolding Early measured is_later
early-measured fs none n = refl
early-measured fs (some p) none = refl
early-measured fs (some p) (some n) = tt

early-keyed : (r : Piece → Record) (o : Option Piece) → Early (keyed r o)
unfolding Early keyed is_later
early-keyed r none = refl
early-keyed r (some p) = tt

early-made : (k : Kind) (fs : List Field) → Early (made k fs)
unfolding Early made is_later
early-made Header fs = early-versioned _ (last_of 86 78 fs)
early-made ReferenceSequence fs = early-measured _ (last_of 83 78 fs) (last_of 76 78 fs)
early-made ReadGroup fs = early-keyed _ (last_of 73 68 fs)
early-made Program fs = early-keyed _ (last_of 73 68 fs)
early-made Comment fs = refl

early-stopped : (k : Kind) (fs : List Field) (n : ℕ) → is_later n ≡ false → Early (stopped k fs n)
unfolding Early stopped is_later
early-stopped k fs zero h = early-made k fs
early-stopped k fs (suc n) h = h

early-judged : (strict : Bool) (k : Kind) (s : Scan) → is_later s.stop ≡ false → Early (judged strict k s)
unfolding Early judged is_later
early-judged strict k s h = cond_both Early (strict && repeats s.fields) _ _ refl (early-stopped k s.fields s.stop h)

early-fielded : (strict : Bool) (k : Kind) (at : ℕ) (s : List ℕ) → Early (fielded strict k at s)
unfolding Early fielded is_later
early-fielded strict k at [] = refl
early-fielded strict k at (b ∷ s) =
    cond_both Early (eqb b 9) _ _ (early-judged strict k (scan k (placed (at + 1) (cut 9 s))) (early-scan k (placed (at + 1) (cut 9 s)))) refl

early-remark : (at : ℕ) (s : List ℕ) → Early (remark at s)
unfolding Early remark is_later
early-remark at [] = refl
early-remark at (b ∷ s) = cond_both Early (eqb b 9) _ _ tt refl

early-body : (strict : Bool) (k : Kind) (at : ℕ) (s : List ℕ) → Early (body strict k at s)
unfolding body
early-body strict Header at s = early-fielded strict Header at s
early-body strict ReferenceSequence at s = early-fielded strict ReferenceSequence at s
early-body strict ReadGroup at s = early-fielded strict ReadGroup at s
early-body strict Program at s = early-fielded strict Program at s
early-body strict Comment at s = early-remark at s

early-bodied : (strict : Bool) (at : ℕ) (s : List ℕ) (o : Option Kind) → Early (bodied strict at s o)
unfolding Early bodied is_later
early-bodied strict at s none = refl
early-bodied strict at s (some k) = early-body strict k at s

early-kinded : (strict : Bool) (at : ℕ) (s : List ℕ) → Early (kinded strict at s)
unfolding Early kinded is_later
early-kinded strict at [] = refl
early-kinded strict at (a ∷ []) = refl
early-kinded strict at (a ∷ b ∷ s) = early-bodied strict (at + 2) s (kind_of a b)

early-prefixed : (strict : Bool) (at : ℕ) (s : List ℕ) → Early (prefixed strict at s)
unfolding Early prefixed is_later
early-prefixed strict at [] = refl
early-prefixed strict at (b ∷ s) = cond_both Early (eqb b 64) _ _ (early-kinded strict (at + 1) s) refl

early-line : (strict : Bool) (p : Piece) → Early (line strict p)
unfolding Early line is_later
early-line strict p = cond_both Early (any breaks p.bytes) _ _ refl (early-prefixed strict p.at p.bytes)

early-barred : (before : List Record) (r : Record) → is_later (barred before r) ≡ false
unfolding barred is_later
early-barred before r =
    cond_both (λ n. is_later n ≡ false) (eqb (code r) 1 && not (none? before)) 17 _ refl
    (cond_both (λ n. is_later n ≡ false) (any (clash r) before) 18 _ refl
    (cond_both (λ n. is_later n ≡ false) (eqb (code r) 4 && leb 1024 (length (of_kind 4 before))) 19 0 refl refl))

early-unless : (n : ℕ) (r : Record) → is_later n ≡ false → Early (unless n r)
unfolding Early unless is_later
early-unless zero r h = tt
early-unless (suc n) r h = h

early-following : (before : List Record) (l : Line) → Early l → Early (following before l)
unfolding Early following is_later
early-following before (refused_line n) h = h
early-following before (read r) h = early-unless (barred before r) r (early-barred before r)

early-admitted : (strict : Bool) (before : List Record) (p : Piece) → Early (admitted strict before p)
unfolding admitted
early-admitted strict before p = early-following before (line strict p) (early-line strict p)

-- ---- all lines

unfoldable pub AllEarly : List Line → Type 0
unfolding Early
AllEarly [] = Unit
AllEarly (l ∷ ls) = Early l × AllEarly ls

pub all-early : (v : Option Version) (before : List Record) (ps : List Piece) → AllEarly (carried_from v before ps)
unfolding carried_from AllEarly
all-early v before [] = tt
all-early v before (p ∷ ps) =
    let w : Option Version = ruling v before p in
    let l : Line = admitted (is_strict w) before p in
    (early-admitted (is_strict w) before p, all-early w (before ++ kept_of (l ∷ [])) ps)
