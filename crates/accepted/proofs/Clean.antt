-- An accepted line of fields holds no byte below 32 but tabs, and no 127: no LF and no CR.
use Prim.Native.Nat.{ℕ, ◌+◌, ◌≤◌}
use mathlib.Core.Path.{◌≡◌, refl}
use mathlib.Core.Bool.{Bool, true, false, not, ◌&&◌, ◌||◌, cond}
use mathlib.Core.List.{List, [], ◌∷◌}
use native.Mathlib.Omega.{arith}
use lib.Dec.{eqb, leb}
use borrow.Author.Tests.{leb-true, ne_eqb}
use Rattle.format.specs.Bytes.{between, digit, letter, printable, all, any, none?}
use Rattle.format.specs.Lines.{Piece, onto, cut, placed}
use Rattle.format.specs.Fields.{Field, is_value, is_wide_value, is_wide, allows, is_tag}
use Rattle.format.specs.Records.{Record, code, read, prefixed, breaks}
use Rattle.format.specs.declared.Kind.{Kind}
use Rattle.format.specs.declared.Kind.TheVariants.{Header, ReferenceSequence, ReadGroup, Program, Comment}
use Rattle.byte_slices.specs.Stands.{Each}
use Rattle.byte_slices.proofs.Stands.{each-bytes}
use Rattle.format.specs.Utf8.{characters}
use Rattle.utf8.specs.Shown.{shown}
use Rattle.utf8.proofs.Shown.{shown-byte, whole-shown}
use Rattle.accepted.specs.Clean.{clean}
use Rattle.accepted.specs.Spelled as sp
use Rattle.accepted.specs.Spelled.{Good, kind₀, kind₁, AcceptedLine}
use Rattle.lists.proofs.Bools.{never, and_left, and_right, or-true, or_split}
use Rattle.lists.proofs.Pairs.{pairs-left}
use Rattle.accepted.proofs.Spelled.{prefixed-accepted}

-- ---- bytes

pub shown-between : (b : ℕ) → 32 ≤ b → b ≤ 126 → shown b ≡ true
shown-between b l u = shown-byte b l (λ e. omega arith)

shown-clean : (b : ℕ) → shown b ≡ true → clean b ≡ true
unfolding clean
shown-clean b h = rw h (or-true (eqb b 9))

-- letters and digits by their bounds
pub between-bounds : (lo hi b : ℕ) → between lo hi b ≡ true → (lo ≤ b) × (b ≤ hi)
unfolding between
between-bounds lo hi b h = (leb-true lo b (and_left (leb lo b) (leb b hi) h), leb-true b hi (and_right (leb lo b) (leb b hi) h))

pub letter-bounds : (b : ℕ) → letter b ≡ true → (65 ≤ b) × (b ≤ 122)
unfolding letter
letter-bounds b h = or_split (between 65 90 b) (between 97 122 b) h
    (λ t. let x = between-bounds 65 90 b t in (omega arith, omega arith))
    (λ t. let x = between-bounds 97 122 b t in (omega arith, omega arith))

pub tag-bounds : (a b : ℕ) → is_tag a b ≡ true → ((65 ≤ a) × (a ≤ 122)) × ((48 ≤ b) × (b ≤ 122))
unfolding is_tag digit
tag-bounds a b h = (
  letter-bounds a (and_left (letter a) (letter b || digit b) h),
  or_split (letter b) (digit b) (and_right (letter a) (letter b || digit b) h)
      (λ t. let x = letter-bounds b t in (omega arith, omega arith))
      (λ t. let x = between-bounds 48 57 b t in (omega arith, omega arith)),
)

-- ---- pieces

-- a value by the old rule, and by either
printable-shown : (s : List ℕ) → all printable s ≡ true → all shown s ≡ true
unfolding all printable
printable-shown [] h = refl
printable-shown (b ∷ s) h =
    let x = between-bounds 32 126 b (and_left (printable b) (all printable s) h) in
    rw (shown-between b x.0 x.1, printable-shown s (and_right (printable b) (all printable s) h)) refl

pub allowed-shown : (k : Kind) (a b : ℕ) (v : List ℕ) → allows k a b v ≡ true → all shown v ≡ true
unfolding allows is_wide_value is_value
allowed-shown k a b v h = go (is_wide k a b) h
  where
    go : (t : Bool) → cond t (not (none? v) && characters [] v) (not (none? v) && all printable v) ≡ true → all shown v ≡ true
    go true h = whole-shown v (and_right (not (none? v)) (characters [] v) h)
    go false h = printable-shown v (and_right (not (none? v)) (all printable v) h)

all-clean : (s : List ℕ) → all shown s ≡ true → all clean s ≡ true
unfolding all
all-clean [] h = refl
all-clean (b ∷ s) h = rw (shown-clean b (and_left (shown b) (all shown s) h), all-clean s (and_right (shown b) (all shown s) h)) refl

good-clean : (k : Kind) (at : ℕ) (s : List ℕ) (f : Field) → Good k at s f → all clean s ≡ true
unfolding all
good-clean k at s f g =
    let t = tag-bounds f.tag₀ f.tag₁ g.tag in
    let v : List ℕ = f.value.bytes in
    rw (
      g.spells,
      shown-clean f.tag₀ (shown-between f.tag₀ (omega arith) (omega arith)),
      shown-clean f.tag₁ (shown-between f.tag₁ (omega arith) (omega arith)),
      shown-clean 58 (shown-between 58 (omega arith) (omega arith)),
      all-clean v (allowed-shown k f.tag₀ f.tag₁ v g.value),
    ) refl

-- pieces with tabs between them
cut-clean : (s : List ℕ) → Each (λ p. all clean p ≡ true) (cut 9 s) → all clean s ≡ true
unfolding Each cut all onto clean
cut-clean [] h = refl
cut-clean (b ∷ s) h = go (eqb b 9) refl (cut 9 s) (cut-clean s) h
  where
    join : (ps : List (List ℕ)) → (Each (λ p. all clean p ≡ true) ps → all clean s ≡ true) → Each (λ p. all clean p ≡ true) (onto b ps) → clean b && all clean s ≡ true
    join [] ih h = rw (and_left (clean b) true h.0, ih tt) refl
    join (p ∷ ps) ih h = rw (and_left (clean b) (all clean p) h.0, ih (and_right (clean b) (all clean p) h.0, h.1)) refl

    go : (t : Bool) → eqb b 9 ≡ t → (ps : List (List ℕ)) → (Each (λ p. all clean p ≡ true) ps → all clean s ≡ true)
        → Each (λ p. all clean p ≡ true) (cond t ([] ∷ ps) (onto b ps)) → clean b && all clean s ≡ true
    go true e ps ih h = rw (e, ih h.1) refl
    go false e ps ih h = join ps ih h

-- ---- lines

kind-clean : (k : Kind) → (clean (kind₀ k) ≡ true) × (clean (kind₁ k) ≡ true)
unfolding clean kind₀ kind₁
kind-clean Header = (refl, refl)
kind-clean ReferenceSequence = (refl, refl)
kind-clean ReadGroup = (refl, refl)
kind-clean Program = (refl, refl)
kind-clean Comment = (refl, refl)

pub accepted-clean : (strict : Bool) (at : ℕ) (s : List ℕ) (r : Record) → AcceptedLine strict at s r → (code r ≡ 5 → ⊥) → all clean s ≡ true
unfolding code all
accepted-clean strict at s r (sp.of-remark t) n = absurd (n refl)
accepted-clean strict at s r (sp.of_fields a) n =
    let h = kind-clean a.kind in
    let ps : List Piece = placed (at + 4) (cut 9 a.rest) in
    let e : Each (λ p. all clean p.bytes ≡ true) ps = pairs-left (λ p f. Good a.kind p.at p.bytes f) (λ p. all clean p.bytes ≡ true) (λ p f g. good-clean a.kind p.at p.bytes f g) ps a.fields a.each in
    let c : all clean a.rest ≡ true = cut-clean a.rest (each-bytes (λ p. all clean p ≡ true) (at + 4) (cut 9 a.rest) e) in
    rw (a.spells, h.0, h.1, c) (unfold clean in refl)

-- neither LF nor CR
pub clean-unbroken : (s : List ℕ) → all clean s ≡ true → any breaks s ≡ false
unfolding all any breaks clean shown
clean-unbroken [] h = refl
clean-unbroken (b ∷ s) h =
    let c : clean b ≡ true = and_left (clean b) (all clean s) h in
    rw (
      ne_eqb b 10 (λ e. never (let z : clean 10 ≡ true = rw e at c in cc)),
      ne_eqb b 13 (λ e. never (let z : clean 13 ≡ true = rw e at c in cc)),
      clean-unbroken s (and_right (clean b) (all clean s) h),
    ) refl

pub unbroken : (strict : Bool) (at : ℕ) (s : List ℕ) (r : Record) → prefixed strict at s ≡ read r → (code r ≡ 5 → ⊥) → any breaks s ≡ false
unbroken strict at s r e n = clean-unbroken s (accepted-clean strict at s r (prefixed-accepted strict at r s e) n)
