-- The fields of a line of the tidy text are read where they are: VN and LN as they are written, other keys and values as they are.
use Prim.Native.Nat.{ℕ, ◌+◌, ◌^◌, ◌≤◌, ◌<◌}
use mathlib.Core.Path.{◌≡◌, refl, ◌∙◌}
use mathlib.Core.Bool.{true, false, not, ◌&&◌}
use mathlib.Core.List.{List, [], ◌∷◌, ◌++◌}
use mathlib.Core.Option.{some}
use native.Mathlib.Omega.{arith}
use lib.Dec.{eqb}
use borrow.Author.Tests.{le-leb, lt-ltb, ne_eqb, not-true}
use Rattle.format.specs.Bytes.{digit, printable, all, none?}
use Rattle.format.specs.Decimal.{worth, span, digits, written}
use Rattle.format.specs.Fields.{Field, good, is_tag, is_value, is_wide, allows, plain, spelled, version_field, length_field, value_field, field}
use Rattle.format.specs.Version.{grow, sides, both, numbered, version}
use Rattle.format.specs.declared.Version.{Version}
use Rattle.format.specs.declared.Kind.{Kind}
use Rattle.format.specs.declared.Kind.TheVariants.{Header, ReferenceSequence, ReadGroup, Program, Comment}
use Rattle.decimal.proofs.ReadBack.{number-back, reads-back, written-digits}
use Rattle.accepted.specs.Sound.{Other}
use Rattle.format.specs.Keys.{is_key}
use Rattle.lists.proofs.Bools.{and_left, and_right, or_right}
use Rattle.utf8.specs.Shown.{shown}
use Rattle.accepted.proofs.Clean.{between-bounds, tag-bounds, shown-between, allowed-shown}
use Rattle.tidy_laws.specs.Line.{own, piece_text, put-at}
use Rattle.tidy_laws.proofs.Pieces.{Fine}

-- ---- bytes

within-printable : (b : ℕ) → 32 ≤ b → b ≤ 126 → printable b ≡ true
unfolding printable
within-printable b l u = rw (le-leb 32 b l, le-leb b 126 u) refl

digit-bounds : (b : ℕ) → digit b ≡ true → (48 ≤ b) × (b ≤ 57)
unfolding digit
digit-bounds b h = between-bounds 48 57 b h

digit-printable : (b : ℕ) → digit b ≡ true → printable b ≡ true
digit-printable b h = let x = digit-bounds b h in within-printable b (omega arith) (omega arith)

all-printable : (s : List ℕ) → all digit s ≡ true → all printable s ≡ true
unfolding all
all-printable [] h = refl
all-printable (b ∷ s) h =
    rw (digit-printable b (and_left (digit b) (all digit s) h), all-printable s (and_right (digit b) (all digit s) h)) refl

-- a piece with a tag and a value
piece-shown : (k : Kind) (a b : ℕ) (v : List ℕ) → is_tag a b ≡ true → allows k a b v ≡ true → all shown (a ∷ b ∷ 58 ∷ v) ≡ true
unfolding all
piece-shown k a b v t h =
    let w = tag-bounds a b t in
    let x : shown a ≡ true = shown-between a (omega arith) (omega arith) in
    let y : shown b ≡ true = shown-between b (omega arith) (omega arith) in
    let z : all shown v ≡ true = allowed-shown k a b v h in
    rw (x, y, shown-between 58 (omega arith) (omega arith), z) refl

-- ---- a field that is kept byte for byte

module _ (k : Kind) (f : Field) (t : is_tag f.tag₀ f.tag₁ ≡ true) (h : allows k f.tag₀ f.tag₁ f.value.bytes ≡ true) where
  -- how a piece is judged is how its value is
  by_value : ((at : ℕ) → value_field k f.tag₀ f.tag₁ at f.value.bytes ≡ good (put-at at f)) → Fine k f
  unfolding piece_text field
  by_value e =
      record {
        bytes = piece-shown k f.tag₀ f.tag₁ f.value.bytes t h;
        reads = λ at. rw t (e (at + 3));
      }

  pub plain-good : (at : ℕ) → plain k f.tag₀ f.tag₁ at f.value.bytes ≡ good (put-at at f)
  unfolding plain put-at
  plain-good at = rw h refl

-- neither VN in HD nor LN in SQ
plain_value : (k : Kind) (a b at : ℕ) (v : List ℕ) → is_key k a b ≡ false → value_field k a b at v ≡ plain k a b at v
unfolding value_field is_key
plain_value Header a b at v e = rw e refl
plain_value ReferenceSequence a b at v e = rw (or_right (eqb a 83 && eqb b 78) (eqb a 76 && eqb b 78) e) refl
plain_value ReadGroup a b at v e = refl
plain_value Program a b at v e = refl
plain_value Comment a b at v e = refl

pub fine-other : (k : Kind) (f : Field) → Other k f → Fine k f
fine-other k f o =
    by_value k f o.tag o.value (λ at. plain_value k f.tag₀ f.tag₁ at f.value.bytes o.no_key ∙ plain-good k f o.tag o.value at)

-- SN, or ID
pub fine-key : (k : Kind) (a b : ℕ) (v : List ℕ) → is_tag a b ≡ true → ((at : ℕ) → value_field k a b at v ≡ plain k a b at v) → allows k a b v ≡ true → Fine k (own a b v)
unfolding own
fine-key k a b v t e h = by_value k (own a b v) t h (λ at. e at ∙ plain-good k (own a b v) t h at)

-- ---- numbers

-- digits are a value
digits_value : (s : List ℕ) → digits s ≡ true → is_value s ≡ true
unfolding digits is_value
digits_value s h = rw (and_left (not (none? s)) (all digit s) h) (all-printable s (and_right (not (none? s)) (all digit s) h))

span-digits : (s : List ℕ) → all digit s ≡ true → span s ≡ (s, [])
unfolding span all
span-digits [] h = refl
span-digits (b ∷ s) h = rw (and_left (digit b) (all digit s) h, span-digits s (and_right (digit b) (all digit s) h)) refl

-- LN
pub fine-length : (n : ℕ) → 1 ≤ n → n < 2 ^ 31 → Fine ReferenceSequence (own 76 78 (written n))
unfolding own value_field length_field put-at digits is_tag allows is_wide
fine-length n l u =
    let d : digits (written n) ≡ true = written-digits n (omega arith) in
    let s : span (written n) ≡ (written n, []) = span-digits (written n) (and_right (not (none? (written n))) (all digit (written n)) d) in
    let w : worth (written n) ≡ n = reads-back n (omega arith) in
    let z : none? (written n) ≡ false = not-true (none? (written n)) (and_left (not (none? (written n))) (all digit (written n)) d) in
    by_value ReferenceSequence (own 76 78 (written n)) refl (digits_value (written n) d)
    (λ at. rw (s, z, w, lt-ltb n (2 ^ 64) (omega arith), lt-ltb n (2 ^ 31) u, ne_eqb n 0 (λ e. omega arith)) refl)

-- ---- versions

-- the first dot comes after the digits
sides-digits : (l r : List ℕ) → all digit l ≡ true → sides 46 (l ++ (46 ∷ r)) ≡ some (l, r)
unfolding sides grow all
sides-digits [] r h = refl
sides-digits (b ∷ l) r h =
    let d : eqb b 46 ≡ false = ne_eqb b 46 (λ e. omega (arith, digit-bounds b (and_left (digit b) (all digit l) h))) in
    rw (d, sides-digits l r (and_right (digit b) (all digit l) h)) refl

pub version-back : (v : Version) → v.major < 2 ^ 32 → v.minor < 2 ^ 32 → version (written v.major ++ (46 ∷ written v.minor)) ≡ some v
unfolding version numbered both digits
version-back v m n =
    let d : digits (written v.major) ≡ true = written-digits v.major (omega arith) in
    rw (
      sides-digits (written v.major) (written v.minor) (and_right (not (none? (written v.major))) (all digit (written v.major)) d),
      number-back (2 ^ 32) v.major m (omega arith),
      number-back (2 ^ 32) v.minor n (omega arith),
    )
    refl

-- two values with a dot between are a value
value-dot : (l r : List ℕ) → is_value l ≡ true → is_value r ≡ true → is_value (l ++ (46 ∷ r)) ≡ true
unfolding is_value none? all printable
value-dot [] r h k = absurd (let z : ◌≡◌ {A = ℕ} 0 1 = cc in omega arith)
value-dot (b ∷ l) r h k = all-dot (b ∷ l) h
  where
    all-dot : (s : List ℕ) → all printable s ≡ true → all printable (s ++ (46 ∷ r)) ≡ true
    all-dot [] e = and_right (not (none? r)) (all printable r) k
    all-dot (c ∷ s) e = rw (and_left (printable c) (all printable s) e) (all-dot s (and_right (printable c) (all printable s) e))

-- VN
pub fine-version : (v : Version) → v.major < 2 ^ 32 → v.minor < 2 ^ 32 → Fine Header (own 86 78 (written v.major ++ (46 ∷ written v.minor)))
unfolding own value_field version_field plain spelled is_tag put-at allows is_wide
fine-version v m n =
    let s : List ℕ = written v.major ++ (46 ∷ written v.minor) in
    let h : is_value s ≡ true =
    value-dot (written v.major) (written v.minor) (digits_value (written v.major) (written-digits v.major (omega arith))) (digits_value (written v.minor) (written-digits v.minor (omega arith))) in
    by_value Header (own 86 78 s) refl h (λ at. rw (h, version-back v m n) refl)
