-- The numbers of tags are below 3,224, and no two tags have one.
use Prim.Native.Nat.{ℕ, ◌+◌, ◌-◌, ◌<◌}
use mathlib.Core.Path.{◌≡◌, sym, ap, ◌∙◌}
use mathlib.Core.Bool.{true, ◌||◌, cond}
use native.Mathlib.Omega.{arith}
use lib.Dec.{ltb}
use borrow.Author.Tests.{lt-ltb, le-ltb, le-leb, lt-leb}
use Rattle.format.specs.Bytes.{between, letter, digit}
use Rattle.format.specs.Fields.{is_tag}
use Rattle.lists.proofs.Bools.{and_left, and_right, or_split}
use Rattle.accepted.proofs.Clean.{between-bounds}
use Rattle.accepted_line.specs.Number.{byte_number, tag_number}

-- the byte with a place
byte_at : ℕ → ℕ
byte_at p = cond (ltb p 26) (p + 65) (cond (ltb p 52) (p + 71) (p - 4))

-- a byte's place, and the byte from it again
abbrev Placed : ℕ → ℕ → Type 0
Placed b most = (byte_number b < most) × (byte_at (byte_number b) ≡ b)

module _ (b : ℕ) where
  upper : between 65 90 b ≡ true → Placed b 52
  unfolding byte_number byte_at
  upper h =
      let x = between-bounds 65 90 b h in
      rw (lt-leb 97 b (omega arith), le-leb 65 b x.0) ((omega arith, rw (lt-ltb (b - 65) 26 (omega arith)) (omega arith)))

  lower : between 97 122 b ≡ true → Placed b 52
  unfolding byte_number byte_at
  lower h =
      let x = between-bounds 97 122 b h in
      rw (le-leb 97 b x.0) ((omega arith, rw (le-ltb (b - 71) 26 (omega arith), lt-ltb (b - 71) 52 (omega arith)) (omega arith)))

  letter-place : letter b ≡ true → Placed b 52
  unfolding letter
  letter-place h = or_split (between 65 90 b) (between 97 122 b) h upper lower

  digit-place : digit b ≡ true → Placed b 62
  unfolding digit byte_number byte_at
  digit-place h =
      let x = between-bounds 48 57 b h in
      rw (lt-leb 97 b (omega arith), lt-leb 65 b (omega arith)) ((omega arith, rw (le-ltb (b + 4) 26 (omega arith), le-ltb (b + 4) 52 (omega arith)) (omega arith)))

  second-place : letter b || digit b ≡ true → Placed b 62
  second-place h = or_split (letter b) (digit b) h (λ l. let p = letter-place l in (omega (arith, p.0), p.1)) digit-place

module _ (a b : ℕ) (h : is_tag a b ≡ true) where
  first : Placed a 52
  unfolding is_tag
  first = letter-place a (and_left (letter a) (letter b || digit b) h)

  second : Placed b 62
  unfolding is_tag
  second = second-place b (and_right (letter a) (letter b || digit b) h)

  pub tag_below : tag_number a b < 3224
  unfolding tag_number
  tag_below = omega (arith, first.0, second.0)

-- the number determines the tag
pub tag-apart : (a b c d : ℕ) → is_tag a b ≡ true → is_tag c d ≡ true → tag_number a b ≡ tag_number c d → (a ≡ c) × (b ≡ d)
unfolding tag_number
tag-apart a b c d h k e =
    let p = first a b h in
    let q = second a b h in
    let r = first c d k in
    let s = second c d k in
    let x : byte_number a ≡ byte_number c = omega (arith, q.0, s.0) in
    let y : byte_number b ≡ byte_number d = omega (arith, q.0, s.0) in
    (sym p.1 ∙ ap byte_at x ∙ r.1, sym q.1 ∙ ap byte_at y ∙ s.1)
