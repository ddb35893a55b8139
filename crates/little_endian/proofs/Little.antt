-- The laws of `little` and `of_little`: a number in bytes, and the number of bytes.
use Prim.Native.Nat.{ℕ, zero, suc, ◌+◌, ◌*◌, ◌/◌, ◌%◌, ◌^◌, ◌≤◌, ◌<◌}
use mathlib.Core.Path.{◌≡◌, refl, sym, ap, ◌∙◌}
use mathlib.Core.List.{List, [], ◌∷◌, ◌++◌}
use native.Mathlib.Omega.{arith}
use native.Mathlib.Nat.{pow-zero, pow-suc, pow-succ', div-add-mod, div-div-eq-div-mul, div-one, mod-lt, mod-eq_of_lt, mul-add-mod_self_left, one-le-pow, zero-add, suc-add, mul_assoc}
use native.Mathlib.Numerals.{add-one, add-two, add-three}
use lib.ListN.{length, take, drop, get_or, length-drop}
use lib.Seq.{take_all, length-take-le, take-add, drop-drop, drop-cons}
use Rattle.std.specs.Int.{w32, w64, to_le_bytes, from_le_bytes}
use Rattle.format.specs.Catalogue.{little}
use Rattle.format.specs.Little.{of_little}
use Rattle.byte_slices.specs.Over.{over}
use Rattle.byte_slices.proofs.Over.{over-part}

pub little-length : (n v : ℕ) → length (little n v) ≡ n
unfolding little
little-length zero v = refl
little-length (suc n) v = ap suc (little-length n (v / 256))

-- a number that fits is read back
pub of-little : (n v : ℕ) → v < 256 ^ n → of_little (little n v) ≡ v
unfolding little of_little
of-little zero v h = omega (arith, pow-zero 256)
of-little (suc n) v h =
    let k : v / 256 < 256 ^ n = omega (arith, pow-suc 256 n) in
    omega (arith, of-little n (v / 256) k)

-- where it was written
pub of-over : (n v : ℕ) (out : List ℕ) (at : ℕ) → at ≤ length out → v < 256 ^ n → of_little (take n (drop at (over out at (little n v)))) ≡ v
of-over n v out at h k =
    let p : take n (drop at (over out at (little n v))) ≡ little n v =
    ap (λ m. take m (drop at (over out at (little n v)))) (sym (little-length n v)) ∙ over-part out at (little n v) h in
    ap of_little p ∙ of-little n v k

-- ---- in two parts

times : (n k : ℕ) → 256 ^ suc n * k ≡ 256 * (256 ^ n * k)
times n k = ap (λ m. m * k) (pow-succ' 256 n) ∙ mul_assoc 256 (256 ^ n) k

pub of-append : (s t : List ℕ) → of_little (s ++ t) ≡ of_little s + 256 ^ length s * of_little t
unfolding of_little
of-append [] t = omega arith
of-append (b ∷ s) t =
    let e : 256 ^ suc (length s) * of_little t ≡ 256 * (256 ^ length s * of_little t) = times (length s) (of_little t) in
    omega (arith, of-append s t)

pub little-append : (m n v : ℕ) → little (m + n) v ≡ little m v ++ little n (v / 256 ^ m)
unfolding little
little-append zero n v = rw (zero-add n, pow-zero 256, div-one v) refl
little-append (suc m) n v = rw (suc-add m n, little-append m n (v / 256), div-div-eq-div-mul v 256 (256 ^ m), pow-succ' 256 m) refl

-- only the lowest bytes count
pub little-rem : (n v : ℕ) → little n (v % 256 ^ n) ≡ little n v
unfolding little
little-rem zero v = refl
little-rem (suc n) v =
    let m : ℕ = 256 ^ n in
    let q : ℕ = v / 256 ^ suc n in
    let r : ℕ = v % 256 ^ suc n in
    let whole : 256 * (m * q) + r ≡ v = ap (λ k. k + r) (sym (times n q)) ∙ div-add-mod v (256 ^ suc n) in
    let low : r % 256 ≡ v % 256 = omega (arith, whole) in
    let fits : r / 256 < m = omega (arith, mod-lt v {m = 256 ^ suc n} (one-le-pow (suc n) 256 (omega arith)), pow-succ' 256 n) in
    let high : v / 256 ≡ m * q + r / 256 = omega (arith, whole) in
    let rest : r / 256 ≡ v / 256 % m =
    sym (ap (λ k. k % m) high ∙ mul-add-mod_self_left m q (r / 256) ∙ mod-eq_of_lt fits) in
    rw (low, rest, little-rem n (v / 256)) refl

-- a number by its low part and its high part
pub little-parts : (m n v : ℕ) → little m (v % 256 ^ m) ++ little n (v / 256 ^ m) ≡ little (m + n) v
little-parts m n v = rw (little-rem m v, little-append m n v) refl

-- ---- in a text

pub of_parts : (m n at : ℕ) (s : List ℕ) → at + m ≤ length s
    → of_little (take (m + n) (drop at s)) ≡ of_little (take m (drop at s)) + 256 ^ m * of_little (take n (drop (at + m) s))
of_parts m n at s h =
    let l : length (take m (drop at s)) ≡ m = length-take-le m (drop at s) (omega (arith, length-drop at s)) in
    ap of_little (take-add m n (drop at s)) ∙ of-append (take m (drop at s)) (take n (drop m (drop at s))) ∙ rw (l, drop-drop m at s) refl

pub of_four : (at : ℕ) (s : List ℕ) → at + 4 ≤ length s
    → of_little (take 4 (drop at s)) ≡ get_or s at 0 + 256 * (get_or s (at + 1) 0 + 256 * (get_or s (at + 2) 0 + 256 * get_or s (at + 3) 0))
unfolding of_little
of_four at s h =
    rw (
      drop-cons s at 0 (omega arith),
      drop-cons s (suc at) 0 (omega arith),
      drop-cons s (suc (suc at)) 0 (omega arith),
      drop-cons s (suc (suc (suc at))) 0 (omega arith),
      add-one at,
      add-two at,
      add-three at,
    )
    (omega arith)

-- ---- what std makes of a number, and of bytes

pub le-four : (v : ℕ) → to_le_bytes w32 v ≡ little 4 v
unfolding little
le-four v =
    let p : v / 65536 ≡ v / 256 / 256 = omega arith in
    let q : v / 16777216 ≡ v / 256 / 256 / 256 = omega arith in
    λ i. v % 256 ∷ v / 256 % 256 ∷ p i % 256 ∷ q i % 256 ∷ []

pub le-eight : (v : ℕ) → to_le_bytes w64 v ≡ little 8 v
unfolding little
le-eight v =
    rw (
      div-div-eq-div-mul v 256 256,
      div-div-eq-div-mul v 65536 256,
      div-div-eq-div-mul v 16777216 256,
      div-div-eq-div-mul v 4294967296 256,
      div-div-eq-div-mul v 1099511627776 256,
      div-div-eq-div-mul v 281474976710656 256,
    )
    refl

module _ (s : List ℕ) where
  pub four-le : length s ≡ 4 → from_le_bytes w32 s ≡ of_little s
  four-le h = omega (arith, of_four 0 s (omega arith), ap of_little (take_all 4 s (omega arith)))

  pub eight-le : length s ≡ 8 → from_le_bytes w64 s ≡ of_little s
  eight-le h =
      omega (arith, of_parts 4 4 0 s (omega arith), of_four 0 s (omega arith), of_four 4 s (omega arith), ap of_little (take_all 8 s (omega arith)))
