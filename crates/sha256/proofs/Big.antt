-- The bytes of a number, the highest first. Assumes nothing.
use Prim.Native.Nat.{ℕ, zero, suc, ◌+◌, ◌*◌, ◌/◌, ◌%◌, ◌≤◌}
use mathlib.Core.Path.{◌≡◌, refl, sym, ap, ◌∙◌}
use mathlib.Core.List.{List, [], ◌∷◌, ◌++◌}
use native.Mathlib.Omega.{arith}
use native.Mathlib.Nat.{div-one, div-div-eq-div-mul}
use lib.ListN.{length, replicate}
use Rattle.byte_slices.specs.Over.{over}
use Rattle.byte_slices.proofs.Over.{over-over}
use Rattle.format.specs.Sha256.{HashValue, big, digest}

pub big-length : (n v : ℕ) → length (big n v) ≡ n
unfolding big
big-length zero v = refl
big-length (suc n) v = ap suc (big-length n v)

pub big-four : (v : ℕ) → v / 16777216 % 256 ∷ v / 65536 % 256 ∷ v / 256 % 256 ∷ v % 256 ∷ [] ≡ big 4 v
unfolding big
big-four v = ap (λ x. v / 16777216 % 256 ∷ v / 65536 % 256 ∷ v / 256 % 256 ∷ x % 256 ∷ []) (sym (div-one v))

-- only the lowest bytes count
third : (v : ℕ) → v % 4294967296 / 16777216 % 256 ≡ v / 16777216 % 256
third v = omega arith

second : (v : ℕ) → v % 4294967296 / 65536 % 256 ≡ v / 65536 % 256
second v = omega arith

first : (v : ℕ) → v % 4294967296 / 256 % 256 ≡ v / 256 % 256
first v = omega arith

lowest : (v : ℕ) → v % 4294967296 / 1 % 256 ≡ v / 1 % 256
lowest v = omega arith

big-rem : (v : ℕ) → big 4 (v % 4294967296) ≡ big 4 v
unfolding big
big-rem v = λ i. third v i ∷ second v i ∷ first v i ∷ lowest v i ∷ []

-- a number by its two halves
big-halves : (v : ℕ) → big 4 (v / 4294967296) ++ big 4 v ≡ big 8 v
unfolding big
big-halves v =
    rw (
      div-div-eq-div-mul v 4294967296 16777216,
      div-div-eq-div-mul v 4294967296 65536,
      div-div-eq-div-mul v 4294967296 256,
      div-div-eq-div-mul v 4294967296 1,
    )
    refl

high : (n : ℕ) → n / 536870912 ≡ 8 * n / 4294967296
high n = omega arith

low : (n : ℕ) → n % 536870912 * 8 ≡ 8 * n % 4294967296
low n = omega arith

-- the number of bits of `n` bytes
big-bits : (n : ℕ) → big 4 (n / 536870912 % 4294967296) ++ big 4 (n % 536870912 * 8) ≡ big 8 (8 * n)
big-bits n =
    (λ i. big 4 (high n i % 4294967296) ++ big 4 (low n i)) ∙ (λ i. big-rem (8 * n / 4294967296) i ++ big-rem (8 * n) i) ∙ big-halves (8 * n)

-- written in two halves
pub bits_put : (out a b : List ℕ) (at n : ℕ) → at + 8 ≤ length out
    → a ≡ over out at (big 4 (n / 536870912 % 4294967296)) → b ≡ over a (at + 4) (big 4 (n % 536870912 * 8)) → b ≡ over out at (big 8 (8 * n))
bits_put out a b at n h ea eb =
    let x : List ℕ = big 4 (n / 536870912 % 4294967296) in
    let y : List ℕ = big 4 (n % 536870912 * 8) in
    let lx : length x ≡ 4 = big-length 4 (n / 536870912 % 4294967296) in
    let ly : length y ≡ 4 = big-length 4 (n % 536870912 * 8) in
    eb ∙ ap (λ o. over o (at + 4) y) ea ∙ ap (λ k. over (over out at x) (at + k) y) (sym lx)
    ∙ over-over out at x y (omega arith) ∙ ap (over out at) (big-bits n)

-- eight words in a row
pub words-put : (s : HashValue) (a b c d e f g h : List ℕ) → a ≡ over (replicate 32 0) 0 (big 4 s.a) → b ≡ over a 4 (big 4 s.b) → c ≡ over b 8 (big 4 s.c)
    → d ≡ over c 12 (big 4 s.d) → e ≡ over d 16 (big 4 s.e) → f ≡ over e 20 (big 4 s.f) → g ≡ over f 24 (big 4 s.g) → h ≡ over g 28 (big 4 s.h)
    → h ≡ digest s
unfolding over big digest
words-put s a b c d e f g h ea eb ec ed ee ef eg eh =
    let p : c ≡ over (over (over (replicate 32 0) 0 (big 4 s.a)) 4 (big 4 s.b)) 8 (big 4 s.c) =
    ec ∙ ap (λ o. over o 8 (big 4 s.c)) (eb ∙ ap (λ o. over o 4 (big 4 s.b)) ea) in
    let q : f ≡ over (over (over c 12 (big 4 s.d)) 16 (big 4 s.e)) 20 (big 4 s.f) =
    ef ∙ ap (λ o. over o 20 (big 4 s.f)) (ee ∙ ap (λ o. over o 16 (big 4 s.e)) ed) in
    eh ∙ ap (λ o. over o 28 (big 4 s.h)) (eg ∙ ap (λ o. over o 24 (big 4 s.g)) (q ∙ ap (λ o. over (over (over o 12 (big 4 s.d)) 16 (big 4 s.e)) 20 (big 4 s.f)) p))
