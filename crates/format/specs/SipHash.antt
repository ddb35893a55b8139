-- SipHash-c-d of a message of bytes, under a key of two words: J.-P. Aumasson and D. J. Bernstein, "SipHash: a fast short-input PRF", 2012,
-- section 2. A word is a number below 2 ^ 64. No answer depends on it: it only tells where looking for a key starts (`key_look`).
use Rattle.std.specs.Prelude.{ℕ, zero, suc, ◌+◌, ◌-◌, ◌*◌, ◌/◌, ◌%◌, ◌^◌, List, [], ◌∷◌, ◌++◌, length, take, drop, replicate}
use Rattle.std.specs.Int.Bits.{bit_or, bit_xor}
use Rattle.format.specs.Little.{of_little}

-- ---- the round, on four words (figure 2.1)

pub record SipState : Type 0 where
  pub v0 : ℕ
  pub v1 : ℕ
  pub v2 : ℕ
  pub v3 : ℕ

-- addition modulo 2 ^ 64
unfoldable pub plus : ℕ → ℕ → ℕ
plus x y = (x + y) % 2 ^ 64

-- a rotation to the left, as (x << n) ∨ (x >> 64 - n)
unfoldable pub rotl : ℕ → ℕ → ℕ
rotl n x = bit_or (x * 2 ^ n % 2 ^ 64) (x / 2 ^ (64 - n))

-- a word that was added to another: rotated by `n`, and combined with the sum
unfoldable pub mixed : ℕ → ℕ → ℕ → ℕ
unfolding rotl
mixed n x sum = bit_xor (rotl n x) sum

-- SipRound
unfoldable pub round : SipState → SipState
unfolding plus rotl mixed
round s =
    let a : ℕ = plus s.v0 s.v1 in
    let b : ℕ = plus s.v2 s.v3 in
    let v1 : ℕ = mixed 13 s.v1 a in
    let v3 : ℕ = mixed 16 s.v3 b in
    let v0 : ℕ = plus (rotl 32 a) v3 in
    let v2 : ℕ = plus b v1 in
    record { v0 = v0; v1 = mixed 17 v1 v2; v2 = rotl 32 v2; v3 = mixed 21 v3 v0 }

-- `n` rounds
unfoldable pub rounds : ℕ → SipState → SipState
unfolding round
rounds zero s = s
rounds (suc n) s = rounds n (round s)

-- ---- a message

-- 1. the state at first
unfoldable pub initial : ℕ → ℕ → SipState
initial k0 k1 =
    record {
      v0 = bit_xor k0 0x736f_6d65_7073_6575;
      v1 = bit_xor k1 0x646f_7261_6e64_6f6d;
      v2 = bit_xor k0 0x6c79_6765_6e65_7261;
      v3 = bit_xor k1 0x7465_6462_7974_6573;
    }

-- 2. a word of the message: combined with v3, `c` rounds, combined with v0
unfoldable pub absorb : ℕ → SipState → ℕ → SipState
unfolding rounds
absorb c s m =
    let t : SipState = rounds c (record { v0 = s.v0; v1 = s.v1; v2 = s.v2; v3 = bit_xor s.v3 m }) in
    record { v0 = bit_xor t.v0 m; v1 = t.v1; v2 = t.v2; v3 = t.v3 }

unfoldable pub absorbed : ℕ → SipState → List ℕ → SipState
unfolding absorb
absorbed c s [] = s
absorbed c s (m ∷ ms) = absorbed c (absorb c s m) ms

-- the message, then zeros, and its length modulo 256 as the last byte of a word of eight
unfoldable pub pad : List ℕ → List ℕ
pad s = s ++ (replicate (7 - length s % 8) 0 ++ length s % 256 ∷ [])

-- `n` words of eight bytes, the lowest first
unfoldable pub words : ℕ → List ℕ → List ℕ
unfolding of_little
words zero s = []
words (suc n) s = of_little (take 8 s) ∷ words n (drop 8 s)

-- 3. 0xff combined with v2, `d` rounds, and the four words combined
unfoldable pub joined : SipState → ℕ
joined s = bit_xor (bit_xor (bit_xor s.v0 s.v1) s.v2) s.v3

unfoldable pub finish : ℕ → SipState → ℕ
unfolding rounds joined
finish d s = joined (rounds d (record { v0 = s.v0; v1 = s.v1; v2 = bit_xor s.v2 0xff; v3 = s.v3 }))

unfoldable pub sip : ℕ → ℕ → ℕ → ℕ → List ℕ → ℕ
unfolding initial absorbed pad words finish
sip c d k0 k1 s = let p : List ℕ = pad s in finish d (absorbed c (initial k0 k1) (words (length p / 8) p))

-- a key: the first sixteen bytes, as two words
unfoldable pub key_of : List ℕ → ℕ × ℕ
unfolding of_little
key_of s = (of_little (take 8 s), of_little (take 8 (drop 8 s)))
