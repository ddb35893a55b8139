-- SHA-256 of a message of bytes, as FIPS 180-4 has it; the numbers in brackets are its sections. A word is a number below 2 ^ 32.
use Rattle.std.specs.Prelude.{ℕ, zero, suc, ◌+◌, ◌-◌, ◌*◌, ◌/◌, ◌%◌, ◌^◌, List, [], ◌∷◌, ◌++◌, length, take, drop, get_or, replicate}
use Rattle.std.specs.Int.Bits.{bit_and, bit_or, bit_xor}

-- ---- words (3.2) and the functions on them (4.1.2)

-- addition modulo 2 ^ 32
unfoldable pub sum32 : ℕ → ℕ → ℕ
sum32 x y = (x + y) % 2 ^ 32

unfoldable pub complement : ℕ → ℕ
complement x = 2 ^ 32 - 1 - x

-- a shift to the right, and a rotation to the right, (x >> n) ∨ (x << 32 - n)
unfoldable pub shr : ℕ → ℕ → ℕ
shr n x = x / 2 ^ n

unfoldable pub rotr : ℕ → ℕ → ℕ
rotr n x = bit_or (x / 2 ^ n) (x * 2 ^ (32 - n) % 2 ^ 32)

unfoldable pub Ch : ℕ → ℕ → ℕ → ℕ
unfolding complement
Ch x y z = bit_xor (bit_and x y) (bit_and (complement x) z)

unfoldable pub Maj : ℕ → ℕ → ℕ → ℕ
Maj x y z = bit_xor (bit_xor (bit_and x y) (bit_and x z)) (bit_and y z)

unfoldable pub Σ0 : ℕ → ℕ
unfolding rotr
Σ0 x = bit_xor (bit_xor (rotr 2 x) (rotr 13 x)) (rotr 22 x)

unfoldable pub Σ1 : ℕ → ℕ
unfolding rotr
Σ1 x = bit_xor (bit_xor (rotr 6 x) (rotr 11 x)) (rotr 25 x)

unfoldable pub σ0 : ℕ → ℕ
unfolding rotr shr
σ0 x = bit_xor (bit_xor (rotr 7 x) (rotr 18 x)) (shr 3 x)

unfoldable pub σ1 : ℕ → ℕ
unfolding rotr shr
σ1 x = bit_xor (bit_xor (rotr 17 x) (rotr 19 x)) (shr 10 x)

-- ---- constants

-- the first 32 bits of the fractional parts of the cube roots of the first 64 primes (4.2.2)
unfoldable pub K : List ℕ
K =
    0x428a_2f98 ∷ 0x7137_4491 ∷ 0xb5c0_fbcf ∷ 0xe9b5_dba5 ∷ 0x3956_c25b ∷ 0x59f1_11f1 ∷ 0x923f_82a4 ∷ 0xab1c_5ed5 ∷
    0xd807_aa98 ∷ 0x1283_5b01 ∷ 0x2431_85be ∷ 0x550c_7dc3 ∷ 0x72be_5d74 ∷ 0x80de_b1fe ∷ 0x9bdc_06a7 ∷ 0xc19b_f174 ∷
    0xe49b_69c1 ∷ 0xefbe_4786 ∷ 0x0fc1_9dc6 ∷ 0x240c_a1cc ∷ 0x2de9_2c6f ∷ 0x4a74_84aa ∷ 0x5cb0_a9dc ∷ 0x76f9_88da ∷
    0x983e_5152 ∷ 0xa831_c66d ∷ 0xb003_27c8 ∷ 0xbf59_7fc7 ∷ 0xc6e0_0bf3 ∷ 0xd5a7_9147 ∷ 0x06ca_6351 ∷ 0x1429_2967 ∷
    0x27b7_0a85 ∷ 0x2e1b_2138 ∷ 0x4d2c_6dfc ∷ 0x5338_0d13 ∷ 0x650a_7354 ∷ 0x766a_0abb ∷ 0x81c2_c92e ∷ 0x9272_2c85 ∷
    0xa2bf_e8a1 ∷ 0xa81a_664b ∷ 0xc24b_8b70 ∷ 0xc76c_51a3 ∷ 0xd192_e819 ∷ 0xd699_0624 ∷ 0xf40e_3585 ∷ 0x106a_a070 ∷
    0x19a4_c116 ∷ 0x1e37_6c08 ∷ 0x2748_774c ∷ 0x34b0_bcb5 ∷ 0x391c_0cb3 ∷ 0x4ed8_aa4a ∷ 0x5b9c_ca4f ∷ 0x682e_6ff3 ∷
    0x748f_82ee ∷ 0x78a5_636f ∷ 0x84c8_7814 ∷ 0x8cc7_0208 ∷ 0x90be_fffa ∷ 0xa450_6ceb ∷ 0xbef9_a3f7 ∷ 0xc671_78f2 ∷ []

-- a hash value, and the working variables of the rounds: eight words
pub record HashValue : Type 0 where
  pub a : ℕ
  pub b : ℕ
  pub c : ℕ
  pub d : ℕ
  pub e : ℕ
  pub f : ℕ
  pub g : ℕ
  pub h : ℕ

-- the initial hash value: the same of the square roots of the first eight primes (5.3.3)
unfoldable pub H0 : HashValue
H0 = record { a = 0x6a09_e667; b = 0xbb67_ae85; c = 0x3c6e_f372; d = 0xa54f_f53a; e = 0x510e_527f; f = 0x9b05_688c; g = 0x1f83_d9ab; h = 0x5be0_cd19 }

-- ---- one block of 64 bytes (5.2.1, 6.2.2)

-- four bytes as a word, the highest first
unfoldable pub from_big : ℕ → ℕ → ℕ → ℕ → ℕ
from_big a b c d = 16777216 * a + 65536 * b + 256 * c + d

unfoldable pub words : List ℕ → List ℕ
unfolding from_big
words [] = []
words (a ∷ []) = []
words (a ∷ b ∷ []) = []
words (a ∷ b ∷ c ∷ []) = []
words (a ∷ b ∷ c ∷ d ∷ s) = from_big a b c d ∷ words s

-- the word `j` places before the end: W of t - j, where W of t comes next
unfoldable pub back : ℕ → List ℕ → ℕ
back j w = get_or w (length w - j) 0

-- W of t, after the words before it
unfoldable pub next : List ℕ → ℕ
unfolding sum32 σ0 σ1 back
next w = sum32 (sum32 (sum32 (σ1 (back 2 w)) (back 7 w)) (σ0 (back 15 w))) (back 16 w)

-- `n` more words
unfoldable pub extend : ℕ → List ℕ → List ℕ
unfolding next
extend zero w = w
extend (suc n) w = let v : List ℕ = extend n w in v ++ next v ∷ []

-- the message schedule: the block's sixteen words, and 48 more
unfoldable pub schedule : List ℕ → List ℕ
unfolding extend words
schedule block = extend 48 (words block)

-- one round, for its constant and its word of the schedule
unfoldable pub round : HashValue → ℕ → ℕ → HashValue
unfolding sum32 Ch Maj Σ0 Σ1
round s k w =
    let t1 : ℕ = sum32 (sum32 (sum32 (sum32 s.h (Σ1 s.e)) (Ch s.e s.f s.g)) k) w in
    let t2 : ℕ = sum32 (Σ0 s.a) (Maj s.a s.b s.c) in
    record { a = sum32 t1 t2; b = s.a; c = s.b; d = s.c; e = sum32 s.d t1; f = s.e; g = s.f; h = s.g }

unfoldable pub rounds : List ℕ → List ℕ → HashValue → HashValue
unfolding round
rounds [] ws s = s
rounds (k ∷ ks) [] s = s
rounds (k ∷ ks) (w ∷ ws) s = rounds ks ws (round s k w)

-- the sum of two hash values, word by word
unfoldable pub sum : HashValue → HashValue → HashValue
unfolding sum32
sum s t =
    record {
      a = sum32 s.a t.a;
      b = sum32 s.b t.b;
      c = sum32 s.c t.c;
      d = sum32 s.d t.d;
      e = sum32 s.e t.e;
      f = sum32 s.f t.f;
      g = sum32 s.g t.g;
      h = sum32 s.h t.h;
    }

-- the hash value after one more block
unfoldable pub compress : HashValue → List ℕ → HashValue
unfolding sum rounds K schedule
compress s block = sum (rounds K (schedule block) s) s

-- ---- a message (5.1.1, 5.2.1, 6.2)

-- the lowest `n` bytes of a number, the highest of them first
unfoldable pub big : ℕ → ℕ → List ℕ
big zero v = []
big (suc n) v = v / 256 ^ n % 256 ∷ big n v

-- how many zero bytes follow the byte 0x80: the fewest with which eight more bytes end a block
unfoldable pub zeros : ℕ → ℕ
zeros n = (119 - n % 64) % 64

-- what follows a message of `n` bytes: a bit 1, bits 0, and the number of its bits in 64 bits
unfoldable pub padding : ℕ → List ℕ
unfolding zeros big
padding n = 0x80 ∷ (replicate (zeros n) 0 ++ big 8 (8 * n))

unfoldable pub pad : List ℕ → List ℕ
unfolding padding
pad s = s ++ padding (length s)

-- `n` blocks of 64 bytes
unfoldable pub parse : ℕ → List ℕ → List (List ℕ)
parse zero s = []
parse (suc n) s = take 64 s ∷ parse n (drop 64 s)

-- the hash value after all of them
unfoldable pub hashed : HashValue → List (List ℕ) → HashValue
unfolding compress
hashed s [] = s
hashed s (block ∷ blocks) = hashed (compress s block) blocks

-- the eight words of a hash value as bytes
unfoldable pub digest : HashValue → List ℕ
unfolding big
digest s = big 4 s.a ++ big 4 s.b ++ big 4 s.c ++ big 4 s.d ++ big 4 s.e ++ big 4 s.f ++ big 4 s.g ++ big 4 s.h

unfoldable pub sha256 : List ℕ → List ℕ
unfolding pad parse hashed digest H0
sha256 s = let p : List ℕ = pad s in digest (hashed H0 (parse (length p / 64) p))
