-- What a reader may ask of the definitions: the padding is the standard's, and a digest has 32 bytes. Assumes nothing.
use Prim.Native.Nat.{ℕ, zero, suc, ◌+◌, ◌/◌, ◌%◌, ◌≤◌, ◌<◌}
use mathlib.Core.Path.{◌≡◌, refl}
use mathlib.Core.List.{List, [], ◌∷◌, ◌++◌}
use native.Mathlib.Omega.{arith}
use lib.ListN.{length, length-append}
use Rattle.byte_slices.specs.Stands.{Each}
use Rattle.format.specs.Sha256.{HashValue, H0, big, zeros, padding, pad, parse, hashed, digest, sha256}
use Rattle.sha256.proofs.Padded.{padding-length}

-- section 5.1.1, in bytes: n + 1 + k ≡ 56 modulo 64, and `zeros n` is the least such k
pub zeros-end : (n : ℕ) → (n + 1 + zeros n) % 64 ≡ 56
unfolding zeros
zeros-end n = omega arith

pub zeros-least : (n k : ℕ) → (n + 1 + k) % 64 ≡ 56 → zeros n ≤ k
unfolding zeros
zeros-least n k h = omega arith

-- a padded message is whole blocks
pub pad-blocks : (s : List ℕ) → length (pad s) % 64 ≡ 0
unfolding pad zeros
pad-blocks s = omega (arith, length-append s (padding (length s)), padding-length (length s))

bytes-length : (s : HashValue) → length (digest s) ≡ 32
unfolding digest big
bytes-length s = refl

pub digest-length : (s : List ℕ) → length (sha256 s) ≡ 32
unfolding sha256
digest-length s = bytes-length (hashed H0 (parse (length (pad s) / 64) (pad s)))

-- and each is a byte
abbrev Bytes : List ℕ → Type 0
Bytes s = Each (λ b. b < 256) s

joined : (s t : List ℕ) → Bytes s → Bytes t → Bytes (s ++ t)
unfolding Each
joined [] t p q = q
joined (x ∷ s) t p q = (p.0, joined s t p.1 q)

big-below : (n v : ℕ) → Bytes (big n v)
unfolding Each big
big-below zero v = tt
big-below (suc n) v = (omega arith, big-below n v)

bytes_below : (s : HashValue) → Bytes (digest s)
unfolding digest
bytes_below s =
    let more : (front : List ℕ) (v : ℕ) → Bytes front → Bytes (front ++ big 4 v) = λ front v p. joined front (big 4 v) p (big-below 4 v) in
    more _ s.h (more _ s.g (more _ s.f (more _ s.e (more _ s.d (more _ s.c (more _ s.b (big-below 4 s.a)))))))

pub digest-below : (s : List ℕ) → Bytes (sha256 s)
unfolding sha256
digest-below s = bytes_below (hashed H0 (parse (length (pad s) / 64) (pad s)))
