-- Two ways to number a key. The plain one is public, so that a text can be made whose keys all start at one slot; the keyed one has its key
-- from the text itself.
use Rattle.std.specs.Prelude.{ℕ, ◌≡◌, true, false, cond, List}
use Rattle.format.specs.Sha256.{sha256}
use Rattle.format.specs.SipHash.{sip, key_of}
use Rattle.key_look.specs.Hash.{key_hash}
use Rattle.key_look.specs.declared.Seed.{Seed}

-- the number of a key of this kind: the keyed one is SipHash-1-3, and the same for every kind
unfoldable pub key_number : Seed → ℕ → List ℕ → ℕ
unfolding key_hash sip
key_number seed k id = cond seed.keyed (sip 1 3 seed.k0 seed.k1 id) (key_hash k id)

-- the plain way
unfoldable pub plain_seed : Seed
plain_seed = record { keyed = false; k0 = 0; k1 = 0 }

-- the keyed way for a text: the key is the front of the text's SHA-256
unfoldable pub seed_of : List ℕ → Seed
unfolding key_of sha256
seed_of t = record { keyed = true; k0 = (key_of (sha256 t)).0; k1 = (key_of (sha256 t)).1 }

-- a way that a text may go: the plain one, or the keyed one for this very text
unfoldable pub Seeded : List ℕ → Seed → Type 0
unfolding seed_of
Seeded t seed = seed.keyed ≡ true → seed ≡ seed_of t
