-- What a seal is good for. No law assumes anything of SHA-256: where a law would need that two messages never have the same digest, it gives the two
-- messages.
use Rattle.std.specs.Prelude.{ℕ, ◌≡◌, ◌⊎◌, List, length}
use Rattle.format.specs.Records.{Record}
use Rattle.format.specs.Tidy.{tidy}
use Rattle.format.specs.Calls.{Answer, yes, records}
use Rattle.tidy_laws.specs.Bare.{Equal}
use Rattle.tidy_laws.specs.Faithful.{Allowed}
use Rattle.format.specs.Sha256.{sha256}
use Rattle.format.specs.Seal.{sealing, checking_sealed}

-- two different messages with the same digest
pub record Collision (x y : List ℕ) : Type 0 where
  pub differ : x ≡ y → ⊥
  pub collide : sha256 x ≡ sha256 y

-- the seal of `t` as the call gives it, with room for every tidy text
unfoldable pub sealed : List ℕ → Answer (List ℕ)
unfolding sealing
sealed t = sealing t 16777216

-- what an equal seal says of two headers: they are equal, or their tidy texts are a collision
abbrev pub EqualOrCollision : List Record → List Record → Type 0
EqualOrCollision rs qs = Equal rs qs ⊎ Collision (tidy rs) (tidy qs)

pub record Sealed : Type 0 where
  -- an accepted text of at most 16,777,215 bytes with allowed names has a seal: the digest of its tidy text
  pub has : (t : List ℕ) (rs : List Record) → Allowed t rs → sealed t ≡ yes (sha256 (tidy rs))
  -- texts with equal records have the same seal
  pub one : (t u : List ℕ) (rs qs : List Record) → Allowed t rs → Allowed u qs → Equal rs qs → sealed t ≡ sealed u
  -- so do a text and its tidy text
  pub again : (t : List ℕ) (rs : List Record) → Allowed t rs → sealed (tidy rs) ≡ sealed t
  -- a seal has 32 bytes, whatever was sealed
  pub long : (t : List ℕ) (room : ℕ) (s : List ℕ) → sealing t room ≡ yes s → length s ≡ 32
  -- two texts with the same seal
  pub told : (t u s : List ℕ) (rs qs : List Record) (room more : ℕ)
      → records t ≡ yes rs → records u ≡ yes qs
      → sealing t room ≡ yes s → sealing u more ≡ yes s
      → EqualOrCollision rs qs
  -- a text that passes with the seal of another
  pub passed : (t u c s : List ℕ) (rs qs : List Record) (room more : ℕ)
      → records t ≡ yes rs
      → sealing t room ≡ yes s
      → checking_sealed u c s more ≡ yes qs
      → EqualOrCollision rs qs
