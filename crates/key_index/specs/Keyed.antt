-- The key of a head, and looking for it.
use Rattle.std.specs.Prelude.{ℕ, ◌+◌, ◌≤◌, ◌<◌, List, Option, Some, None}
use Rattle.record.specs.declared.Head.{Head}
use Rattle.record.specs.declared.Head.TheVariants as head
use Rattle.key_look.specs.declared.Seed.{Seed}
use Rattle.key_look.specs.declared.Sought.{Sought}
use Rattle.key_look.specs.declared.Sought.TheVariants.{Full}
use Rattle.key_look.specs.Sought.{fingerprint, sought, looks, key_at, sought_at, looks_at}
use Rattle.key_index.specs.declared.Key.{Key}

-- the key of a head lies within a text of this size, below the offset 2 ^ 24
unfoldable pub KeyInText : ℕ → Head → Type 0
KeyInText size (head.Refused n) = Unit
KeyInText size (head.Header v n) = Unit
KeyInText size (head.ReferenceSequence p l n) = (p.at + p.len ≤ size) × (p.at < 16777216)
KeyInText size (head.ReadGroup p n) = (p.at + p.len ≤ size) × (p.at < 16777216)
KeyInText size (head.Program p n) = (p.at + p.len ≤ size) × (p.at < 16777216)
KeyInText size (head.Comment p) = Unit

-- the key of a head
unfoldable pub key_of : Head → Option Key
key_of (head.Refused n) = None
key_of (head.Header v n) = None
key_of (head.ReferenceSequence p l n) = Some (record { kind = 2; place = p })
key_of (head.ReadGroup p n) = Some (record { kind = 3; place = p })
key_of (head.Program p n) = Some (record { kind = 4; place = p })
key_of (head.Comment p) = None

module _ (seed : Seed) where
  -- how looking for a key ends: no slot holds the key of a head without one
  unfoldable pub sought_by : List ℕ → List ℕ → Option Key → Sought
  unfolding sought
  sought_by t slots None = Full
  sought_by t slots (Some k) = sought_at seed t slots k.kind k.place

  -- how many slots are looked at for it
  unfoldable pub looks_by : List ℕ → List ℕ → Option Key → ℕ
  unfolding looks
  looks_by t slots None = 0
  looks_by t slots (Some k) = looks_at seed t slots k.kind k.place

  -- its fingerprint
  unfoldable pub print_by : List ℕ → Option Key → ℕ
  unfolding fingerprint
  print_by t None = 0
  print_by t (Some k) = fingerprint seed k.kind (key_at t k.place)
