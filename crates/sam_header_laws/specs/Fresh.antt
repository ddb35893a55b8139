-- For a text that reading accepts, a catalogue is refused as stale exactly if it is not the one that reading gives.
use Rattle.std.specs.Prelude.{ℕ, ◌≡◌, ◌↔◌, List, length}
use Rattle.format.specs.Records.{Record}
use Rattle.format.specs.Calls.{refused, yes, records, reading, fresh}

-- the laws of a text, the catalogue `given` that reading it gives, and any catalogue
pub record FreshExactly (text given c : List ℕ) : Type 0 where
  -- a catalogue is taken exactly if it is the given one
  pub taken : ((rs : List Record) × (fresh text c ≡ yes rs)) ↔ (c ≡ given)
  -- it is refused with 21 exactly if it is another one
  pub stale : (fresh text c ≡ refused 21 0) ↔ (c ≡ given → ⊥)

-- the law, for every text, every room with which reading gives a catalogue, and every catalogue
unfoldable pub AllFreshExactly : Type 0
unfolding reading
AllFreshExactly = (text given c : List ℕ) (room : ℕ) → reading text room ≡ yes given → FreshExactly text given c
