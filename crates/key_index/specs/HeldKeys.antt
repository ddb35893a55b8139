-- The values of the slots that hold the keys of records.
use Rattle.std.specs.Prelude.{ℕ}
use mathlib.Core.List.{List, [], ◌∷◌, ◌++◌}
use Rattle.format.specs.Records.{Record, header, reference, group, program, comment}
use Rattle.key_look.specs.Sought.{fingerprint}
use Rattle.key_index.specs.KeySlots.{value}
use Rattle.key_look.specs.declared.Seed.{Seed}

module _ (seed : Seed) where
  -- the value of a record's key, if it has one
  unfoldable pub values_of : Record → List ℕ
  unfolding value fingerprint
  values_of (header v fs) = []
  values_of (reference p n fs) = value (fingerprint seed 2 p.bytes) p.at ∷ []
  values_of (group p fs) = value (fingerprint seed 3 p.bytes) p.at ∷ []
  values_of (program p fs) = value (fingerprint seed 4 p.bytes) p.at ∷ []
  values_of (comment p) = []

  -- the values of the keys of some records, in order
  unfoldable pub key_values_of : List Record → List ℕ
  unfolding values_of
  key_values_of [] = []
  key_values_of (r ∷ rs) = values_of r ++ key_values_of rs
