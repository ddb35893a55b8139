-- The key of a head says all that looking needs of the head.
use Prim.Native.Nat.{ℕ, ◌+◌, ◌/◌, ◌%◌, ◌≤◌, ◌<◌}
use mathlib.Core.Path.{◌≡◌, refl}
use mathlib.Core.Bool.{Bool}
use mathlib.Core.List.{List}
use native.Mathlib.Omega.{arith}
use native.Mathlib.Nat.{mod-lt}
use Rattle.std.specs.Prelude.{IfSome, MatchOption, Some}
use Rattle.record.specs.declared.Stretch.{Stretch}
use Rattle.record.specs.declared.Head.{Head}
use Rattle.record.specs.declared.Head.TheVariants as head
use Rattle.key_look.specs.declared.Seed.{Seed}
use Rattle.key_look.specs.Seed.{key_number}
use Rattle.key_look.specs.Sought.{fingerprint, key_at}
use Rattle.key_index.specs.KeySlots.{value, says_known, after_looking, is_found, looks_of, after_entering, sought_of, offset_of}
use Rattle.key_index.specs.Keyed.{KeyInText, key_of, sought_by, looks_by, print_by}

-- it lies within the text, below the offset 2 ^ 24
pub key-inside : (size : ℕ) (x : Head) → KeyInText size x → IfSome (key_of x) (λ k. k.place.at + k.place.len ≤ size)
unfolding KeyInText key_of
key-inside size (head.Refused n) h = tt
key-inside size (head.Header v n) h = tt
key-inside size (head.ReferenceSequence p l n) h = h.0
key-inside size (head.ReadGroup p n) h = h.0
key-inside size (head.Program p n) h = h.0
key-inside size (head.Comment p) h = tt

pub key-offset : (x : Head) → IfSome (key_of x) (λ k. k.place.at ≡ offset_of x)
unfolding key_of offset_of
key-offset (head.Refused n) = tt
key-offset (head.Header v n) = tt
key-offset (head.ReferenceSequence p l n) = refl
key-offset (head.ReadGroup p n) = refl
key-offset (head.Program p n) = refl
key-offset (head.Comment p) = tt

module _ (seed : Seed) (t slots : List ℕ) where
  small : (k : ℕ) (p : Stretch) → key_number seed k (key_at t p) / 134217728 % 32 < 32
  small k p = mod-lt (key_number seed k (key_at t p) / 134217728) {m = 32} (omega arith)

  pub sought-by-key : (x : Head) → sought_by seed t slots (key_of x) ≡ sought_of seed t slots x
  unfolding key_of sought_by sought_of
  sought-by-key (head.Refused n) = refl
  sought-by-key (head.Header v n) = refl
  sought-by-key (head.ReferenceSequence p l n) = refl
  sought-by-key (head.ReadGroup p n) = refl
  sought-by-key (head.Program p n) = refl
  sought-by-key (head.Comment p) = refl

  -- a fingerprint has eight bits
  pub print-small : (x : Head) → print_by seed t (key_of x) ≤ 255
  unfolding key_of print_by fingerprint
  print-small (head.Refused n) = omega arith
  print-small (head.Header v n) = omega arith
  print-small (head.ReferenceSequence p l n) = omega (arith, small 2 p)
  print-small (head.ReadGroup p n) = omega (arith, small 3 p)
  print-small (head.Program p n) = omega (arith, small 4 p)
  print-small (head.Comment p) = omega arith

  pub looks-by-key : (x : Head) → looks_by seed t slots (key_of x) ≡ looks_of seed t slots x
  unfolding key_of looks_by looks_of
  looks-by-key (head.Refused n) = refl
  looks-by-key (head.Header v n) = refl
  looks-by-key (head.ReferenceSequence p l n) = refl
  looks-by-key (head.ReadGroup p n) = refl
  looks-by-key (head.Program p n) = refl
  looks-by-key (head.Comment p) = refl

  pub found-by-key : (x : Head) → says_known (sought_by seed t slots (key_of x)) ≡ is_found seed t slots x
  unfolding key_of sought_by is_found says_known
  found-by-key (head.Refused n) = refl
  found-by-key (head.Header v n) = refl
  found-by-key (head.ReferenceSequence p l n) = refl
  found-by-key (head.ReadGroup p n) = refl
  found-by-key (head.Program p n) = refl
  found-by-key (head.Comment p) = refl

  pub entered-by-key : (room : Bool) (x : Head)
      → MatchOption (key_of x) (slots ≡ after_entering seed room t slots x) (λ k. after_looking room (value (print_by seed t (Some k)) k.place.at) slots (sought_by seed t slots (Some k)) ≡ after_entering seed room t slots x)
  unfolding key_of sought_by print_by after_entering after_looking value
  entered-by-key room (head.Refused n) = refl
  entered-by-key room (head.Header v n) = refl
  entered-by-key room (head.ReferenceSequence p l n) = refl
  entered-by-key room (head.ReadGroup p n) = refl
  entered-by-key room (head.Program p n) = refl
  entered-by-key room (head.Comment p) = refl
