-- The slot that holds the key of a head, and the offset of that key.
use Prim.Native.Nat.{ℕ, ◌≤◌, ◌<◌}
use mathlib.Core.Path.{◌≡◌, subst}
use mathlib.Core.List.{List}
use native.Mathlib.Omega.{arith}
use lib.ListN.{length, take, drop}
use Rattle.record.specs.declared.Head.{Head}
use Rattle.record.specs.declared.Head.TheVariants as head
use Rattle.key_look.specs.declared.Sought.TheVariants.{Known, Free}
use Rattle.key_look.proofs.Looking.{Below, sought-below, looks-few}
use Rattle.key_index.specs.KeySlots.{looks_of, sought_of, offset_of}
use Rattle.key_index.specs.Keyed.{KeyInText}
use Rattle.key_look.specs.declared.Seed.{Seed}

pub offset-small : (size : ℕ) (x : Head) → KeyInText size x → offset_of x < 16777216
unfolding KeyInText offset_of
offset-small size (head.Refused n) h = omega arith
offset-small size (head.Header v n) h = omega arith
offset-small size (head.ReferenceSequence p l n) h = h.1
offset-small size (head.ReadGroup p n) h = h.1
offset-small size (head.Program p n) h = h.1
offset-small size (head.Comment p) h = omega arith

module _ (seed : Seed) where
  head-below : (t slots : List ℕ) (x : Head) → 0 < length slots → Below (length slots) (sought_of seed t slots x)
  unfolding Below sought_of
  head-below t slots (head.Refused n) p = tt
  head-below t slots (head.Header v n) p = tt
  head-below t slots (head.ReferenceSequence q l n) p = sought-below seed t slots 2 (take q.len (drop q.at t)) p
  head-below t slots (head.ReadGroup q n) p = sought-below seed t slots 3 (take q.len (drop q.at t)) p
  head-below t slots (head.Program q n) p = sought-below seed t slots 4 (take q.len (drop q.at t)) p
  head-below t slots (head.Comment q) p = tt

  pub known-below : (t slots : List ℕ) (x : Head) (i : ℕ) → 0 < length slots → sought_of seed t slots x ≡ Known i → i < length slots
  unfolding Below
  known-below t slots x i p e = subst (Below (length slots)) e (head-below t slots x p)

  pub free-below : (t slots : List ℕ) (x : Head) (i : ℕ) → 0 < length slots → sought_of seed t slots x ≡ Free i → i < length slots
  unfolding Below
  free-below t slots x i p e = subst (Below (length slots)) e (head-below t slots x p)

  -- no slot is looked at twice
  pub head-looks-few : (t slots : List ℕ) (x : Head) → 0 < length slots → looks_of seed t slots x ≤ length slots
  unfolding looks_of
  head-looks-few t slots (head.Refused n) p = omega arith
  head-looks-few t slots (head.Header v n) p = omega arith
  head-looks-few t slots (head.ReferenceSequence q l n) p = looks-few seed t slots 2 (take q.len (drop q.at t)) p
  head-looks-few t slots (head.ReadGroup q n) p = looks-few seed t slots 3 (take q.len (drop q.at t)) p
  head-looks-few t slots (head.Program q n) p = looks-few seed t slots 4 (take q.len (drop q.at t)) p
  head-looks-few t slots (head.Comment q) p = omega arith
