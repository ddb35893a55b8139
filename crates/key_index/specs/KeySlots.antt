-- The value of a slot that holds a key, and the slots after a key was looked for.
use Rattle.std.specs.Prelude.{ℕ, ◌+◌, ◌*◌, ◌/◌, ◌%◌, Bool, true, cond, List, set, get_or, eqb}
use Rattle.std.proofs.Math.Bool.{false}
use Rattle.record.specs.declared.Stretch.{Stretch}
use Rattle.record.specs.declared.Head.{Head}
use Rattle.record.specs.declared.Head.TheVariants as head
use Rattle.key_look.specs.declared.Sought.{Sought}
use Rattle.key_look.specs.declared.Sought.TheVariants.{Known, Free, Full}
use Rattle.key_look.specs.Sought.{fingerprint, key_told, first_slot, sought, looks, key_at, sought_at, looks_at}
use Rattle.key_look.specs.declared.Seed.{Seed}

-- ---- a value

-- the value for a key with this fingerprint at the offset `at`: offsets are below 2 ^ 24
unfoldable pub value : ℕ → ℕ → ℕ
value m at = m * 16777216 + at

-- ---- the slots after looking

-- was it found?
unfoldable pub says_known : Sought → Bool
says_known (Known i) = true
says_known (Free i) = false
says_known Full = false

-- a key that is new enters, where there is room
unfoldable pub after_looking : Bool → ℕ → List ℕ → Sought → List ℕ
after_looking room v slots (Known i) = slots
after_looking room v slots (Free i) = cond room (set slots i v) slots
after_looking room v slots Full = slots

-- if a slot holds it, that slot keeps its fingerprint and gets the offset `at`
unfoldable pub pointed : ℕ → List ℕ → Sought → List ℕ
unfolding value
pointed at slots (Known i) = set slots i (value (get_or slots i 0 / 16777216) at)
pointed at slots (Free i) = slots
pointed at slots Full = slots

-- does no slot hold it with another offset than `at`?
unfoldable pub is_own : ℕ → List ℕ → Sought → Bool
is_own at slots (Known i) = eqb (get_or slots i 0 % 16777216) at
is_own at slots (Free i) = true
is_own at slots Full = true

-- where it is; 0 for a head without a key
unfoldable pub offset_of : Head → ℕ
offset_of (head.Refused n) = 0
offset_of (head.Header v n) = 0
offset_of (head.ReferenceSequence p l n) = p.at
offset_of (head.ReadGroup p n) = p.at
offset_of (head.Program p n) = p.at
offset_of (head.Comment p) = 0

module _ (seed : Seed) where
  -- the slot, of `n`, at which looking for the key in it starts
  unfoldable pub start : List ℕ → ℕ → ℕ → ℕ
  unfolding first_slot key_told
  start t n v = first_slot seed n (v / 536870912) (key_told t v)

  -- the slots after the key of kind `k` at a place of the text was looked for: it enters, where it is new and there is room
  abbrev pub after_entering_at : Bool → List ℕ → List ℕ → ℕ → Stretch → List ℕ
  after_entering_at room t slots k p = after_looking room (value (fingerprint seed k (key_at t p)) p.at) slots (sought_at seed t slots k p)

  -- ---- the key of a head

  -- is it in the slots?
  unfoldable pub is_found : List ℕ → List ℕ → Head → Bool
  unfolding says_known sought
  is_found t slots (head.Refused n) = false
  is_found t slots (head.Header v n) = false
  is_found t slots (head.ReferenceSequence p l n) = says_known (sought_at seed t slots 2 p)
  is_found t slots (head.ReadGroup p n) = says_known (sought_at seed t slots 3 p)
  is_found t slots (head.Program p n) = says_known (sought_at seed t slots 4 p)
  is_found t slots (head.Comment p) = false

  -- how many slots are looked at for it
  unfoldable pub looks_of : List ℕ → List ℕ → Head → ℕ
  unfolding looks
  looks_of t slots (head.Refused n) = 0
  looks_of t slots (head.Header v n) = 0
  looks_of t slots (head.ReferenceSequence p l n) = looks_at seed t slots 2 p
  looks_of t slots (head.ReadGroup p n) = looks_at seed t slots 3 p
  looks_of t slots (head.Program p n) = looks_at seed t slots 4 p
  looks_of t slots (head.Comment p) = 0

  -- the slots after that
  unfoldable pub after_entering : Bool → List ℕ → List ℕ → Head → List ℕ
  unfolding after_looking sought value fingerprint
  after_entering room t slots (head.Refused n) = slots
  after_entering room t slots (head.Header v n) = slots
  after_entering room t slots (head.ReferenceSequence p l n) = after_entering_at room t slots 2 p
  after_entering room t slots (head.ReadGroup p n) = after_entering_at room t slots 3 p
  after_entering room t slots (head.Program p n) = after_entering_at room t slots 4 p
  after_entering room t slots (head.Comment p) = slots

  -- looking for it; no slot holds a head without a key
  unfoldable pub sought_of : List ℕ → List ℕ → Head → Sought
  unfolding sought
  sought_of t slots (head.Refused n) = Full
  sought_of t slots (head.Header v n) = Full
  sought_of t slots (head.ReferenceSequence p l n) = sought_at seed t slots 2 p
  sought_of t slots (head.ReadGroup p n) = sought_at seed t slots 3 p
  sought_of t slots (head.Program p n) = sought_at seed t slots 4 p
  sought_of t slots (head.Comment p) = Full

  -- the slots after a slot that holds it was set to the head's own offset
  unfoldable pub after_pointing : List ℕ → List ℕ → Head → List ℕ
  unfolding pointed offset_of sought_of
  after_pointing t slots x = pointed (offset_of x) slots (sought_of t slots x)

  -- does no slot hold it with another offset than the head's own?
  unfoldable pub is_first_key : List ℕ → List ℕ → Head → Bool
  unfolding is_own offset_of sought_of
  is_first_key t slots x = is_own (offset_of x) slots (sought_of t slots x)
