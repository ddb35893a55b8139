-- Names and their ordinals (Req 06 and 07): the plain search in a list of names, and the index of such a list. An index is slots, each 0 or the
-- ordinal of a name plus one.
use Rattle.std.specs.Prelude.{ℕ, zero, suc, ◌+◌, ◌*◌, ◌%◌, ◌^◌, Bool, cond, List, [], ◌∷◌, length, get_or, set, replicate, ltb}
use Rattle.format.specs.Bytes.{same}
use Rattle.format.specs.Slots.{around, seat}

-- ---- the plain search

-- the answer for a name that is not in the list
unfoldable pub absent : ℕ
absent = 4294967295

-- the ordinal of the first of the names that is `x`; the first name has the ordinal `k`
unfoldable pub name_ordinal_from : ℕ → List (List ℕ) → List ℕ → ℕ
unfolding absent same
name_ordinal_from k [] x = absent
name_ordinal_from k (y ∷ ys) x = cond (same x y) k (name_ordinal_from (k + 1) ys x)

unfoldable pub name_ordinal : List (List ℕ) → List ℕ → ℕ
unfolding name_ordinal_from
name_ordinal xs x = name_ordinal_from 0 xs x

-- ---- how many slots

-- the first of `s`, twice `s`, .. that is not below `n`, after at most `f` doublings
unfoldable pub doubled : ℕ → ℕ → ℕ → ℕ
doubled zero n s = s
doubled (suc f) n s = let on : ℕ = doubled f n (2 * s) in cond (ltb s n) on s

-- for `m` names: the smallest power of two that is at least twice `m`, and at least 2
unfoldable pub slot_count : ℕ → ℕ
unfolding doubled
slot_count m = doubled m (2 * m) 2

-- ---- where a name goes

-- the hash of a name, after `h`: for each byte 33 times the hash plus the byte, modulo 2 ^ 32
unfoldable pub hash_from : ℕ → List ℕ → ℕ
hash_from h [] = h
hash_from h (b ∷ s) = hash_from ((33 * h + b) % 2 ^ 32) s

-- a name's first slot, of `n`: its hash, which starts at 0, modulo the number of slots
unfoldable pub first : ℕ → List ℕ → ℕ
unfolding hash_from
first n x = hash_from 0 x % n

-- the slots in the order in which a name tries them: its first, then the next ones, round the end
unfoldable pub path : List ℕ → List ℕ → List ℕ
unfolding first around
path x slots = around (first (length slots) x) slots

-- a name enters the first empty slot of its path, which then holds `v`
unfoldable pub enter : ℕ → List ℕ → List ℕ → List ℕ
unfolding first seat
enter v x slots = set slots (seat (first (length slots) x) slots) v

-- names enter in order, each with its ordinal plus one; the first of them has the ordinal `k`
unfoldable pub enter_from : ℕ → List (List ℕ) → List ℕ → List ℕ
unfolding enter
enter_from k [] slots = slots
enter_from k (x ∷ xs) slots = enter_from (k + 1) xs (enter (suc k) x slots)

-- the index: all names, entered into empty slots
unfoldable pub index : List (List ℕ) → List ℕ
unfolding enter_from slot_count
index xs = enter_from 0 xs (replicate (slot_count (length xs)) 0)

-- ---- what a slot holds

-- the ordinal: none for an empty slot
unfoldable pub ordinal_of : ℕ → ℕ
unfolding absent
ordinal_of zero = absent
ordinal_of (suc k) = k

-- the name with that ordinal
unfoldable pub name_of : List (List ℕ) → ℕ → List ℕ
name_of xs zero = []
name_of xs (suc k) = get_or xs k []

-- is it `x`?
unfoldable pub tells_name : List (List ℕ) → List ℕ → ℕ → Bool
unfolding same name_of
tells_name xs x v = same x (name_of xs v)

-- ---- how many slots are looked at

-- the slots up to and including the first with a value that is accepted, or the first empty one
unfoldable pub looked : (ℕ → Bool) → List ℕ → ℕ
looked hit [] = 0
looked hit (zero ∷ ss) = 1
looked hit (suc k ∷ ss) = cond (hit (suc k)) 1 (suc (looked hit ss))

-- the slots that are looked at for a name: from its first slot up to and including the one with the name, or the first empty one
unfoldable pub looks : List (List ℕ) → List ℕ → ℕ
unfolding looked tells_name path index
looks xs x = looked (tells_name xs x) (path x (index xs))
