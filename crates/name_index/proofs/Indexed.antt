-- A search in the index finds what the plain search finds, in few steps, by the law of slots. Assumes nothing.
use Rattle.std.proofs.Common.{◌≡◌, ℕ, zero, suc, ◌+◌, ◌<◌, ◌≤◌, Bool, true, false, cond, List, [], ◌∷◌, ◌++◌, length, get_or, set, replicate, sym, refl, ap, ◌∙◌, subst, ap₂, append_assoc, append-nil, mod-lt, arith, length-append, length-set}
use lib.ListN.{length-replicate}
use Rattle.format.specs.Bytes.{same}
use Rattle.format.specs.Slots.{seat, filled, pick, Held}
use Rattle.format.proofs.Slots.{filled_around, held_none, held-enter}
use Rattle.byte_slices.proofs.Equal.{same-equal}
use Rattle.format.specs.NameIndex.{name_ordinal_from, name_ordinal, slot_count, hash_from, first, path, enter, enter_from, index, ordinal_of, name_of, tells_name, looked, looks}
use Rattle.name_index.specs.Indexed.{Indexed}
use Rattle.name_index.proofs.SlotCount.{slots-power, slots-enough, slots-smallest, slots-some}

-- ---- the index is as long as it is to be

pub enter-length : (v : ℕ) (x slots : List ℕ) → length (enter v x slots) ≡ length slots
unfolding enter
enter-length v x slots = length-set slots (seat (first (length slots) x) slots) v

all-length : (k : ℕ) (xs : List (List ℕ)) (slots : List ℕ) → length (enter_from k xs slots) ≡ length slots
unfolding enter_from
all-length k [] slots = refl
all-length k (x ∷ xs) slots = all-length (k + 1) xs (enter (suc k) x slots) ∙ enter-length (suc k) x slots

pub index-length : (xs : List (List ℕ)) → length (index xs) ≡ slot_count (length xs)
unfolding index
index-length xs = all-length 0 xs (replicate (slot_count (length xs)) 0) ∙ length-replicate (slot_count (length xs)) 0

-- ---- names enter

-- the values of the names from the ordinal `k` on
unfoldable values : ℕ → List (List ℕ) → List ℕ
values k [] = []
values k (x ∷ xs) = suc k ∷ values (k + 1) xs

-- where the search for the name of a value starts
unfoldable begins : List (List ℕ) → ℕ → ℕ → ℕ
begins xs n v = first n (name_of xs v)

-- `ys` are the names of `xs` from the ordinal `k` on
abbrev From : List (List ℕ) → ℕ → List (List ℕ) → Type 0
From xs k ys = (r : ℕ) → get_or ys r [] ≡ get_or xs (k + r) []

from_start : (xs : List (List ℕ)) → From xs 0 xs
from_start xs r = let z : r ≡ 0 + r = omega arith in ap (λ m. get_or xs m []) z

from_first : (xs : List (List ℕ)) (k : ℕ) (y : List ℕ) (ys : List (List ℕ)) → From xs k (y ∷ ys) → y ≡ get_or xs k []
from_first xs k y ys a = let z : k + 0 ≡ k = omega arith in a 0 ∙ ap (λ j. get_or xs j []) z

from_next : (xs : List (List ℕ)) (k : ℕ) (y : List ℕ) (ys : List (List ℕ)) → From xs k (y ∷ ys) → From xs (k + 1) ys
from_next xs k y ys a r = let z : k + suc r ≡ k + 1 + r = omega arith in a (suc r) ∙ ap (λ m. get_or xs m []) z

all-entered : (xs : List (List ℕ)) (n k : ℕ) (ys : List (List ℕ)) (slots vs : List ℕ) → 0 < n → From xs k ys → length slots ≡ n → length vs + length ys ≤ n
    → Held (begins xs n) slots vs → Held (begins xs n) (enter_from k ys slots) (vs ++ values k ys)
unfolding enter_from enter values begins first name_of
all-entered xs n k [] slots vs p a e b g = subst (Held (begins xs n) slots) (sym (append-nil vs)) g
all-entered xs n k (y ∷ ys) slots vs p a e b g =
    subst (Held (begins xs n) (enter_from (k + 1) ys (enter (suc k) y slots))) (append_assoc vs (suc k ∷ []) (values (k + 1) ys))
    (all-entered xs n (k + 1) ys (enter (suc k) y slots) (vs ++ (suc k ∷ [])) p (from_next xs k y ys a) (enter-length (suc k) y slots ∙ e)
    (omega (arith, b, length-append vs (suc k ∷ []))) one)
  where
    at : begins xs n (suc k) ≡ first (length slots) y
    at = ap₂ (λ m w. first m w) (sym e) (sym (from_first xs k y ys a))

    below : begins xs n (suc k) < length slots
    below = omega (arith, e, p, mod-lt (hash_from 0 (get_or xs k [])) p)

    one : Held (begins xs n) (enter (suc k) y slots) (vs ++ (suc k ∷ []))
    one = subst (λ w. Held (begins xs n) (set slots (seat w slots) (suc k)) (vs ++ (suc k ∷ []))) at (held-enter (begins xs n) slots vs g k (omega (arith, b, e)) below)

index-held : (xs : List (List ℕ)) → Held (begins xs (slot_count (length xs))) (index xs) (values 0 xs)
unfolding index
index-held xs =
    let n : ℕ = slot_count (length xs) in
    all-entered xs n 0 xs (replicate n 0) [] (slots-some (length xs)) (from_start xs) (length-replicate {A = ℕ} n 0) (omega (arith, slots-enough (length xs))) (held_none (begins xs n) n)

-- ---- the plain search

pick-ordinal : (xs : List (List ℕ)) (x : List ℕ) (k : ℕ) (ys : List (List ℕ)) → From xs k ys → ordinal_of (pick (tells_name xs x) (values k ys)) ≡ name_ordinal_from k ys x
unfolding name_ordinal_from ordinal_of pick values tells_name name_of
pick-ordinal xs x k [] a = refl
pick-ordinal xs x k (y ∷ ys) a = rw (from_first xs k y ys a) (go (same x (get_or xs k [])) (pick-ordinal xs x (k + 1) ys (from_next xs k y ys a)))
  where
    go : (t : Bool) → ordinal_of (pick (tells_name xs x) (values (k + 1) ys)) ≡ name_ordinal_from (k + 1) ys x
        → ordinal_of (cond t (suc k) (pick (tells_name xs x) (values (k + 1) ys))) ≡ cond t k (name_ordinal_from (k + 1) ys x)
    go true ih = refl
    go false ih = ih

-- ---- how much is looked at

looked-filled : (hit : ℕ → Bool) (ss : List ℕ) → looked hit ss ≤ suc (filled ss)
unfolding looked filled
looked-filled hit [] = omega arith
looked-filled hit (zero ∷ ss) = omega arith
looked-filled hit (suc k ∷ ss) = go (hit (suc k)) (looked-filled hit ss)
  where
    go : (t : Bool) → looked hit ss ≤ suc (filled ss) → cond t 1 (suc (looked hit ss)) ≤ suc (suc (filled ss))
    go true ih = omega arith
    go false ih = omega (arith, ih)

values_length : (k : ℕ) (xs : List (List ℕ)) → length (values k xs) ≡ length xs
unfolding values
values_length k [] = refl
values_length k (x ∷ xs) = ap suc (values_length (k + 1) xs)

pub looks-few : (xs : List (List ℕ)) (x : List ℕ) → looks xs x ≤ length xs + 1
unfolding looks path
looks-few xs x =
    let slots : List ℕ = index xs in
    omega (arith, looked-filled (tells_name xs x) (path x slots), filled_around (first (length slots) x) slots, (index-held xs).few, values_length 0 xs)

pub indexed : (xs : List (List ℕ)) → Indexed xs
unfolding name_ordinal path first tells_name begins
indexed xs =
    let m : ℕ = length xs in
    record {
      power = ((slots-power m).0, index-length xs ∙ (slots-power m).1);
      enough = omega (arith, slots-enough m, index-length xs);
      smallest = λ e h. omega (arith, index-length xs, slots-smallest m e h);
      finds = λ x. ap ordinal_of ((index-held xs).finds (tells_name xs x) (first (length (index xs)) x) (below x) (starts x)) ∙ pick-ordinal xs x 0 xs (from_start xs);
      soon = looks-few xs;
    }
  where
    below : (x : List ℕ) → first (length (index xs)) x < length (index xs)
    below x = mod-lt _ (omega (arith, index-length xs, slots-some (length xs)))

    starts : (x : List ℕ) (v : ℕ) → tells_name xs x v ≡ true → begins xs (slot_count (length xs)) v ≡ first (length (index xs)) x
    starts x v e = ap₂ (λ m w. first m w) (sym (index-length xs)) (sym (same-equal x (name_of xs v) e))
