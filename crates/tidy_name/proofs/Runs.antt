-- The name at the front of some bytes.
use Prim.Native.Nat.{ℕ, suc, ◌≤◌, ◌<◌}
use mathlib.Core.Path.{◌≡◌, refl, ◌∙◌}
use mathlib.Core.Bool.{Bool, true, false, ◌&&◌, cond}
use mathlib.Core.List.{List, [], ◌∷◌}
use native.Mathlib.Omega.{arith}
use lib.ListN.{length, take}
use lib.Dec.{eqb, eqb-zero-suc, eqb-suc-suc}
use Rattle.format.specs.Bytes.{all}
use Rattle.format.specs.Tidy.{name_first, name_later, is_name}
use Rattle.tidy_name.specs.Runs.{later_run, name_run}

-- ---- later bytes

later-within : (s : List ℕ) → later_run s ≤ length s
unfolding later_run
later-within [] = omega arith
later-within (b ∷ s) = go (name_later b) (later-within s)
  where
    go : (t : Bool) → later_run s ≤ length s → cond t (suc (later_run s)) 0 ≤ suc (length s)
    go true ih = omega arith
    go false ih = omega arith

later-taken : (s : List ℕ) → all name_later (take (later_run s) s) ≡ true
unfolding all later_run
later-taken [] = refl
later-taken (b ∷ s) = go (name_later b) refl (later-taken s)
  where
    go : (t : Bool) → name_later b ≡ t → all name_later (take (later_run s) s) ≡ true → all name_later (take (cond t (suc (later_run s)) 0) (b ∷ s)) ≡ true
    go true e ih = rw (e, ih) refl
    go false e ih = refl

later-whole : (s : List ℕ) → eqb (later_run s) (length s) ≡ all name_later s
unfolding all later_run
later-whole [] = refl
later-whole (b ∷ s) = go (name_later b) (later-whole s)
  where
    go : (t : Bool) → eqb (later_run s) (length s) ≡ all name_later s → eqb (cond t (suc (later_run s)) 0) (suc (length s)) ≡ (t && all name_later s)
    go true ih = eqb-suc-suc (later_run s) (length s) ∙ ih
    go false ih = eqb-zero-suc (length s)

-- ---- a name

pub name-within : (s : List ℕ) → name_run s ≤ length s
unfolding name_run
name-within [] = omega arith
name-within (b ∷ s) = go (name_first b)
  where
    go : (t : Bool) → cond t (suc (later_run s)) 0 ≤ suc (length s)
    go true = omega (arith, later-within s)
    go false = omega arith

-- it can be written
pub name-taken : (s : List ℕ) → 0 < name_run s → is_name (take (name_run s) s) ≡ true
unfolding is_name name_run
name-taken [] h = absurd (omega arith)
name-taken (b ∷ s) h = go (name_first b) refl h
  where
    go : (t : Bool) → name_first b ≡ t → 0 < cond t (suc (later_run s)) 0 → is_name (take (cond t (suc (later_run s)) 0) (b ∷ s)) ≡ true
    go true e h = rw (e, later-taken s) refl
    go false e h = absurd (omega arith)

-- and where it is all of the bytes, these can
pub name-whole : (s : List ℕ) → 0 < length s → eqb (name_run s) (length s) ≡ is_name s
unfolding is_name name_run
name-whole [] h = absurd (omega arith)
name-whole (b ∷ s) h = go (name_first b)
  where
    go : (t : Bool) → eqb (cond t (suc (later_run s)) 0) (suc (length s)) ≡ (t && all name_later s)
    go true = eqb-suc-suc (later_run s) (length s) ∙ later-whole s
    go false = eqb-zero-suc (length s)
