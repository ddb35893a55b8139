-- The two sides of the first byte `d`: what comes before it, and what follows it.
use Prim.Native.Nat.{ℕ, suc, ◌+◌, ◌<◌, ◌^◌}
use mathlib.Core.Path.{◌≡◌, refl, ap}
use mathlib.Core.Bool.{Bool, true, false, cond}
use mathlib.Core.List.{List, [], ◌∷◌}
use mathlib.Core.Option.{Option, none, some}
use native.Mathlib.Omega.{arith}
use native.Mathlib.Numerals.{add-one}
use lib.ListN.{length, take, drop}
use lib.Dec.{eqb}
use Rattle.std.specs.Prelude.{Some, None}
use Rattle.format.specs.Decimal.{number}
use Rattle.format.specs.Version.{sides, grow, both, numbered, version}
use Rattle.byte_slices.specs.Upto.{upto, before}
use Rattle.field.specs.Spelled.{version_side_of, parsed_version_of}

pub sides-none : (d : ℕ) (s : List ℕ) → upto d s ≡ length s → sides d s ≡ none
unfolding sides upto
sides-none d [] h = refl
sides-none d (b ∷ s) h = go (eqb b d) (sides-none d s) h
  where
    go : (t : Bool) → (upto d s ≡ length s → sides d s ≡ none) → cond t 0 (suc (upto d s)) ≡ suc (length s)
        → cond t (some ([], s)) (grow b (sides d s)) ≡ none
    go true ih k = absurd (omega arith)
    go false ih k = ap (grow b) (ih (omega arith))

pub sides-some : (d : ℕ) (s : List ℕ) → upto d s < length s → sides d s ≡ some (before d s, drop (suc (upto d s)) s)
unfolding sides before
sides-some d [] h = absurd (omega arith)
sides-some d (b ∷ s) h = go (eqb b d) (sides-some d s) h
  where
    go : (t : Bool) → (upto d s < length s → sides d s ≡ some (take (upto d s) s, drop (suc (upto d s)) s))
        → cond t 0 (suc (upto d s)) < suc (length s)
        → cond t (some ([], s)) (grow b (sides d s))
        ≡ some (take (cond t 0 (suc (upto d s))) (b ∷ s), drop (suc (cond t 0 (suc (upto d s)))) (b ∷ s))
    go true ih k = refl
    go false ih k = ap (grow b) (ih (omega arith))

-- ---- a version is split at its first dot

pub version-none : (s : List ℕ) → upto 46 s ≡ length s → version s ≡ none
unfolding version
version-none s h = ap numbered (sides-none 46 s h)

pub version-sides : (s : List ℕ) (i : ℕ) → i ≡ upto 46 s → i < length s
    → version s ≡ both (number (2 ^ 32) (take i s)) (number (2 ^ 32) (drop (i + 1) s))
unfolding version before
version-sides s i e h = rw (e, add-one (upto 46 s)) (ap numbered (sides-some 46 s (omega arith)))

-- ---- what the sides answer

pub no-major : (m n : Option ℕ) → None ≡ version_side_of m → parsed_version_of (both m n) ≡ None
unfolding version_side_of parsed_version_of both
no-major none n e = refl
no-major (some a) n e = cc

pub no-minor : (m n : Option ℕ) → None ≡ version_side_of n → parsed_version_of (both m n) ≡ None
unfolding version_side_of parsed_version_of both
no-minor none n e = refl
no-minor (some a) none e = refl
no-minor (some a) (some b) e = cc

pub major-minor : (m n : Option ℕ) (a b : ℕ) → Some a ≡ version_side_of m → Some b ≡ version_side_of n
    → parsed_version_of (both m n) ≡ Some (record { major = a; minor = b })
unfolding version_side_of parsed_version_of both
major-minor none n a b e f = cc
major-minor (some c) none a b e f = cc
major-minor (some c) (some d) a b e f =
    let p : c ≡ a = cc in
    let q : d ≡ b = cc in
    rw (p, q) refl
