-- The ordinals of a list, marked one after another.
use Rattle.std.specs.Prelude.{ℕ, zero, suc, ◌+◌, Bool, true, false, ◌&&◌, ◌||◌, cond, List, [], ◌∷◌, get_or, set, ltb}

-- are the ordinals below `m`, and is none of them marked before?
unfoldable pub fresh_by : ℕ → List Bool → List ℕ → Bool
fresh_by m hits [] = true
fresh_by m hits (k ∷ ks) = cond (ltb k m) (cond (get_or hits k false) false (fresh_by m (set hits k true) ks)) false

-- the marks after them
unfoldable pub marked_by : List Bool → List ℕ → List Bool
marked_by hits [] = hits
marked_by hits (k ∷ ks) = marked_by (set hits k true) ks

-- is each of `n` ordinals from `i` on marked in one list or the other?
unfoldable pub hit_from : List Bool → List Bool → ℕ → ℕ → Bool
hit_from a b i zero = true
hit_from a b i (suc n) = (get_or a i false || get_or b i false) && hit_from a b (i + 1) n
