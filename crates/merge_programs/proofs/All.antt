-- Programs and their images, one after another.
use Prim.Native.Nat.{ℕ, ◌+◌, ◌≤◌, ◌<◌}
use mathlib.Core.Path.{◌≡◌, refl}
use mathlib.Core.Bool.{Bool, true, ◌&&◌}
use mathlib.Core.List.{List, map}
use native.Mathlib.Omega.{arith}
use native.Mathlib.Numerals.{add-one}
use lib.ListN.{length, drop, get_or, drop_of_length-le}
use lib.Seq.{drop-cons}
use Rattle.format.specs.Merge.{ProgramShape, alike, is_image, no_shape, images}

-- what is left from the ordinal `i` on
abbrev pub images_from : List ℕ → List ProgramShape → List ProgramShape → ℕ → Bool
images_from list ns ms i = alike (is_image list) (drop i ns) (map (λ k. get_or ms k no_shape) (drop i list))

pub images-start : (list : List ℕ) (ns ms : List ProgramShape) → images list ns ms ≡ images_from list ns ms 0
unfolding images
images-start list ns ms = refl

module _ (list : List ℕ) (ns ms : List ProgramShape) (i : ℕ) (m : length list ≡ length ns) where
  pub images-turn : i < length list → images_from list ns ms i ≡ is_image list (get_or ns i no_shape) (get_or ms (get_or list i 0) no_shape) && images_from list ns ms (i + 1)
  unfolding alike
  images-turn h = rw (drop-cons ns i no_shape (omega arith), drop-cons list i 0 h, add-one i) refl

  pub images-end : length list ≤ i → images_from list ns ms i ≡ true
  unfolding alike
  images-end h = rw (drop_of_length-le ns {i = i} (omega arith), drop_of_length-le list {i = i} h) refl
