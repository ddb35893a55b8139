-- A list of ordinals in an array of 1,024: one more at its end, and one less. Assumes nothing.
use Prim.Native.Nat.{ℕ, suc, ◌-◌, ◌≤◌, ◌<◌}
use mathlib.Core.Path.{◌≡◌, refl, sym, ap, ap₂, ◌∙◌}
use mathlib.Core.List.{List, [], ◌∷◌, ◌++◌}
use native.Mathlib.Omega.{arith}
use lib.ListN.{length, take, get_or, set, replicate, length-append, length-take, length-replicate, length-set, get_or-append}
use lib.Seq.{take_at, set-append_seam, set-append_left, append_snoc}
use Rattle.program_chains.specs.Parents.{in_array}

pub array-length : (xs : List ℕ) → length xs ≤ 1024 → length (in_array xs) ≡ 1024
unfolding in_array
array-length xs h = simp (length-append, length-replicate) (omega arith)

-- the place after the list takes one more
pub array-push : (xs : List ℕ) (v : ℕ) → length xs < 1024 → set (in_array xs) (length xs) v ≡ in_array (xs ++ v ∷ [])
unfolding in_array
array-push xs v h = go (1024 - length (xs ++ v ∷ [])) (omega (arith, length-append xs (v ∷ [])))
  where
    go : (n : ℕ) → 1024 - length xs ≡ suc n → set (xs ++ replicate (1024 - length xs) 0) (length xs) v ≡ (xs ++ v ∷ []) ++ replicate n 0
    go n e = rw e (set-append_seam xs 0 (replicate n 0) v ∙ sym (append_snoc xs v (replicate n 0)))

pub array_at : (xs : List ℕ) (i : ℕ) → i < length xs → get_or (in_array xs) i 0 ≡ get_or xs i 0
unfolding in_array
array_at xs i h = get_or-append xs (replicate (1024 - length xs) 0) 0 i h

pub array-set : (xs : List ℕ) (i v : ℕ) → i < length xs → set (in_array xs) i v ≡ in_array (set xs i v)
unfolding in_array
array-set xs i v h =
    set-append_left xs (replicate (1024 - length xs) 0) i v h
    ∙ ap (λ n. set xs i v ++ replicate (1024 - n) 0) (sym (length-set xs i v))

-- the last place of the list takes a zero, and the list is shorter
pub array-pop : (xs : List ℕ) (v : ℕ) → length xs < 1024 → set (in_array (xs ++ v ∷ [])) (length xs) 0 ≡ in_array xs
unfolding in_array
array-pop xs v h = go (1024 - length (xs ++ v ∷ [])) (omega (arith, length-append xs (v ∷ [])))
  where
    go : (n : ℕ) → 1024 - length xs ≡ suc n → set ((xs ++ v ∷ []) ++ replicate n 0) (length xs) 0 ≡ xs ++ replicate (1024 - length xs) 0
    go n e = rw (e, append_snoc xs v (replicate n 0)) (set-append_seam xs v (replicate n 0) 0)

-- ---- a list in an array, and how long it is

module _ (xs list : List ℕ) (n : ℕ) (e : list ≡ in_array xs) (m : n ≡ length xs) where
  -- the front of the array, as it is lent
  pub front : take n list ≡ xs
  unfolding in_array
  front = ap₂ take m e ∙ take_at xs (replicate (1024 - length xs) 0) (length xs) refl

  pub front-count : n ≡ length (take n list)
  front-count = m ∙ sym (ap length front)

  pub front-inside : n ≤ length list
  front-inside = omega (arith, front-count, length-take n list)

  pub front_at : (i : ℕ) → i < n → get_or list i 0 ≡ get_or xs i 0
  front_at i h = ap (λ l. get_or l i 0) e ∙ array_at xs i (omega arith)
