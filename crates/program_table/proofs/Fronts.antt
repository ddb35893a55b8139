-- One more record at the front of a table is one store.
use Prim.Native.Nat.{ℕ, zero, suc, ◌<◌, ◌≤◌}
use mathlib.Core.Path.{◌≡◌, refl, ap}
use mathlib.Core.List.{List, [], ◌∷◌}
use native.Mathlib.Nat.{not-suc-le-zero, le_of_suc-le-suc}
use lib.ListN.{length, get_or, take, set}
use Rattle.format.specs.declared.Node.{Node}
use Rattle.program_table.specs.Nodes.{nodes_of, in_front}

-- the table with the first i records written
abbrev pub front : List ℕ → List ℕ → List Node → ℕ → List Node
front ps ds ys i = in_front (nodes_of (take i ps) (take i ds)) ys

pub front-none : (ps ds : List ℕ) (ys : List Node) → front ps ds ys 0 ≡ ys
unfolding nodes_of in_front
front-none ps ds ys = refl

pub front-more : (i : ℕ) (ps ds : List ℕ) (ys : List Node) → i < length ps → i < length ds → i < length ys
    → set (front ps ds ys i) i (record { parent = get_or ps i 0; depth = get_or ds i 0 }) ≡ front ps ds ys (suc i)
unfolding nodes_of in_front
front-more i [] ds ys a b c = absurd (not-suc-le-zero a)
front-more i (p ∷ ps) [] ys a b c = absurd (not-suc-le-zero b)
front-more i (p ∷ ps) (d ∷ ds) [] a b c = absurd (not-suc-le-zero c)
front-more zero (p ∷ ps) (d ∷ ds) (y ∷ ys) a b c = refl
front-more (suc i) (p ∷ ps) (d ∷ ds) (y ∷ ys) a b c =
    ap (λ (l : List Node). record { parent = p; depth = d } ∷ l) (front-more i ps ds ys (le_of_suc-le-suc a) (le_of_suc-le-suc b) (le_of_suc-le-suc c))

pub front_length : (i : ℕ) (ps ds : List ℕ) (ys : List Node) → i ≤ length ys → length (front ps ds ys i) ≡ length ys
unfolding nodes_of in_front
front_length zero ps ds ys c = refl
front_length (suc i) [] ds ys c = refl
front_length (suc i) (p ∷ ps) [] ys c = refl
front_length (suc i) (p ∷ ps) (d ∷ ds) [] c = absurd (not-suc-le-zero c)
front_length (suc i) (p ∷ ps) (d ∷ ds) (y ∷ ys) c = ap suc (front_length i ps ds ys (le_of_suc-le-suc c))
