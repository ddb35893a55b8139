-- Two lists whose elements belong together one by one.
use Rattle.std.specs.Prelude.{List, [], ◌∷◌}

-- the lists have the same length, and `R` holds of the two elements at each place
unfoldable pub Pairs : {A B : Type 0} → (A → B → Type 0) → List A → List B → Type 0
Pairs R [] [] = Unit
Pairs R [] (y ∷ ys) = ⊥
Pairs R (x ∷ xs) [] = ⊥
Pairs R (x ∷ xs) (y ∷ ys) = R x y × Pairs R xs ys
