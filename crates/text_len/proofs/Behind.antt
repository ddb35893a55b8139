-- The lines of a text that ends with LF, and of bytes after it.
use Prim.Native.Nat.{ℕ, ◌+◌}
use mathlib.Core.Path.{◌≡◌, refl, ap, ◌∙◌}
use mathlib.Core.Bool.{Bool, true, false, cond}
use mathlib.Core.List.{List, [], ◌∷◌, ◌++◌, map, map-append}
use native.Mathlib.Omega.{arith}
use native.Mathlib.Nat.{add-zero, add_assoc}
use lib.ListN.{length}
use lib.Dec.{eqb}
use borrow.Author.Tests.{eq-eqb}
use Rattle.format.specs.Lines.{onto, broken, laid, chomped, lines_from}
use Rattle.format.specs.Programs.{last_or}

onto-behind : (b : ℕ) (t : Bool) (c : ℕ) (ps qs : List (List ℕ))
    → onto b (cond t ((10 ∷ []) ∷ ps) (onto c ps) ++ qs) ≡ onto b (cond t ((10 ∷ []) ∷ ps) (onto c ps)) ++ qs
unfolding onto
onto-behind b true c ps qs = refl
onto-behind b false c [] qs = refl
onto-behind b false c (p ∷ ps) qs = refl

broken-behind : (t rest : List ℕ) → last_or 10 t ≡ 10 → broken (t ++ rest) ≡ broken t ++ broken rest
unfolding broken last_or onto
broken-behind [] rest h = refl
broken-behind (b ∷ []) rest h = rw (eq-eqb b 10 h) refl
broken-behind (b ∷ c ∷ t) rest h = rw (broken-behind (c ∷ t) rest h) (go (eqb b 10))
  where
    go : (u : Bool) → cond u ((10 ∷ []) ∷ (broken (c ∷ t) ++ broken rest)) (onto b (broken (c ∷ t) ++ broken rest))
        ≡ cond u ((10 ∷ []) ∷ broken (c ∷ t)) (onto b (broken (c ∷ t))) ++ broken rest
    go true = refl
    go false = onto-behind b (eqb c 10) c (broken t) (broken rest)

-- how many bytes lines have
total : List (List ℕ) → ℕ
total [] = 0
total (p ∷ ps) = length p + total ps

total-onto : (b : ℕ) (ps : List (List ℕ)) → total (onto b ps) ≡ 1 + total ps
unfolding total onto
total-onto b [] = omega arith
total-onto b (p ∷ ps) = omega arith

total-broken : (t : List ℕ) → total (broken t) ≡ length t
unfolding total broken
total-broken [] = refl
total-broken (b ∷ t) = go (eqb b 10) (total-broken t)
  where
    go : (u : Bool) → total (broken t) ≡ length t → total (cond u ((10 ∷ []) ∷ broken t) (onto b (broken t))) ≡ length (b ∷ t)
    go true e = omega arith
    go false e = omega (arith, total-onto b (broken t))

laid-behind : (at : ℕ) (ps qs : List (List ℕ)) → laid at (ps ++ qs) ≡ laid at ps ++ laid (at + total ps) qs
unfolding laid total
laid-behind at [] qs = rw add-zero refl
laid-behind at (p ∷ ps) qs = rw (laid-behind (at + length p) ps qs, add_assoc at (length p) (total ps)) refl

pub lines-behind : (at : ℕ) (t rest : List ℕ) → last_or 10 t ≡ 10 → lines_from at (t ++ rest) ≡ lines_from at t ++ lines_from (at + length t) rest
unfolding lines_from
lines-behind at t rest h =
    ap (λ l. map chomped (laid at l)) (broken-behind t rest h)
    ∙ ap (map chomped) (laid-behind at (broken t) (broken rest))
    ∙ map-append chomped (laid at (broken t)) (laid (at + total (broken t)) (broken rest))
    ∙ rw (total-broken t) refl
