-- A contract that is an equation allows one result: two that it allows are equal.
use mathlib.Core.Path.{◌≡◌, sym, ◌∙◌}

pub one-result : {A : Type 0} (d x y : A) → x ≡ d → y ≡ d → x ≡ y
one-result d x y p q = p ∙ sym q
