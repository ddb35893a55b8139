-- There is one place of the first kept line.
use mathlib.Core.Path.{◌≡◌, refl, sym, ◌∙◌}
use mathlib.Core.Bool.{Bool}
use mathlib.Core.List.{List}
use Prim.Native.Nat.{ℕ}
use Rattle.carry_early.specs.First.{First}
use Rattle.carry_early.specs.declared.Begin.{Begin}

pub one-first : (t : List ℕ) (b c : Begin) → First t b → First t c → b ≡ c
one-first t b c x y = made (x.place ∙ sym y.place) (x.line ∙ sym y.line) (x.strict ∙ sym y.strict)
  where
    made : {i j k l : ℕ} {p q : Bool} → i ≡ j → k ≡ l → p ≡ q → ◌≡◌ {A = Begin} (record { at = i; line = k; strict = p }) (record { at = j; line = l; strict = q })
    made e f g = rw (e, f, g) refl
