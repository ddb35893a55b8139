-- `field::value::allowed_len` meets its contract: the kind and the tag say which rule holds.
use Prim.Native.Nat.{ℕ}
use mathlib.Core.Path.{◌≡◌, refl, sym, ◌∙◌}
use mathlib.Core.Bool.{true, false}
use mathlib.Core.List.{List}
use Rattle.format.specs.Fields.{is_value, is_wide_value, is_wide, allows}
use Rattle.format.specs.declared.Kind.{Kind}
use Rattle.field.specs.Taken.{taken_of}
use Rattle.field.proofs.value.allowed_len.Goals as goal

module _ (k : Kind) (a b : ℕ) (v : List ℕ) where
  wide : is_wide k a b ≡ true → taken_of is_wide_value v ≡ taken_of (allows k a b) v
  unfolding taken_of allows
  wide e = rw e refl

  narrow : is_wide k a b ≡ false → taken_of is_value v ≡ taken_of (allows k a b) v
  unfolding taken_of allows
  narrow e = rw e refl

pub returns-then-is_wide : goal.returns-then-is_wide
returns-then-is_wide c =
    c.wide_value_len.ensures ∙ wide _ _ _ _ (sym c.is_wide.ensures ∙ c.if-is_wide.true)

pub returns : goal.returns
returns c =
    c.value_len.ensures ∙ narrow _ _ _ _ (sym c.is_wide.ensures ∙ c.if-is_wide.false)
