-- Field lookup answers one part: its bytes and its place are determined.
use Prim.Native.Nat.{ℕ}
use mathlib.Core.Path.{◌≡◌}
use mathlib.Core.List.{List}
use Rattle.format.specs.Calls.{valuing, looking}
use Rattle.format.proofs.Determined.{one-result}
use Rattle.calls.specs.Answers.{part_standing}

module _ (text kept stand : List ℕ) (kind ordinal a b : ℕ) (from aside : ℕ × ℕ) where
  -- what the contract of `field` says of a part: its bytes, and where it is
  pub record Part (bytes : List ℕ) (place : ℕ × ℕ) : Type 0 where
    pub value : bytes ≡ looking text kept kind ordinal a b stand
    pub stands : place ≡ part_standing (valuing text kept kind ordinal a b) from aside

  pub one-part : (v w : List ℕ) (p q : ℕ × ℕ) → Part v p → Part w q → (v ≡ w) × (p ≡ q)
  one-part v w p q x y = (
    one-result (looking text kept kind ordinal a b stand) v w x.value y.value,
    one-result (part_standing (valuing text kept kind ordinal a b) from aside) p q x.stands y.stands,
  )
