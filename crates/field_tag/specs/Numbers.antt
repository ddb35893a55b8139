-- The tags whose values are numbers: VN of HD and LN of SQ.
use Rattle.std.specs.Prelude.{ℕ, Bool, false, ◌&&◌, eqb}
use Rattle.format.specs.declared.Kind.{Kind}
use Rattle.format.specs.declared.Kind.TheVariants.{Header, ReferenceSequence, ReadGroup, Program, Comment}

-- VN of HD
unfoldable pub is_version : Kind → ℕ → ℕ → Bool
is_version Header a b = eqb a 86 && eqb b 78
is_version ReferenceSequence a b = false
is_version ReadGroup a b = false
is_version Program a b = false
is_version Comment a b = false

-- LN of SQ
unfoldable pub is_length : Kind → ℕ → ℕ → Bool
is_length Header a b = false
is_length ReferenceSequence a b = eqb a 76 && eqb b 78
is_length ReadGroup a b = false
is_length Program a b = false
is_length Comment a b = false
