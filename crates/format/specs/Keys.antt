-- Which fields are the keys of a record. In any other kind these tags are plain fields.
use Rattle.std.specs.Prelude.{ℕ, Bool, false, ◌&&◌, ◌||◌, eqb}
use Rattle.format.specs.declared.Kind.{Kind}
use Rattle.format.specs.declared.Kind.TheVariants.{Header, ReferenceSequence, ReadGroup, Program, Comment}

-- VN of HD, SN and LN of SQ, ID of RG and PG
unfoldable pub is_key : Kind → ℕ → ℕ → Bool
is_key Header a b = eqb a 86 && eqb b 78
is_key ReferenceSequence a b = (eqb a 83 && eqb b 78) || (eqb a 76 && eqb b 78)
is_key ReadGroup a b = eqb a 73 && eqb b 68
is_key Program a b = eqb a 73 && eqb b 68
is_key Comment a b = false
