-- When the bytes of a line show that its keys come first and its LN has no leading zero.
use Rattle.std.specs.Prelude.{ℕ, ◌+◌, ◌-◌, Bool, true, false, not, ◌&&◌, List, length, drop, get_or, eqb, ltb}
use Rattle.format.specs.declared.Kind.{Kind}
use Rattle.format.specs.declared.Kind.TheVariants.{Header, ReferenceSequence, ReadGroup, Program, Comment}
use Rattle.byte_slices.specs.Upto.{upto}
use Rattle.tidy_name.specs.Runs.{name_run}

-- there are three bytes or more from `i` on, and the second and third are the tag `a`, `b`
unfoldable pub has_tag : List ℕ → ℕ → ℕ → ℕ → Bool
has_tag s i a b = not (ltb (length s - i) 3) && (eqb (get_or s (i + 1) 0) a && eqb (get_or s (i + 2) 0) b)

-- there is an LN from `i` on, and its value does not start with a zero
unfoldable pub plain_length : List ℕ → ℕ → Bool
unfolding has_tag
plain_length s i = has_tag s i 76 78 && (not (ltb (length s - i) 5) && not (eqb (get_or s (i + 4) 0) 48))

-- the keys come first: SN and LN, or ID; an HD is always written part by part, and a comment has no keys
unfoldable pub neat : Kind → List ℕ → Bool
unfolding has_tag plain_length upto
neat Header s = false
neat ReferenceSequence s = has_tag s 3 83 78 && plain_length s (4 + upto 9 (drop 4 s))
neat ReadGroup s = has_tag s 3 73 68
neat Program s = has_tag s 3 73 68
neat Comment s = true

-- the bytes from 7 on start with a name of `n` bytes, and after it come a tab and an LN with no leading zero
unfoldable pub named_before : List ℕ → ℕ → Bool
unfolding plain_length
named_before s n = not (eqb n 0) && (plain_length s (7 + n) && eqb (get_or s (7 + n) 0) 9)

-- SN comes first with a name that can be written, and then LN
unfoldable pub named_sequence : List ℕ → Bool
unfolding has_tag named_before name_run
named_sequence s = has_tag s 3 83 78 && named_before s (name_run (drop 7 s))

-- the keys come first, and the name of an SQ can be written
unfoldable pub ready : Kind → List ℕ → Bool
unfolding neat named_sequence
ready Header s = neat Header s
ready ReferenceSequence s = named_sequence s
ready ReadGroup s = neat ReadGroup s
ready Program s = neat Program s
ready Comment s = neat Comment s
