-- The kind of an accepted line, from its second byte, and a head without the number of its other fields.
use Rattle.std.specs.Prelude.{ℕ, Bool, true, false, cond, eqb}
use Rattle.format.specs.declared.Kind.{Kind}
use Rattle.format.specs.declared.Kind.TheVariants.{Header, ReferenceSequence, ReadGroup, Program, Comment}
use Rattle.record.specs.declared.Head.{Head}
use Rattle.record.specs.declared.Head.TheVariants as head

-- the kind of an accepted line, from the byte after its `@`
unfoldable pub kind_by : ℕ → Kind
kind_by b = cond (eqb b 72) Header (cond (eqb b 83) ReferenceSequence (cond (eqb b 82) ReadGroup (cond (eqb b 80) Program Comment)))

-- does a line of this kind have no fields?
abbrev pub is_comment : Kind → Bool
is_comment Header = false
is_comment ReferenceSequence = false
is_comment ReadGroup = false
is_comment Program = false
is_comment Comment = true

-- the head with 0 as the number of other fields
unfoldable pub uncounted : Head → Head
uncounted (head.Refused n) = head.Refused n
uncounted (head.Header v n) = head.Header v 0
uncounted (head.ReferenceSequence p l n) = head.ReferenceSequence p l 0
uncounted (head.ReadGroup p n) = head.ReadGroup p 0
uncounted (head.Program p n) = head.Program p 0
uncounted (head.Comment p) = head.Comment p
