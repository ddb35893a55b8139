-- One more program, or none.
use Prim.Native.Nat.{◌≤◌}
use mathlib.Core.Path.{◌≡◌, refl}
use mathlib.Core.List.{[], ◌∷◌}
use native.Mathlib.Omega.{arith}
use lib.ListN.{length}
use Rattle.format.specs.Records.{Record, header, reference, group, program, comment, code}
use Rattle.format.specs.Reading.{of_kind}
use Rattle.record.specs.Head.{record_head}
use Rattle.record.specs.declared.Head.{Head}
use Rattle.record.specs.declared.Head.TheVariants as head
use Rattle.read_admission.specs.Admission.{programs_of}

pub programs-one : (r : Record) → length (of_kind 4 (r ∷ [])) ≡ programs_of (record_head r)
unfolding of_kind programs_of record_head code
programs-one (header v fs) = refl
programs-one (reference p n fs) = refl
programs-one (group p fs) = refl
programs-one (program p fs) = refl
programs-one (comment p) = refl

pub programs-most : (h : Head) → programs_of h ≤ 1
unfolding programs_of
programs-most (head.Refused n) = omega arith
programs-most (head.Header v n) = omega arith
programs-most (head.ReferenceSequence p l n) = omega arith
programs-most (head.ReadGroup p n) = omega arith
programs-most (head.Program p n) = omega arith
programs-most (head.Comment p) = omega arith
