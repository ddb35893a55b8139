-- What the places mean that the code answers when it takes a binary header apart.
use Rattle.std.specs.Prelude.{ℕ, ◌+◌, ◌≤◌, ◌≡◌, Bool, true, false, List, [], length, take, drop, Option, None, Some}
use Rattle.std.proofs.Math.Option as maybe
use Rattle.std.proofs.Math.Option.{none, some}
use Rattle.format.specs.Bytes.{none?}
use Rattle.format.specs.References.{Reference}
use Rattle.format.specs.Binary.{take_list}
use Rattle.binary_parts.specs.declared.NumberAt.{NumberAt}
use Rattle.binary_parts.specs.declared.RunAt.{RunAt}
use Rattle.binary_parts.specs.declared.ReferenceAt.{ReferenceAt}
use Rattle.binary_parts.specs.declared.PartsAt.{PartsAt}

-- a number, and the bytes after it
unfoldable pub number_taken : List ℕ → Option NumberAt → maybe.Option (ℕ × List ℕ)
number_taken s None = none
number_taken s (Some r) = some (r.value, drop r.next s)

-- a run of bytes, and the bytes after it
unfoldable pub run_from : List ℕ → Option RunAt → maybe.Option (List ℕ × List ℕ)
run_from s None = none
run_from s (Some r) = some (take r.len (drop r.at s), drop (r.at + r.len) s)

-- a reference: the bytes of its name, and its length
unfoldable pub reference_in : List ℕ → ReferenceAt → Reference
reference_in s r = record { name = take r.len (drop r.name s); size = r.size }

-- the same, and the bytes after it
unfoldable pub reference_from : List ℕ → Option ReferenceAt → maybe.Option (Reference × List ℕ)
unfolding reference_in
reference_from s None = none
reference_from s (Some r) = some (reference_in s r, drop r.next s)

-- was a whole reference list taken, with nothing after it?
unfoldable pub is_whole : maybe.Option (List Reference × List ℕ) → Bool
unfolding none?
is_whole none = false
is_whole (some p) = none? p.1

-- the references that were taken
unfoldable pub listed : maybe.Option (List Reference × List ℕ) → List Reference
listed none = []
listed (some p) = p.0

-- the text with the zero bytes at its end, and the reference list
unfoldable pub parts_from : List ℕ → Option PartsAt → maybe.Option (List ℕ × List Reference)
unfolding listed take_list
parts_from s None = none
parts_from s (Some p) = some (take p.len (drop p.text s), listed (take_list p.count (drop p.list s)))

-- the places are within the bytes, and the reference list is whole
pub record PartsStand (s : List ℕ) (p : PartsAt) : Type 0 where
  pub text : p.text + p.len ≤ length s
  pub list : p.list ≤ length s
  pub whole : is_whole (take_list p.count (drop p.list s)) ≡ true
