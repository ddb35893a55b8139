-- The places that the code answers when it takes a binary header apart.
use Rattle.std.specs.Prelude.{ℕ, ◌+◌, ◌-◌, cond, List, length, take, drop, eqb, leb, ltb, Option, None, Some, option_map, option_and_then}
use Rattle.format.specs.Little.{of_little}
use Rattle.format.specs.Bytes.{starts}
use Rattle.format.specs.Programs.{last_or}
use Rattle.format.specs.Binary.{take_list, magic}
use Rattle.binary_parts.specs.Parts.{is_whole}
use Rattle.binary_parts.specs.declared.NumberAt.{NumberAt}
use Rattle.binary_parts.specs.declared.RunAt.{RunAt}
use Rattle.binary_parts.specs.declared.ReferenceAt.{ReferenceAt}
use Rattle.binary_parts.specs.declared.PartsAt.{PartsAt}

-- the number at the place `at`
unfoldable pub number_at : List ℕ → ℕ → Option NumberAt
unfolding of_little
number_at s at = cond (ltb (length s - at) 4) None (Some (record { value = of_little (take 4 (drop at s)); next = at + 4 }))

-- the run of bytes there, given its length
unfoldable pub run_by : List ℕ → NumberAt → Option RunAt
run_by s n = cond (leb n.value (length s - n.next)) (Some (record { at = n.next; len = n.value })) None

unfoldable pub run_at : List ℕ → ℕ → Option RunAt
unfolding run_by number_at
run_at s at = option_and_then (run_by s) (number_at s at)

-- the reference there, given its name with the closing byte and its length
unfoldable pub reference_by : List ℕ → RunAt → Option NumberAt → Option ReferenceAt
unfolding last_or
reference_by s r n =
    cond (eqb (last_or 1 (take r.len (drop r.at s))) 0)
    (option_map (λ m. record { name = r.at; len = r.len - 1; size = m.value; next = m.next }) n)
    None

unfoldable pub reference_at : List ℕ → ℕ → Option ReferenceAt
unfolding reference_by run_at number_at
reference_at s at = option_and_then (λ r. reference_by s r (number_at s (r.at + r.len))) (run_at s at)

-- the parts there, given the text and the number of references
unfoldable pub both_by : List ℕ → RunAt → NumberAt → Option PartsAt
unfolding is_whole take_list
both_by s t n =
    cond (is_whole (take_list n.value (drop n.next s)))
    (Some (record { text = t.at; len = t.len; list = n.next; count = n.value }))
    None

unfoldable pub both_at : List ℕ → ℕ → Option PartsAt
unfolding both_by run_at number_at
both_at s at = option_and_then (λ t. option_and_then (both_by s t) (number_at s (t.at + t.len))) (run_at s at)

-- the parts of a binary header
unfoldable pub parts_at : List ℕ → Option PartsAt
unfolding starts magic both_at
parts_at s = cond (starts magic s) (both_at s 4) None
