-- How many bytes at the front of an uncompressed BAM stream are its binary header. The parts come one after another: the start, the length of the
-- text, the text, the number of references, and for each reference the length of its name, the name and LN.
use Rattle.std.specs.Prelude.{ℕ, zero, suc, ◌+◌, ◌-◌, cond, List, length, take, drop, get_or, eqb, leb, Result, Ok, Err}
use Rattle.format.specs.Bytes.{starts}
use Rattle.format.specs.Little.{of_little}
use Rattle.format.specs.Binary.{magic}
use Rattle.binary_len.specs.declared.Len.{Len}
use Rattle.binary_len.specs.declared.Len.TheVariants.{Whole, More}

-- the length, or how many bytes are needed to say more; or a refusal
abbrev pub BinaryLen : Type 0
BinaryLen = Result Len ℕ

-- the part that ends at `end`: all of it is there, or it is cut off
unfoldable pub part : List ℕ → ℕ → BinaryLen
part s end = cond (leb end (length s)) (Ok (Whole end)) (Ok (More end))

-- what follows a part that is there, from its end on
unfoldable pub onward : BinaryLen → (ℕ → BinaryLen) → BinaryLen
onward (Ok (Whole end)) next = next end
onward (Ok (More end)) next = Ok (More end)
onward (Err n) next = Err n

-- the number in the four bytes at `at`
unfoldable pub number_at : List ℕ → ℕ → ℕ
unfolding of_little
number_at s at = of_little (take 4 (drop at s))

-- 28 if the name that ends at `end` has no zero byte at its end
unfoldable pub closed : List ℕ → ℕ → BinaryLen
closed s end = cond (eqb (get_or s (end - 1) 0) 0) (Ok (Whole end)) (Err 28)

-- a name of `n` bytes at `at`: 28 if `n` is 0
unfoldable pub name_at : List ℕ → ℕ → ℕ → BinaryLen
unfolding part onward closed
name_at s at n = cond (eqb n 0) (Err 28) (onward (part s (at + n)) (closed s))

-- the reference at `at`: the length of its name, the name and LN
unfoldable pub reference_at : List ℕ → ℕ → BinaryLen
unfolding part onward name_at number_at
reference_at s at =
    onward (part s (at + 4)) (λ name.
    onward (name_at s name (number_at s at)) (λ end. part s (end + 4)))

-- `n` references at `at`
unfoldable pub references_at : List ℕ → ℕ → ℕ → BinaryLen
unfolding onward reference_at
references_at s at zero = Ok (Whole at)
references_at s at (suc n) = onward (reference_at s at) (λ next. references_at s next n)

-- `BAM` and the byte 1; 28 if the bytes that are there differ
unfoldable pub start : List ℕ → BinaryLen
unfolding starts magic
start s = cond (starts magic s) (Ok (Whole 4)) (cond (starts s magic) (Ok (More 4)) (Err 28))

unfoldable pub binary_len : List ℕ → BinaryLen
unfolding onward start part number_at references_at
binary_len s =
    onward (start s) (λ at.
    onward (part s (at + 4)) (λ text.
    onward (part s (text + number_at s at)) (λ end.
    onward (part s (end + 4)) (λ list. references_at s list (number_at s end)))))
