-- What a cursor means, and what an answer with a cursor says.
use Rattle.std.specs.Prelude.{ℕ, ◌≡◌, false, cond, List, ◌++◌, Result, Ok, Err}
use Rattle.binary_len.specs.declared.Len.TheVariants as len
use Rattle.binary_len.specs.declared.Cursor.{Cursor}
use Rattle.binary_len.specs.declared.Step.{Step}
use Rattle.binary_len.specs.declared.Step.TheVariants.{Whole, More}
use Rattle.binary_len.specs.BinaryLen.{BinaryLen, part, onward, references_at, binary_len}

-- the cursor of the first call
unfoldable pub at_first : Cursor
at_first = record { begun = false; at = 0; left = 0 }

-- the answer without its cursor
unfoldable pub told : Result Step ℕ → BinaryLen
told (Ok (Whole n)) = Ok (len.Whole n)
told (Ok (More n c)) = Ok (len.More n)
told (Err n) = Err n

-- the answer for the bytes from a cursor on: for all bytes if nothing has been passed
unfoldable pub len_from : Cursor → List ℕ → BinaryLen
unfolding part onward references_at binary_len
len_from c s = cond c.begun (onward (part s c.at) (λ at. references_at s at c.left)) (binary_len s)

-- with the cursor that is returned, any longer front gets the answer that `f` gives
unfoldable pub Resumes : List ℕ → Result Step ℕ → (List ℕ → BinaryLen) → Type 0
unfolding len_from
Resumes s (Ok (Whole n)) f = Unit
Resumes s (Ok (More n c)) f = (rest : List ℕ) → len_from c (s ++ rest) ≡ f (s ++ rest)
Resumes s (Err n) f = Unit
