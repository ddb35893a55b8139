-- The laws of the length of a binary header at the front of a stream.
use Rattle.std.specs.Prelude.{ℕ, zero, suc, ◌^◌, ◌≤◌, ◌<◌, ◌≡◌, Bool, true, false, List, ◌++◌, length, take, Ok, Err}
use Rattle.std.proofs.Math.Option.{Option, none, some}
use Rattle.format.specs.References.{Reference}
use Rattle.format.specs.Calls.{refused}
use Rattle.format.specs.Binary.{binary, binary_parts, binary_in}
use Rattle.binary_bytes.proofs.Parts.{AllSmall}
use Rattle.binary_len.specs.BinaryLen.{BinaryLen}
use Rattle.binary_len.specs.declared.Len.TheVariants.{Whole, More}
use Rattle.binary_len.specs.declared.Cursor.{Cursor}
use Rattle.binary_len.specs.declared.Step.TheVariants as step
use Rattle.binary_len.specs.BinaryLen.{binary_len}
use Rattle.binary_len.specs.Step.{at_first, len_from, Resumes}

unfoldable pub some? : {A : Type 0} → Option A → Bool
some? none = false
some? (some a) = true

-- are the bytes a binary header, as `binary_in` takes it apart?
unfoldable pub is_binary : List ℕ → Bool
unfolding some? binary_parts
is_binary s = some? (binary_parts s)

-- ---- the length is exact

-- if the length is `n`, the first `n` bytes are a binary header
unfoldable pub WholeIsBinary : Type 0
unfolding binary_len is_binary
WholeIsBinary = (s : List ℕ) (n : ℕ) → binary_len s ≡ Ok (Whole n) → (n ≤ length s) × (is_binary (take n s) ≡ true)

-- if the first `n` bytes are a binary header, the length is `n`
unfoldable pub BinaryIsWhole : Type 0
unfolding binary_len is_binary
BinaryIsWhole = (s : List ℕ) (n : ℕ) → n ≤ length s → is_binary (take n s) ≡ true → binary_len s ≡ Ok (Whole n)

-- at most one front of a stream is a binary header
unfoldable pub OneLength : Type 0
unfolding is_binary
OneLength = (s : List ℕ) (m n : ℕ) → m ≤ length s → n ≤ length s → is_binary (take m s) ≡ true → is_binary (take n s) ≡ true → m ≡ n

-- `binary_in` never answers 28 on a whole header
unfoldable pub WholeIsNot28 : Type 0
unfolding binary_len binary_in
WholeIsNot28 = (s : List ℕ) (n room l : ℕ) → binary_len s ≡ Ok (Whole n) → binary_in (take n s) room ≡ refused 28 l → ⊥

-- the length of a written header whose lengths fit in four bytes, whatever follows it
unfoldable pub WrittenIsWhole : Type 0
unfolding binary_len binary AllSmall
WrittenIsWhole = (t : List ℕ) (list : List Reference) (rest : List ℕ) → length t < 256 ^ 4 → length list < 256 ^ 4 → AllSmall list
    → binary_len (binary t list ++ rest) ≡ Ok (Whole (length (binary t list)))

-- ---- when more bytes come

-- the number of bytes asked for is greater than the number lent
unfoldable pub MoreIsMore : Type 0
unfolding binary_len
MoreIsMore = (s : List ℕ) (n : ℕ) → binary_len s ≡ Ok (More n) → length s < n

-- it is no greater than the length of the header
unfoldable pub MoreIsNeeded : Type 0
unfolding binary_len
MoreIsNeeded = (s rest : List ℕ) (m n : ℕ) → binary_len s ≡ Ok (More m) → binary_len (s ++ rest) ≡ Ok (Whole n) → m ≤ n

-- 28 is the only refusal, and it stays whatever follows
unfoldable pub RefusedStays : Type 0
unfolding binary_len
RefusedStays = (s rest : List ℕ) (n : ℕ) → binary_len s ≡ Err n → (n ≡ 28) × (binary_len (s ++ rest) ≡ Err 28)

-- the length of a whole header stays too
unfoldable pub WholeStays : Type 0
unfolding binary_len
WholeStays = (s rest : List ℕ) (n : ℕ) → binary_len s ≡ Ok (Whole n) → binary_len (s ++ rest) ≡ Ok (Whole n)

unfoldable pub on_more : BinaryLen → (ℕ → BinaryLen) → BinaryLen
on_more (Ok (Whole n)) next = Ok (Whole n)
on_more (Ok (More n)) next = next n
on_more (Err n) next = Err n

-- a front of `m` bytes of a stream is lent, and then at most `k` times as many bytes as were asked for, or all if there are fewer
unfoldable pub lending : ℕ → List ℕ → ℕ → BinaryLen
unfolding on_more binary_len
lending zero s m = binary_len (take m s)
lending (suc k) s m = on_more (binary_len (take m s)) (lending k s)

-- lending ends with the answer of the whole stream after at most as many times as it has bytes
unfoldable pub LendingEnds : Type 0
unfolding lending binary_len
LendingEnds = (s : List ℕ) → lending (length s) s 0 ≡ binary_len s

-- ---- when a cursor is used

-- going on at the cursor, every front that starts with `s` gets the same answer as from the start
unfoldable pub Reached : List ℕ → Cursor → Type 0
unfolding len_from binary_len
Reached s c = (rest : List ℕ) → len_from c (s ++ rest) ≡ binary_len (s ++ rest)

unfoldable pub FirstReached : Type 0
unfolding Reached at_first
FirstReached = (s : List ℕ) → Reached s at_first

-- a call over a longer front, and the cursor that it returns
unfoldable pub NextReached : Type 0
unfolding Reached Resumes
NextReached = (s more : List ℕ) (c next : Cursor) (n : ℕ) → Reached s c → Resumes (s ++ more) (Ok (step.More n next)) (len_from c) → Reached (s ++ more) next
