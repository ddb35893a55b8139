-- Answers as one number: a count; or bit 63, the number of the refusal shifted left by 32, and the line.
use Rattle.std.specs.Prelude.{ℕ, ◌+◌, ◌*◌, ◌^◌, ◌≤◌, ◌<◌, cond, ltb, ⊤, Option, None, Some, Result, Ok, Err}
use Rattle.format.specs.declared.LineNo.{LineNo}
use Rattle.format.specs.declared.Refusal.{Refusal}
use Rattle.catalogue_entries.specs.declared.Place.{Place}
use Rattle.programs.specs.declared.Counted as leaves
use Rattle.carry_on.specs.declared.Written.{Written}
use Rattle.names.specs.declared.Counted as names
use Rattle.merge_judge.specs.declared.Which.{Which}
use Rattle.merge_judge.specs.declared.Which.TheVariants as which
use Rattle.merge_judge.specs.declared.MergeRefusal.{MergeRefusal}
use Rattle.merge_judge.specs.declared.MergeRefusal.TheVariants.{Unfit, Unmerged}
use Rattle.binary_len.specs.declared.Len.TheVariants as len
use Rattle.binary_len.specs.BinaryLen.{BinaryLen}

unfoldable pub refusal_word : ℕ → ℕ → ℕ
refusal_word n l = 2 ^ 63 + n * 2 ^ 32 + l

unfoldable pub answer_word : Result ℕ Refusal → ℕ
unfolding refusal_word
answer_word (Err r) = refusal_word r.number r.line.0
answer_word (Ok n) = n

-- 0 if the catalogue is this text's
unfoldable pub checked_word : Result ⊤ Refusal → ℕ
unfolding refusal_word
checked_word (Err r) = refusal_word r.number r.line.0
checked_word (Ok u) = 0

-- two numbers: the first shifted left by 32, and the second
unfoldable pub pair_word : ℕ → ℕ → ℕ
pair_word a b = a * 2 ^ 32 + b

-- the hops, and the number of leaves
unfoldable pub leaves_word : Result leaves.Counted Refusal → ℕ
unfolding refusal_word pair_word
leaves_word (Err r) = refusal_word r.number r.line.0
leaves_word (Ok a) = pair_word a.hops a.leaves

-- there are so few leaves that their number does not reach the hops
unfoldable pub FewLeaves : Result leaves.Counted Refusal → Type 0
FewLeaves (Err r) = Unit
FewLeaves (Ok a) = a.leaves ≤ 1024

-- the lines skipped, and the bytes written
unfoldable pub carried_word : Result Written Refusal → ℕ
unfolding refusal_word pair_word
carried_word (Err r) = refusal_word r.number r.line.0
carried_word (Ok w) = pair_word w.skipped w.size

-- each of them fits into half of the number
unfoldable pub FitsHalves : Result Written Refusal → Type 0
FitsHalves (Err r) = Unit
FitsHalves (Ok w) = (w.size < 2 ^ 32) × (w.skipped < 2 ^ 32)

-- the key's offset, and its length
unfoldable pub key_word : Result Place Refusal → ℕ
unfolding refusal_word pair_word
key_word (Err r) = refusal_word r.number r.line.0
key_word (Ok p) = pair_word p.at p.len

-- the line of a record
unfoldable pub line_word : Result LineNo Refusal → ℕ
unfolding refusal_word
line_word (Err r) = refusal_word r.number r.line.0
line_word (Ok l) = l.0

-- the ordinal of a record
unfoldable pub find_word : Result ℕ Refusal → ℕ
unfolding refusal_word
find_word (Err r) = refusal_word r.number r.line.0
find_word (Ok i) = i

-- the value's offset and its length, or all ones if the stand-in is used
unfoldable pub field_word : Option Place → ℕ
unfolding pair_word
field_word None = 18446744073709551615
field_word (Some p) = pair_word p.at p.len

-- 0 if there is such an SQ
unfoldable pub length_word : Result ℕ Refusal → ℕ
unfolding refusal_word
length_word (Err r) = refusal_word r.number r.line.0
length_word (Ok n) = 0

-- the LN replaces the caller's number; a refusal leaves it
unfoldable pub length_left : Result ℕ Refusal → ℕ → ℕ
length_left (Err r) old = old
length_left (Ok n) old = n

-- how many names are answered
unfoldable pub names_word : Result names.Counted Refusal → ℕ
unfolding refusal_word
names_word (Err r) = refusal_word r.number r.line.0
names_word (Ok a) = a.names

-- the number of slots looked at replaces the caller's number; a refusal leaves it
unfoldable pub names_left : Result names.Counted Refusal → ℕ → ℕ
names_left (Err r) old = old
names_left (Ok a) old = a.looks

-- which of the three texts of a merge a refusal is about
unfoldable pub about_number : Which → ℕ
about_number which.A = 1
about_number which.B = 2
about_number which.Merged = 3

-- a refusal because of one of them: the number of that text is shifted left by 48
unfoldable pub unfit_word : Which → ℕ → ℕ → ℕ
unfolding refusal_word about_number
unfit_word w n l = refusal_word n l + about_number w * 2 ^ 48

-- 0 for an accepted merge
unfoldable pub verdict_word : Result ⊤ MergeRefusal → ℕ
unfolding refusal_word unfit_word
verdict_word (Ok u) = 0
verdict_word (Err (Unfit w r)) = unfit_word w r.number r.line.0
verdict_word (Err (Unmerged n)) = refusal_word n 0

-- a number with the bits of its kind above it: 1 if it reaches bit 62, which no number of bytes in a memory does
unfoldable pub short_word : ℕ → ℕ → ℕ
unfolding refusal_word
short_word kind n = cond (ltb n (2 ^ 62)) (kind + n) (refusal_word 1 0)

-- the length of a binary header; or bit 62, and how many bytes are needed to say more
unfoldable pub len_word : BinaryLen → ℕ
unfolding refusal_word short_word
len_word (Err n) = refusal_word n 0
len_word (Ok (len.Whole n)) = short_word 0 n
len_word (Ok (len.More n)) = short_word (2 ^ 62) n
