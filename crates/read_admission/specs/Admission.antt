-- Why a line may not follow the records before it: the judgement of its head.
use Rattle.std.specs.Prelude.{ℕ, Bool, true, false, ◌&&◌, cond, List, take, drop, eqb, leb}
use Rattle.std.proofs.Math.Option.{Option, none, some}
use Rattle.format.specs.Bytes.{same, any}
use Rattle.format.specs.Lines.{Piece}
use Rattle.format.specs.Records.{Record, code, key, Line, refused_line, read}
use Rattle.record.specs.declared.Stretch.{Stretch}
use Rattle.record.specs.declared.Head.{Head}
use Rattle.record.specs.declared.Head.TheVariants as head

-- 0, or the number of a refusal
unfoldable pub line_refusal : Line → ℕ
line_refusal (refused_line n) = n
line_refusal (read r) = 0

unfoldable pub is_keyed : List ℕ → Option Piece → Bool
unfolding same
is_keyed id none = false
is_keyed id (some p) = same id p.bytes

-- is this a record of kind `k` with the key `id`?
unfoldable pub has_key : ℕ → List ℕ → Record → Bool
unfolding is_keyed code key
has_key k id r = eqb k (code r) && is_keyed id (key r)

-- does one of some records have kind `k` and the key at a place of the text?
unfoldable pub is_used : List Record → List ℕ → ℕ → Stretch → Bool
unfolding any has_key
is_used rs t k p = any (has_key k (take p.len (drop p.at t))) rs

-- does one of some records have the kind and the key of this head?
unfoldable pub is_taken : List Record → List ℕ → Head → Bool
unfolding is_used
is_taken rs t (head.Refused n) = false
is_taken rs t (head.Header v n) = false
is_taken rs t (head.ReferenceSequence p l n) = is_used rs t 2 p
is_taken rs t (head.ReadGroup p n) = is_used rs t 3 p
is_taken rs t (head.Program p n) = is_used rs t 4 p
is_taken rs t (head.Comment p) = false

-- 0, or why a line with this head may not follow `count` lines, `programs` of which are programs; `taken` says whether one of them has its key
unfoldable pub barring : Bool → ℕ → ℕ → Head → ℕ
barring taken count programs (head.Refused n) = n
barring taken count programs (head.Header v n) = cond (eqb count 0) 0 17
barring taken count programs (head.ReferenceSequence p l n) = cond taken 18 0
barring taken count programs (head.ReadGroup p n) = cond taken 18 0
barring taken count programs (head.Program p n) = cond taken 18 (cond (leb 1024 programs) 19 0)
barring taken count programs (head.Comment p) = 0

-- a program counts as one
unfoldable pub programs_of : Head → ℕ
programs_of (head.Refused n) = 0
programs_of (head.Header v n) = 0
programs_of (head.ReferenceSequence p l n) = 0
programs_of (head.ReadGroup p n) = 0
programs_of (head.Program p n) = 1
programs_of (head.Comment p) = 0
