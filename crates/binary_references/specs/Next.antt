-- The SQ list of a text, line by line, and the part of it that starts with the next reference.
use Rattle.std.specs.Prelude.{ℕ, ◌+◌, ◌≤◌, ◌<◌, ◌≡◌, Bool, List, [], ◌∷◌, ◌++◌, length, take, drop, get_or, eqb, Option, None, Some, IfSome}
use Rattle.format.specs.Lines.{Piece, lines_from}
use Rattle.format.specs.Records.{header, reference, group, program, comment, Line, refused_line, read, line}
use Rattle.format.specs.References.{Reference, sq_list}
use Rattle.record.specs.Head.{stretch_of}
use Rattle.binary_references.specs.declared.NextReference.{NextReference}

-- is the second byte of a line `S`?
unfoldable pub may_be_sq : List ℕ → Bool
may_be_sq s = eqb (get_or s 1 0) 83

-- the reference of a line that is an SQ, before those of the lines after it
unfoldable pub with_reference : Line → List Reference → List Reference
unfolding sq_list
with_reference (refused_line n) list = list
with_reference (read r) list = sq_list (r ∷ []) ++ list

unfoldable pub line_references : Bool → List Piece → List Reference
unfolding with_reference line
line_references strict [] = []
line_references strict (p ∷ ps) = with_reference (line strict p) (line_references strict ps)

-- the SQ list of the lines from the offset `at` of the text `t` on
abbrev pub sq_from : Bool → List ℕ → ℕ → List Reference
sq_from strict t at = line_references strict (lines_from at (drop at t))

-- the reference in an answer: the bytes of its name, and its LN
unfoldable pub told_reference : List ℕ → NextReference → Reference
told_reference t r = record { name = take r.name.len (drop r.name.at t); size = r.length }

-- the list in an answer: its reference and those after it, or the empty list
unfoldable pub told_list : Bool → List ℕ → Option NextReference → List Reference
unfolding told_reference
told_list strict t None = []
told_list strict t (Some r) = told_reference t r ∷ sq_from strict t r.next

-- where the first of some lines starts, or the end of the text if there are none
unfoldable pub start_of : ℕ → List Piece → ℕ
start_of end [] = end
start_of end (p ∷ ps) = p.at

-- a line, and where the line after it starts: the reference of an SQ, or else what the lines after it give
unfoldable pub next_by : Line → ℕ → Option NextReference → Option NextReference
unfolding stretch_of
next_by (refused_line n) next rest = rest
next_by (read (header v fs)) next rest = rest
next_by (read (reference p n fs)) next rest = Some (record { name = stretch_of p; length = n; next = next })
next_by (read (group p fs)) next rest = rest
next_by (read (program p fs)) next rest = rest
next_by (read (comment p)) next rest = rest

-- the first SQ of some lines, in a text that ends at `end`
unfoldable pub next_in : Bool → ℕ → List Piece → Option NextReference
unfolding next_by start_of line
next_in strict end [] = None
next_in strict end (p ∷ ps) = next_by (line strict p) (start_of end ps) (next_in strict end ps)

-- the first SQ of the lines from the offset `at` of the text `t` on
abbrev pub next_from : Bool → List ℕ → ℕ → Option NextReference
next_from strict t at = next_in strict (length t) (lines_from at (drop at t))

-- its name and its next line are in the text, and its LN is below 2 ^ 31
pub record FoundInText (t : List ℕ) (start : ℕ) (r : NextReference) : Type 0 where
  pub name : r.name.at + r.name.len ≤ length t
  pub small : r.length < 2147483648
  pub onward : start < r.next
  pub within : r.next ≤ length t

-- the answer
pub record NextInText (strict : Bool) (t : List ℕ) (start : ℕ) (r : Option NextReference) : Type 0 where
  pub is : r ≡ next_from strict t start
  pub found : IfSome r (λ n. FoundInText t start n)
