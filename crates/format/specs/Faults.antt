-- The faults of a text: the number and the fault of each faulty line, which has one fault. A line is judged as in carrying on, and if it is skipped,
-- its refusal is its fault. Of the kept lines, an SQ whose name can't be written has 24; a program whose PP equals the ID of no kept program has 22;
-- and a program that comes back to itself through its parents has 23, but not one that only leads there.
use Rattle.std.specs.Prelude.{ℕ, zero, suc, ◌+◌, cond, List, [], ◌∷◌, length, get_or, eqb, ltb}
use Rattle.format.specs.Records.{Record, code, Line, refused_line, read}
use Rattle.format.specs.Reading.{longest}
use Rattle.format.specs.Programs.{Link, root, is_dangling, reaches, links, programs}
use Rattle.format.specs.Tidy.{is_writable}
use Rattle.format.specs.Calls.{Answer, refused, fitting}
use Rattle.format.specs.Carrying.{kept_of, carried_lines, Skip, rows}

-- ---- one kept line

-- 0, or why the program with the ordinal `i` is faulty
unfoldable pub link_fault : List Link → ℕ → ℕ
unfolding is_dangling reaches
link_fault ks i = cond (is_dangling (get_or ks i root)) 22 (cond (reaches ks i (length ks) (get_or ks i root)) 23 0)

-- 0, or why a record is faulty; a program has the ordinal `i`
unfoldable pub record_fault : List Link → ℕ → Record → ℕ
unfolding is_writable code link_fault
record_fault ks i r = cond (is_writable r) (cond (eqb (code r) 4) (link_fault ks i) 0) 24

-- the ordinal of the next program after a record
unfoldable pub next_program : ℕ → Record → ℕ
unfolding code
next_program i r = cond (eqb (code r) 4) (i + 1) i

-- ---- line by line

-- the line `l`, if it has a fault
unfoldable pub if_faulty : ℕ → ℕ → List Skip → List Skip
if_faulty l zero ss = ss
if_faulty l (suc n) ss = record { line = l; refusal = suc n } ∷ ss

-- the faulty lines in order: lines are counted from `l`, programs from `i`
unfoldable pub faults_from : List Link → ℕ → ℕ → List Line → List Skip
unfolding if_faulty record_fault next_program
faults_from ks l i [] = []
faults_from ks l i (refused_line n ∷ ls) = record { line = l; refusal = n } ∷ faults_from ks (l + 1) i ls
faults_from ks l i (read r ∷ ls) = if_faulty l (record_fault ks i r) (faults_from ks (l + 1) (next_program i r) ls)

-- the faults of lines that are judged: the programs are the kept ones
unfoldable pub faults_in : List Line → List Skip
unfolding faults_from links programs kept_of
faults_in ls = faults_from (links (programs (kept_of ls))) 0 0 ls

-- ---- the call

-- two numbers for each faulty line; `table` is how many numbers the table takes
unfoldable pub faulting : List ℕ → ℕ → Answer (List ℕ)
unfolding longest fitting rows faults_in carried_lines
faulting text table = cond (ltb longest (length text)) (refused 1 0) (fitting table (rows (faults_in (carried_lines text))))
