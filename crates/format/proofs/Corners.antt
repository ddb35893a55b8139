-- Document 01's cases that are marked (P), with document 02's lengths and headers without a readable version, as one table and one statement:
-- every call in it gives the answer next to it. After them come cases that other likely mistakes would get wrong.
use Prim.Native.Nat.{ℕ}
use Prim.Native.String.{String}
use mathlib.Core.Path.{◌≡◌, refl}
use mathlib.Core.Bool.{Bool, true, false, ◌&&◌}
use mathlib.Core.List.{List, [], ◌∷◌, ◌++◌}
use lib.Dec.{eqb}
use Rattle.format.specs.Bytes.{same}
use Rattle.format.specs.Calls as calls
use Rattle.format.specs.Calls.{Answer, refused, yes}
use Rattle.format.proofs.Ascii.{ascii}

-- a call, its arguments, and its answer; calls over a catalogue are given the one that reading the text gives, and adding a prefix and fields; some are
-- given how long the output is
pub data Case : Type 0 where
  reading : String → Answer (List ℕ) → Case
  looking : String → ℕ → ℕ → ℕ → ℕ → String → Case
  leafing : String → Answer (List ℕ × ℕ) → Case
  adding : String → String → String → Answer String → Case
  reading_into : ℕ → String → Answer (List ℕ) → Case
  tidying_into : ℕ → String → Answer String → Case
  adding_into : ℕ → String → String → String → Answer String → Case

-- ---- the test

same_answer : {A B : Type 0} → (A → B → Bool) → Answer A → Answer B → Bool
same_answer e (refused n l) (refused m k) = eqb n m && eqb l k
same_answer e (refused n l) (yes b) = false
same_answer e (yes a) (refused m k) = false
same_answer e (yes a) (yes b) = e a b

listed : Answer (List ℕ) → List ℕ
listed (refused n l) = []
listed (yes xs) = xs

-- outputs with room for all
own : List ℕ → List ℕ
unfolding listed calls.reading
own text = listed (calls.reading text 1000)

holds : Case → Bool
unfolding ascii same_answer own same calls.reading calls.looking calls.leafing calls.adding calls.tidying
holds (reading t a) = same_answer same (calls.reading (ascii t) 1000) a
holds (looking t k i a b v) = same (calls.looking (ascii t) (own (ascii t)) k i a b []) (ascii v)
holds (leafing t a) = same_answer (λ x y. same x.0 y.0 && eqb x.1 y.1) (calls.leafing (ascii t) (own (ascii t)) 1000) a
holds (adding t p f a) = same_answer (λ x y. same x (ascii y)) (calls.adding (ascii t) (own (ascii t)) (ascii p) (ascii f) 1000) a
holds (reading_into n t a) = same_answer same (calls.reading (ascii t) n) a
holds (tidying_into n t a) = same_answer (λ x y. same x (ascii y)) (calls.tidying (ascii t) n) a
holds (adding_into n t p f a) = same_answer (λ x y. same x (ascii y)) (calls.adding (ascii t) (own (ascii t)) (ascii p) (ascii f) n) a

pub hold_all : List Case → Bool
unfolding holds
hold_all [] = true
hold_all (c ∷ cs) = holds c && hold_all cs

-- ---- the table

pg0-pg3 : String
pg0-pg3 = "@PG\tID:pg0\n@PG\tID:pg1\tPP:pg0\n@PG\tID:pg2\tPP:pg1\n@PG\tID:pg3\n"

-- SN at offset 7, one byte, LN in eight bytes, the largest that is accepted, and line 0
largest : List ℕ
largest = 2 ∷ 7 ∷ 0 ∷ 0 ∷ 0 ∷ 1 ∷ 0 ∷ 0 ∷ 0 ∷ 255 ∷ 255 ∷ 255 ∷ 127 ∷ 0 ∷ 0 ∷ 0 ∷ 0 ∷ 0 ∷ 0 ∷ 0 ∷ 0 ∷ []

-- version 1.6, line 0, no field
one-six : List ℕ
one-six = 1 ∷ 1 ∷ 0 ∷ 0 ∷ 0 ∷ 6 ∷ 0 ∷ 0 ∷ 0 ∷ 0 ∷ 0 ∷ 0 ∷ 0 ∷ []

pub cases : List Case
unfolding pg0-pg3 largest one-six
cases =
    reading "@SQ\tSN:s\tLN:0" (refused 13 0)
    ∷ reading "@SQ\tSN:s\tLN:8x" (refused 6 0)
    ∷ reading "@SQ\tSN:s\tLN:2147483647" (yes largest)
    ∷ reading "@SQ\tSN:s\tLN:2147483648" (refused 27 0)
    ∷ reading "@HD\tVN:1.6\n@SQ\tSN:s\tLN:1\tLN:2147483648" (refused 27 1)
    ∷ reading "@SQ\tSN:s\tLN:18446744073709551615" (refused 27 0)
    ∷ reading "@SQ\tSN:s\tLN:18446744073709551616" (refused 12 0)
    ∷ reading "@HD" (refused 15 0)
    ∷ reading "@CO\t\n@HD\tVN:1.6\n" (refused 17 1)
    ∷ reading "\n" (refused 3 0)
    ∷ looking "@HD\tVN:1.5\tSO:unsorted\tSO:coordinate\n" 1 0 83 79 "coordinate"
    ∷ reading "@HD\tVN:1.6\tSO:unsorted\tSO:coordinate\n" (refused 14 0)
    ∷ reading "@HD\tVN:1.5\tVN:1.6\n" (yes one-six)
    ∷ leafing pg0-pg3 (yes (3 ∷ 2 ∷ [], 3))
    ∷ adding pg0-pg3 "x" "" (yes "@PG\tID:pg0\n@PG\tID:pg1\tPP:pg0\n@PG\tID:pg2\tPP:pg1\n@PG\tID:pg3\n@PG\tID:x\tPP:pg3\n@PG\tID:x-pg2\tPP:pg2\n")
    ∷ adding pg0-pg3 "pg0" "" (yes "@PG\tID:pg0\n@PG\tID:pg1\tPP:pg0\n@PG\tID:pg2\tPP:pg1\n@PG\tID:pg3\n@PG\tID:pg0-pg3\tPP:pg3\n@PG\tID:pg0-pg2\tPP:pg2\n")
    ∷ leafing "@PG\tID:c\tPP:a\n@PG\tID:a\tPP:b\n@PG\tID:b\tPP:a\n" (refused 23 0)
    ∷ leafing "@PG\tID:a\tPP:a\n" (refused 23 0)
    ∷ leafing "@PG\tID:a\tPP:b\n" (refused 22 0)
    ∷ looking "@RG\tID:a\tPL:x\tPL:y\n" 3 0 80 76 "y"
    ∷ reading "@HD\tSO:a\tSO:b\n" (refused 15 0)
    ∷ reading "@HD\tSO:a\tSO:b\tVN:x\n" (refused 11 0)
    ∷ adding "@PG\tID:a\tPN:x\tPN:y\n" "b" "\tCL:x\tCL:y" (refused 26 0)
    ∷ reading "@HD\tVN:1.6.0" (refused 11 0)
    ∷ reading "@HD\tVN:1.6\tDS:Ã©" (refused 10 0)
    ∷ adding "@PG\tID:a\n@PG\tID:b\n@PG\tID:x-b\tPP:a\n" "x" "" (refused 18 0)
    ∷ adding "@PG\tID:a\n" "x" "\tPP:b" (refused 22 0)
    ∷ reading_into 13 "@HD\tVN:1.6\n" (yes one-six)
    ∷ reading_into 12 "@HD\tVN:1.6\n" (refused 20 0)
    ∷ tidying_into 11 "@HD\tVN:1.6" (yes "@HD\tVN:1.6\n")
    ∷ tidying_into 10 "@HD\tVN:1.6" (refused 20 0)
    ∷ adding_into 9 "" "a" "" (yes "@PG\tID:a\n")
    ∷ adding_into 8 "" "a" "" (refused 20 0)
    ∷ tidying_into 0 "@CO\t\n@SQ\tSN:*\tLN:1" (refused 24 1)
    ∷ []

-- ---- the statement

pub corners : hold_all cases ≡ true
unfolding hold_all cases
corners = refl
