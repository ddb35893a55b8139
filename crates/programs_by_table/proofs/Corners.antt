-- Cases of the second engine, as one table and one statement: every call in it gives the answer next to it.
use Prim.Native.Nat.{ℕ}
use Prim.Native.Char.{code}
use Prim.Native.String.{String, [] as nil, ◌∷◌ as cons}
use mathlib.Core.Path.{◌≡◌, refl}
use mathlib.Core.Bool.{Bool, true, false, ◌&&◌}
use mathlib.Core.List.{List, [], ◌∷◌}
use lib.Dec.{eqb}
use Rattle.format.specs.Bytes.{same}
use Rattle.format.specs.Calls.{Answer, refused, yes, reading}
use Rattle.format.specs.declared.Node.{Node}
use Rattle.format.specs.Table.{leafing_table}

-- the bytes of a text in ASCII
ascii : String → List ℕ
ascii nil = []
ascii (cons c s) = code c ∷ ascii s

-- a table's numbers, one after another
flat : List Node → List ℕ
flat [] = []
flat (n ∷ ns) = n.parent ∷ n.depth ∷ flat ns

same_answer : Answer (List ℕ × ℕ × List Node) → Answer (List ℕ × ℕ × List ℕ) → Bool
unfolding same flat
same_answer (refused n l) (refused m k) = eqb n m && eqb l k
same_answer (refused n l) (yes b) = false
same_answer (yes a) (refused m k) = false
same_answer (yes a) (yes b) = same a.0 b.0 && eqb a.1 b.1 && same (flat a.2) b.2

listed : Answer (List ℕ) → List ℕ
listed (refused n l) = []
listed (yes xs) = xs

-- a text with the catalogue that reading it gives, the room of the output and of the table, and the answer
pub data Case : Type 0 where
  case : String → ℕ → ℕ → Answer (List ℕ × ℕ × List ℕ) → Case

holds : Case → Bool
unfolding ascii same_answer listed reading leafing_table
holds (case t room seats a) = same_answer (leafing_table (ascii t) (listed (reading (ascii t) 1000)) room seats) a

pub hold_all : List Case → Bool
unfolding holds
hold_all [] = true
hold_all (c ∷ cs) = holds c && hold_all cs

pg0-pg3 : String
pg0-pg3 = "@PG\tID:pg0\n@PG\tID:pg1\tPP:pg0\n@PG\tID:pg2\tPP:pg1\n@PG\tID:pg3\n"

pub cases : List Case
unfolding pg0-pg3
cases =
    case pg0-pg3 4 4 (yes (3 ∷ 2 ∷ [], 3, 4294967295 ∷ 0 ∷ 0 ∷ 1 ∷ 1 ∷ 2 ∷ 4294967295 ∷ 0 ∷ []))
    ∷ case "@PG\tID:c\tPP:b\n@PG\tID:b\tPP:a\n@PG\tID:a\n" 1 3 (yes (0 ∷ [], 3, 1 ∷ 2 ∷ 2 ∷ 1 ∷ 4294967295 ∷ 0 ∷ []))
    ∷ case pg0-pg3 4 3 (refused 20 0)
    ∷ case pg0-pg3 1 4 (refused 20 0)
    ∷ case "@PG\tID:c\tPP:a\n@PG\tID:a\tPP:b\n@PG\tID:b\tPP:a\n" 3 0 (refused 23 0)
    ∷ case "@PG\tID:a\tPP:a\n" 1 1 (refused 23 0)
    ∷ case "@PG\tID:a\tPP:b\n" 0 0 (refused 22 0)
    ∷ case "@CO\t\n" 0 0 (yes ([], 0, []))
    ∷ []

pub corners : hold_all cases ≡ true
unfolding hold_all cases
corners = refl
