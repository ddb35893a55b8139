-- The links that the numbers of parents mean, and the faults found from them.
use Rattle.std.specs.Prelude.{ℕ, zero, suc, ◌+◌, ◌<◌, cond, List, map, length, get_or, eqb, ltb}
use Rattle.format.specs.Programs.{Link, root, dangling, child}
use Rattle.fault_programs.specs.Plain.{one_if}
use Rattle.format.specs.Faults.{link_fault}

-- 4,294,967,294 is a stranger, and the number above it is nobody
unfoldable pub link_in : ℕ → Link
link_in p = cond (ltb p 4294967294) (child p) (cond (eqb p 4294967294) dangling root)

abbrev pub links_in : List ℕ → List Link
links_in ps = map link_in ps

-- each parent that is neither is one of the programs
abbrev pub Within : List ℕ → Type 0
Within ps = (k : ℕ) → k < length ps → get_or ps k 0 < 4294967294 → get_or ps k 0 < length ps

-- how many of `m` programs from `i` on are faulty
unfoldable pub link_count : List Link → ℕ → ℕ → ℕ
unfolding one_if link_fault
link_count ks i zero = 0
link_count ks i (suc m) = one_if (link_fault ks i) + link_count ks (i + 1) m

-- 0, or why a line is faulty: `n` is its fault that does not depend on links, `i` programs are kept before it, and `j` including it
unfoldable pub step_fault : List Link → ℕ → ℕ → ℕ → ℕ
unfolding link_fault
step_fault ks i j zero = cond (eqb j i) 0 (link_fault ks i)
step_fault ks i j (suc n) = suc n
