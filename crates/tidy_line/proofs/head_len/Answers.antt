-- `tidy_line::head_len` meets its contract: the parts that the head names are counted, and each is short.
use Prim.Native.Nat.{ℕ, ◌+◌, ◌≤◌}
use Rattle.std.proofs.Common.{rules}
use mathlib.Core.Path.{◌≡◌, sym, ap, subst, ◌∙◌}
use native.Mathlib.Omega.{arith}
use Rattle.decimal.proofs.Written.{written-short}
use Rattle.record.specs.declared.Head.{Head}
use Rattle.tidy_line.specs.Heads.{place_length, head_length}
use Rattle.tidy_parts.proofs.Sizes.{version-size}
use Rattle.tidy_line.proofs.head_len.Goals as goal
use Rattle.tidy_line.proofs.head_len.Goals.{After-len_u64, After-version_len, Start}

-- the head is `d`, and its key is short
short : (s : Start) (d : Head) → s.args.head ≡ d → place_length d ≤ 16777216
short s d e = subst (λ h. place_length h ≤ 16777216) e s.requires.1

length-by : (s : Start) (d : Head) → s.args.head ≡ d → (n : ℕ) → n ≡ head_length d s.args.others → n ≡ head_length s.args.head s.args.others
length-by s d e n q = q ∙ ap (λ h. head_length h s.args.others) (sym e)

-- a version is short
version-short : (c : After-version_len) → c.version_len.result ≤ 41
version-short c = let v = c.in-Header.v in omega (arith, c.version_len.ensures, version-size v, written-short v.major, written-short v.minor)

-- a number is
number_short : (c : After-len_u64) → (c.len_u64.result ≤ 20) × (c.in-ReferenceSequence.p.len ≤ 16777216)
number_short c = (omega (arith, c.len_u64.ensures, written-short c.in-ReferenceSequence.n), short (goal.at.After-len_u64 c).Start _ c.in-ReferenceSequence.is)

pub overflow_add-result : goal.overflow_add-result
overflow_add-result c = omega (arith, version-short c)

pub overflow_add-result-in-Header : goal.overflow_add-result-in-Header
overflow_add-result-in-Header c = omega (arith, version-short c, c.requires.0)

pub overflow_add-result-in-ReferenceSequence : goal.overflow_add-result-in-ReferenceSequence
overflow_add-result-in-ReferenceSequence c = omega (arith, short (goal.at.overflow_add-result-in-ReferenceSequence c).Start _ c.in-ReferenceSequence.is)

pub overflow_add-result-in-ReferenceSequence-2 : goal.overflow_add-result-in-ReferenceSequence-2
overflow_add-result-in-ReferenceSequence-2 c = omega (arith, number_short c)

pub overflow_add-result-in-ReferenceSequence-3 : goal.overflow_add-result-in-ReferenceSequence-3
overflow_add-result-in-ReferenceSequence-3 c = omega (arith, number_short c, c.requires.0)

pub returns-in-Header : goal.returns-in-Header
unfolding head_length
returns-in-Header c =
    length-by (goal.at.returns-in-Header c).Start _ c.in-Header.is _ (ap (λ n. 8 + n + c.args.others) c.version_len.ensures)

pub returns-in-ReferenceSequence : goal.returns-in-ReferenceSequence
unfolding head_length
returns-in-ReferenceSequence c =
    length-by (goal.at.returns-in-ReferenceSequence c).Start _ c.in-ReferenceSequence.is _ (ap (λ n. 12 + c.in-ReferenceSequence.p.len + n + c.args.others) c.len_u64.ensures)

pub returns-in-Refused : goal.returns-in-Refused
unfolding head_length
returns-in-Refused c = search rules

pub returns-in-ReadGroup : goal.returns-in-ReadGroup
unfolding head_length
returns-in-ReadGroup c = search rules
