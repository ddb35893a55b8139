-- `tidy_neat::is_named_sequence` meets its contract: each test is one of the definition's.
use Prim.Native.Nat.{ℕ, ◌+◌, ◌-◌, ◌≤◌}
use mathlib.Core.Path.{◌≡◌, refl, sym, ap, ◌∙◌}
use mathlib.Core.Bool.{true, false, not, ◌&&◌}
use mathlib.Core.List.{List}
use native.Mathlib.Omega.{arith}
use lib.ListN.{length, drop, get_or, length-drop}
use lib.Seq.{take_all}
use lib.Dec.{eqb, ltb}
use borrow.Author.Tests.{eq-eqb, ne_eqb, ltb-false, not-true, not-false}
use Rattle.lists.proofs.Bools.{and_left}
use Rattle.tidy_name.specs.Runs.{name_run}
use Rattle.tidy_name.proofs.Runs.{name-within}
use Rattle.tidy_neat.specs.Neat.{has_tag, plain_length, named_before, named_sequence}
use Rattle.tidy_neat.proofs.is_named_sequence.Goals as goal
use Rattle.tidy_neat.proofs.is_named_sequence.Goals.{After-name_len-n, Else-not-has_tag, Else-not-is_plain_length}

module _ (s : List ℕ) (n : ℕ) where
  -- what is left to test after SN
  after_tag : has_tag s 3 83 78 ≡ true → n ≡ name_run (drop 7 s) → named_sequence s ≡ named_before s n
  unfolding named_sequence
  after_tag t e = ap (λ t. t && named_before s (name_run (drop 7 s))) t ∙ ap (named_before s) (sym e)

  no_name : n ≡ 0 → named_before s n ≡ false
  unfolding named_before
  no_name e = ap (λ t. not t && (plain_length s (7 + n) && eqb (get_or s (7 + n) 0) 9)) (eq-eqb n 0 e)

  -- and after the name
  after-name : (n ≡ 0 → ⊥) → named_before s n ≡ (plain_length s (7 + n) && eqb (get_or s (7 + n) 0) 9)
  unfolding named_before
  after-name z = ap (λ t. not t && (plain_length s (7 + n) && eqb (get_or s (7 + n) 0) 9)) (ne_eqb n 0 z)

  -- an LN has its tag
  long : plain_length s (7 + n) ≡ true → 7 + n + 3 ≤ length s
  unfolding plain_length has_tag
  long e =
      let i = 7 + n in
      let l = not (ltb (length s - i) 3) in
      let t = eqb (get_or s (i + 1) 0) 76 && eqb (get_or s (i + 2) 0) 78 in
      let f = ltb-false (length s - i) 3 (not-true (ltb (length s - i) 3) (and_left l t (and_left (l && t) (not (ltb (length s - i) 5) && not (eqb (get_or s (i + 4) 0) 48)) e))) in
      omega (arith, f)

-- SN comes first
flag : (e : Else-not-has_tag) → has_tag e.args.src.now 3 83 78 ≡ true
flag e = sym e.has_tag.ensures ∙ not-false e.has_tag.result e.if-not-has_tag.false-raw

-- its name
run : (u : After-name_len-n) → u.name_len-n.result ≡ name_run (drop 7 u.args.src.now)
run u =
    let s = u.args.src.now in
    u.name_len-n.ensures ∙ ap name_run (take_all (length s - 7) (drop 7 s) (omega (arith, length-drop 7 s)))

within : (u : After-name_len-n) → 7 + u.name_len-n.result ≤ length u.args.src.now
within u =
    let s = u.args.src.now in
    omega (arith, run u, name-within (drop 7 s), length-drop 7 s, u.requires)

-- the rest of the tests
rest : (u : After-name_len-n) → (let s = u.args.src.now in named_sequence s ≡ named_before s u.name_len-n.result)
rest u = after_tag u.args.src.now u.name_len-n.result (flag (goal.at.After-name_len-n u).Else-not-has_tag) (run u)

-- an LN comes next
plain : (g : Else-not-is_plain_length) → (plain_length g.args.src.now (7 + g.name_len-n.result) ≡ true)
plain g = sym g.is_plain_length.ensures ∙ not-false g.is_plain_length.result g.if-not-is_plain_length.false-raw

pub returns-then-not-has_tag : goal.returns-then-not-has_tag
unfolding named_sequence
returns-then-not-has_tag c = rw (sym c.has_tag.ensures ∙ not-true c.has_tag.result c.if-not-has_tag.true-raw) refl

pub returns-then-n-eq0 : goal.returns-then-n-eq0
returns-then-n-eq0 c = sym (rest (goal.at.returns-then-n-eq0 c).After-name_len-n ∙ no_name c.args.src.now c.name_len-n.result c.if-n-eq0.true)

pub overflow_add-n : goal.overflow_add-n
overflow_add-n c = omega (arith, within (goal.at.overflow_add-n c).After-name_len-n)

pub is_plain_length-requires : goal.is_plain_length-requires
is_plain_length-requires c = omega (arith, within (goal.at.is_plain_length-requires c).After-name_len-n)

pub returns-then-not-is_plain_length : goal.returns-then-not-is_plain_length
returns-then-not-is_plain_length c =
    let s = c.args.src.now in
    let n = c.name_len-n.result in
    let e : plain_length s (7 + n) ≡ false = sym c.is_plain_length.ensures ∙ not-true c.is_plain_length.result c.if-not-is_plain_length.true-raw in
    sym (rest (goal.at.returns-then-not-is_plain_length c).After-name_len-n ∙ after-name s n c.if-n-eq0.false ∙ ap (λ t. t && eqb (get_or s (7 + n) 0) 9) e)

pub overflow_add-result : goal.overflow_add-result
overflow_add-result c = omega (arith, within (goal.at.overflow_add-result c).After-name_len-n)

pub bounds-src-n : goal.bounds-src-n
bounds-src-n c =
    omega (arith, long c.args.src.now c.name_len-n.result (plain (goal.at.bounds-src-n c).Else-not-is_plain_length))

pub returns : goal.returns
returns c =
    let s = c.args.src.now in
    let n = c.name_len-n.result in
    sym (rest (goal.at.returns c).After-name_len-n ∙ after-name s n c.if-n-eq0.false ∙ ap (λ t. t && eqb (get_or s (7 + n) 0) 9) (plain (goal.at.returns c).Else-not-is_plain_length))
