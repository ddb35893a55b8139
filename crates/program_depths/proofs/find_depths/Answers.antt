-- `program_depths::find_depths` meets its contract: all depths before `i` are known, and their sum with those to come is the hops.
use Prim.Native.Nat.{ℕ, ◌<◌}
use mathlib.Core.Path.{◌≡◌, refl, sym, ap, ap₂, subst, ◌∙◌}
use mathlib.Core.Bool.{Bool, true, false, not, cond, false≢true}
use mathlib.Core.List.{List, map}
use native.Mathlib.Omega.{arith}
use lib.ListN.{length, get_or, replicate}
use Rattle.std.specs.Prelude.{Some, None}
use Rattle.format.specs.Programs.{Link, loops_from, depth, hops}
use Rattle.program_chains.specs.Parents.{links_of, in_array}
use Rattle.program_chains.proofs.Arrays.{array-length}
use Rattle.program_depths.specs.Depths.{deep, KnownRight, depths_of}
use Rattle.program_depths.proofs.Deep.{deep-cycle, deep-acyclic}
use Rattle.program_depths.proofs.Noting.{Reached, Behind, unknown-count, noted-none, reached-more, reached-kept, array_behind, behind-kept, all-less, all-depths, sum-turn, sum-spent}
use Rattle.program_depths.proofs.find_depths.Goals as goal
use Rattle.program_depths.proofs.find_depths.Goals.{Else-not-learn}

is_false : (t : Bool) → not t ≡ true → t ≡ false
is_false true e = absurd (false≢true e)
is_false false e = refl

is_true : (t : Bool) → not t ≡ false → t ≡ true
is_true true e = refl
is_true false e = absurd (false≢true (sym e))

pub unknown-list-requires : goal.unknown-list-requires
unknown-list-requires c = omega arith

pub loop-i-init : goal.loop-i-init
unfolding hops
loop-i-init c =
    let ps = c.args.parents.now in
    let is = c.unknown-list.ensures in
    let n = unknown-count (length ps) in (
      omega arith,
      omega arith,
      subst (KnownRight ps) (sym is) (noted-none ps),
      (λ k h. absurd (omega arith)),
      ap length is ∙ array-length (replicate (length ps) 4294967295) (omega (arith, n, c.requires.parents_len_bound)),
      subst (λ l. Behind l (length ps)) (sym is) (array_behind (replicate (length ps) 4294967295) (length ps) n),
    )

pub learn-requires : goal.learn-requires
learn-requires c =
    let l = c.loop-i in record {
      parents_value = c.requires.parents_value;
      parents_len_bound = c.requires.parents_len_bound;
      i_in_bounds = c.loop-i-test.true;
      known_right = l.invariant.2;
    }

-- what is answered: nothing where there is a cycle, or every depth
module _ (ps : List ℕ) where
  abbrev ls : List Link
  ls = links_of ps

  none : loops_from ls 0 ls ≡ true → None ≡ depths_of ls
  unfolding depths_of
  none e = sym (ap (λ t. cond t None (Some (record { list = in_array (map (depth ls (length ls)) ls); hops = hops ls }))) e)

  every : (ds : List ℕ) (n : ℕ) → loops_from ls 0 ls ≡ false → ds ≡ in_array (map (depth ls (length ls)) ls) → n ≡ hops ls
      → Some (record { list = ds; hops = n }) ≡ depths_of ls
  unfolding depths_of
  every ds n e d h =
      ap₂ (λ l s. Some (record { list = l; hops = s })) d h
      ∙ sym (ap (λ t. cond t None (Some (record { list = in_array (map (depth ls (length ls)) ls); hops = hops ls }))) e)

pub returns-then-not-learn : goal.returns-then-not-learn
returns-then-not-learn c =
    let ps = c.args.parents.now in
    none ps (deep-cycle ps c.requires.parents_value c.loop-i.i c.loop-i-test.true (c.learn.ensures.endless (is_false c.learn.result c.if-not-learn.true-raw)))

abbrev ps : (c : Else-not-learn) → List ℕ
ps c = c.args.parents.now

abbrev i : (c : Else-not-learn) → ℕ
i c = c.loop-i.i

abbrev ds : (c : Else-not-learn) → List ℕ
ds c = c.learn.new.depths

here : (c : Else-not-learn) → (i c) < length (ps c)
here c = c.loop-i-test.true

known : (c : Else-not-learn) → get_or (ds c) (i c) 0 ≡ 4294967295 → ⊥
known c = c.learn.ensures.known (is_true c.learn.result c.if-not-learn.false-raw)

noted : (c : Else-not-learn) → KnownRight (ps c) (ds c)
noted c = c.learn.ensures.noted

right : (c : Else-not-learn) → (get_or (ds c) (i c) 0 ≡ deep (ps c) (i c)) × (deep (ps c) (i c) < length (ps c))
right c = (noted c) (i c) (here c) (known c)

pub overflow_add-hops : goal.overflow_add-hops
overflow_add-hops c = let p = (goal.at.overflow_add-hops c).Else-not-learn in omega (arith, here p, c.requires.parents_len_bound, (right p).0, (right p).1, c.loop-i.invariant.0)

pub loop-i-preserved : goal.loop-i-preserved
loop-i-preserved c =
    let p = (goal.at.loop-i-preserved c).Else-not-learn in
    let l = c.loop-i in (
      omega (arith, here p, c.requires.parents_len_bound, (right p).0, (right p).1, l.invariant.0),
      omega (arith, l.invariant.1, (right p).0, sum-turn (ps p) (i p) (here p)),
      noted p,
      reached-more (ds p) (i p) (reached-kept l.list (ds p) (i p) c.learn.ensures.kept l.invariant.3) (known p),
      c.learn.ensures.sized ∙ l.invariant.4,
      behind-kept l.list (ds p) (length (ps p)) c.learn.ensures.kept l.invariant.5,
    )

pub returns : goal.returns
returns c =
    let l = c.loop-i in
    let ps = c.args.parents.now in
    let all : length ps ≡ l.i = omega (arith, c.loop-i-test.false) in
    let reached : Reached l.list (length ps) = subst (Reached l.list) (sym all) l.invariant.3 in
    every ps l.list l.hops
    (deep-acyclic ps c.requires.parents_value (all-less ps l.list l.invariant.4 c.requires.parents_len_bound l.invariant.2 reached))
    (all-depths ps l.list l.invariant.4 c.requires.parents_len_bound l.invariant.2 reached l.invariant.5)
    (omega (arith, l.invariant.1, sum-spent ps l.i c.loop-i-test.false))
