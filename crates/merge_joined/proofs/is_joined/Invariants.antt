use Prim.Native.Nat.{ℕ, ◌+◌, ◌-◌}
use mathlib.Core.Path.{◌≡◌}
use mathlib.Core.Bool.{true, false, ◌&&◌, cond}
use mathlib.Core.List.{List, []}
use lib.ListN.{length}
use Rattle.binary_references.specs.Next.{sq_from, told_list}
use Rattle.format.specs.Merge.{is_joined}
use Rattle.merge_references.specs.Joining.{left_of}
use Rattle.merge_joined.specs.declared.Rules.{Rules}
use Rattle.merge_joined.specs.declared.Left.{Left}
use Rattle.merge_joined.specs.Passing.{Reached}
use Rattle.merge_joined.proofs.is_joined.Given as goal

-- what is left decides: B's references from here on, and the merged reference ahead
abbrev pub Leads : List ℕ → List ℕ → List ℕ → Rules → Left → Type 0
Leads a b m of left =
    (is_joined (sq_from of.a a 0) (sq_from of.b b 0) (sq_from of.merged m 0) ≡ left.good && left_of (sq_from of.a a 0) (sq_from of.b b left.at) (told_list of.merged m left.ahead))
    × Reached (sq_from of.a a 0) b of.merged m left
    × (left.more ≡ true → left.good ≡ true)
    × (left.more ≡ false → left.good ≡ true → sq_from of.b b left.at ≡ [])

abbrev pub invariant-loop-left : goal.invariant-loop-left
invariant-loop-left l = Leads l.a l.b l.m l.of l.left

abbrev pub decreases-loop-left : goal.decreases-loop-left
decreases-loop-left l = cond l.left.more 1 0 + (length l.b - l.left.at)
