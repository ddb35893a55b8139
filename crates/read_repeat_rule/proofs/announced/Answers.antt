-- `read_repeat_rule::announced` meets its contract: after `@HD` and a tab the pieces decide, and otherwise nothing is announced.
use mathlib.Core.Path.{refl, sym, ◌∙◌}
use mathlib.Core.List.{[], ◌∷◌}
use Prim.Native.Nat.{◌≤◌}
use lib.ListN.{length}
use Rattle.format.specs.Reading.{announced}
use Rattle.field.specs.Spelled.{parsed_version_of}
use Rattle.byte_slices.proofs.Before.{rest}
use Rattle.read_repeat_rule.proofs.First.{starts-long}
use Rattle.read_repeat_rule.proofs.announced.Goals as goal
use Rattle.read_repeat_rule.proofs.announced.Goals.{Then-starts}

four : (c : Then-starts) → 4 ≤ length c.args.line.now
four c = starts-long (64 ∷ 72 ∷ 68 ∷ 9 ∷ []) _ (sym c.starts.ensures ∙ c.if-starts.true)

pub slice_bounds-first_version-count : goal.slice_bounds-first_version-count
slice_bounds-first_version-count c = four c

pub slice_bounds-first_version-start : goal.slice_bounds-first_version-start
slice_bounds-first_version-start c = four c

pub returns-then-starts : goal.returns-then-starts
unfolding announced
returns-then-starts c =
    let s = c.args.line.now in
    c.first_version.ensures ∙ rw (rest 4 s, sym c.starts.ensures ∙ c.if-starts.true) refl

pub returns : goal.returns
unfolding announced parsed_version_of
returns c = rw (sym c.starts.ensures ∙ c.if-starts.false) refl
