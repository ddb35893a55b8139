-- `read_repeat_rule::is_strict` meets its contract: line 0 is the first line, and a text with none announces nothing.
use mathlib.Core.Path.{◌≡◌, refl, sym, ap, ◌∙◌}
use mathlib.Core.Bool.{false}
use mathlib.Core.Option.{Option, none, some}
use native.Mathlib.Omega.{arith}
use lib.Seq.{length-take-le}
use Rattle.format.specs.Reading.{is_strict}
use Rattle.format.specs.declared.Version.{Version}
use Rattle.byte_slices.proofs.First.{first-le, first-within}
use Rattle.read_repeat_rule.specs.Rule.{strict_after}
use Rattle.read_repeat_rule.proofs.First.{announced-first}
use Rattle.read_repeat_rule.proofs.is_strict.Goals as goal

-- before any version they are allowed
lax : (o : Option Version) → strict_after false o ≡ is_strict o
unfolding strict_after is_strict
lax none = refl
lax (some v) = refl

pub slice_bounds-is_strict_after-end : goal.slice_bounds-is_strict_after-end
slice_bounds-is_strict_after-end c =
    let s = c.args.text.now in
    sym (length-take-le _ s (rw c.first_line-line.ensures (omega (arith, first-le s, first-within s))))

pub returns : goal.returns
returns c =
    let t = c.args.text.now in
    c.is_strict_after.ensures ∙ lax _ ∙ ap is_strict (rw c.first_line-line.ensures (sym (announced-first t)))
