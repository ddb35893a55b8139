-- `read_repeat_rule::is_strict_after` meets its contract: the version that is announced decides, or what held before.
use mathlib.Core.Path.{◌≡◌, refl, sym, ap, ◌∙◌}
use mathlib.Core.Bool.{Bool, not}
use mathlib.Core.Option.{Option, none, some}
use Rattle.format.specs.Reading.{is_strict}
use Rattle.format.specs.Version.{is_below}
use Rattle.format.specs.declared.Version.{Version}
use Rattle.field.specs.Spelled.{parsed_version_of}
use Rattle.std.specs.Prelude.{Some, None}
use Rattle.read_repeat_rule.specs.Rule.{strict_after}
use Rattle.read_repeat_rule.proofs.is_strict_after.Goals as goal

-- what an answer says of the version
none_stays : (s : Bool) (o : Option Version) → None ≡ parsed_version_of o → s ≡ strict_after s o
unfolding parsed_version_of strict_after
none_stays s none e = refl
none_stays s (some v) e = cc

some-decides : (s : Bool) (o : Option Version) (v : Version) → Some v ≡ parsed_version_of o → not (is_below v (record { major = 1; minor = 6 })) ≡ strict_after s o
unfolding parsed_version_of strict_after is_strict
some-decides s none v e = cc
some-decides s (some w) v e = let q : v ≡ w = cc in rw q refl

pub returns-in-None : goal.returns-in-None
returns-in-None c = none_stays _ _ (sym c.in-None.is ∙ c.announced.ensures)

pub returns-in-Some : goal.returns-in-Some
returns-in-Some c =
    ap not (c.is_below.ensures ∙ ap (is_below c.in-Some.version) c.default.ensures)
    ∙ some-decides _ _ _ (sym c.in-Some.is ∙ c.announced.ensures)
