-- `tidy_line::put_once` meets its contract: the line as it is where that is its record's text, else part by part.
use mathlib.Core.Path.{◌≡◌, sym, ap, ◌∙◌}
use mathlib.Core.Bool.{false}
use mathlib.Core.List.{[], ◌∷◌, ◌++◌}
use native.Mathlib.Omega.{arith}
use lib.ListN.{length, length-append}
use Rattle.format.specs.Records.{line}
use Rattle.accepted_line.proofs.fields.Start.{once-walkable}
use Rattle.accepted_line.proofs.Finds.{three}
use Rattle.tidy_line.specs.Line.{line_text}
use Rattle.tidy_line.proofs.Whole.{whole-text}
use Rattle.tidy_line.proofs.put_once.Goals as goal
use Rattle.tidy_line.proofs.put_once.Goals.{Then-is_neat}

whole : (t : Then-is_neat) → (let a = t.args in line_text (line false (record { at = a.at; bytes = a.src.now })) ≡ a.src.now ++ (10 ∷ []))
whole t =
    let a = t.args in
    whole-text a.at a.src.now t.requires.line_of.accepted t.requires.at_field a.kind t.requires.line_of.kind (sym t.is_neat.ensures ∙ t.if-is_neat.true)

pub is_neat-requires : goal.is_neat-requires
is_neat-requires c = three false c.args.at c.args.src.now c.requires.line_of.accepted

pub put_whole-requires : goal.put_whole-requires
put_whole-requires c =
    omega (arith, c.requires.src_in_bounds, ap length (whole (goal.at.put_whole-requires c).Then-is_neat), length-append c.args.src.now (10 ∷ []))

pub returns-then-is_neat : goal.returns-then-is_neat
returns-then-is_neat c =
    rw (whole (goal.at.returns-then-is_neat c).Then-is_neat) c.put_whole.ensures

pub put_parts-requires : goal.put_parts-requires
put_parts-requires c = record {
  line_of = c.requires.line_of;
  kind_value = c.requires.kind_value;
  walkable = once-walkable c.args.at c.args.src.now c.requires.at_field;
  src_in_bounds = c.requires.src_in_bounds;
}
