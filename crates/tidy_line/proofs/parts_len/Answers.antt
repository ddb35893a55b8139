-- `tidy_line::parts_len` meets its contract: the head by the keys is the line's.
use mathlib.Core.Path.{refl, sym, ap, ◌∙◌}
use native.Mathlib.Omega.{arith}
use lib.ListN.{length}
use Rattle.accepted_line.proofs.Noting.{of_fields}
use Rattle.tidy_line.specs.Heads.{head_length}
use Rattle.tidy_line.proofs.Heads.{Told, told}
use Rattle.tidy_fields.proofs.Others.{others-short}
use Rattle.tidy_line.proofs.Sizes.{head-size, place_short}
use mathlib.Core.Bool.{false}
use Rattle.tidy_line.proofs.parts_len.Goals as goal
use Rattle.tidy_line.proofs.parts_len.Goals.{After-head_of}

shown : (c : After-head_of) → (let a = c.args in Told a.at a.src.now a.kind c.head_of.result)
shown c =
    let a = c.args in
    told a.at a.src.now c.requires.line_of.accepted a.kind c.requires.line_of.kind c.requires.kind_value c.head_of.result c.head_of.result c.head_of.ensures refl

pub head_of-requires : goal.head_of-requires
head_of-requires c = record {
  line_of = c.requires.line_of;
  keys_value = c.requires.keys_value;
}

pub head_len-requires : goal.head_len-requires
head_len-requires c =
    let a = c.args in
    let f = (of_fields a.kind a.at a.src.now c.requires.line_of c.requires.kind_value).0 in (
      omega (arith, c.requires.others_value, others-short false a.at a.src.now a.kind f, c.requires.line_of.short),
      omega (arith, place_short a.at a.src.now c.head_of.result (shown c).holds, c.requires.line_of.short),
    )

pub returns : goal.returns
returns c =
    let a = c.args in
    c.head_len.ensures
    ∙ ap (head_length c.head_of.result) c.requires.others_value
    ∙ sym (ap length (shown (goal.at.returns c).After-head_of).text ∙ head-size a.at a.src.now a.kind c.head_of.result (shown (goal.at.returns c).After-head_of).holds (shown (goal.at.returns c).After-head_of).kind-is)
