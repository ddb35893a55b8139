-- `carry_on::carry_on` meets its contract: by what reading says of the text.
use mathlib.Core.Path.{sym, ap, ◌∙◌}
use Rattle.accepted.specs.Read.{is_accepted}
use Rattle.read_judge.proofs.Whole.{text-accepted}
use Rattle.carry_on.proofs.carry_on.Goals as goal

pub carry_accepted-requires : goal.carry_accepted-requires
unfolding is_accepted
carry_accepted-requires c =
    let told = text-accepted c.args.text.now c.in-Ok.accepted (sym c.judge.ensures ∙ c.in-Ok.is) in record {
      text_value = ap is_accepted told.reads;
      reads_by = told.rule;
    }
