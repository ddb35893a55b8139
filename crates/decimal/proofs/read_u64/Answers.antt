-- `decimal::read_u64` meets its contract: it reads up to the largest number of 64 bits, and LN is refused by what it answers.
use mathlib.Core.Path.{sym, ap, ◌∙◌}
use Rattle.decimal.specs.Number.{number_refusal}
use Rattle.decimal.proofs.Refused.{length-refused}
use Rattle.decimal.proofs.read_u64.Goals as goal

pub returns : goal.returns
returns c = record {
  is = c.read_up_to.ensures;
  refusal = (λ at n e. length-refused c.args.s.now at n (ap number_refusal (sym c.read_up_to.ensures) ∙ e));
}
