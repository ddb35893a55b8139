-- `seal::is_seal` meets its contract: all 32 bytes are compared.
use mathlib.Core.Path.{ap, ◌∙◌}
use Rattle.format.specs.Bytes.{same}
use Rattle.seal.proofs.is_seal.Goals as goal

pub returns : goal.returns
returns c =
    c.same.ensures ∙ ap (same c.args.seal.now) c.hash-own.ensures
