-- `replay_work::is_cleared` meets its contract: std asks each element.
use mathlib.Core.Path.{◌≡◌}
use Rattle.std.specs.Prelude.{IsTrue, EachIndex, slice_index, ◌↔◌}
use Rattle.std.proofs.Common.{rules}
use Rattle.replay_cases.proofs.Whole.{all-are}
use Rattle.replay_work.proofs.is_cleared.Goals as goal

pub returns : goal.returns
returns c =
    let s = c.args.list.now in
    let e : IsTrue c.all.result ↔ EachIndex s (λ k. slice_index s k ≡ 0) = search rules in
    all-are 0 c.all.result s e
