-- `name_list::count_rest` meets its contract: the LFs are those that the filter lets through.
use Prim.Native.Nat.{ℕ, ◌-◌}
use mathlib.Core.Path.{◌≡◌, sym, ap, ◌∙◌}
use mathlib.Core.List.{List}
use native.Mathlib.Omega.{arith}
use lib.ListN.{length, take, drop, length-drop}
use lib.Seq.{take_all}
use Rattle.std.specs.Prelude.{count_by, ◌==◌}
use Rattle.std.proofs.Common.{rules}
use Rattle.name_list.specs.Ends.{ends}
use Rattle.name_list.proofs.Asked.{ends-counted, ends-few}
use Rattle.name_list.proofs.count_rest.Goals as goal

pub returns : goal.returns
returns c =
    let list : List ℕ = c.args.list.now in
    let rest : List ℕ = drop c.args.from list in
    let part : List ℕ = take (length list - c.args.from) rest in
    let n : c.count.result ≡ count_by (λ b. b == 10) part = search rules in
    let e : c.count.result ≡ ends rest = n ∙ sym (ends-counted part) ∙ ap ends (take_all _ rest (omega (arith, length-drop c.args.from list))) in
    (omega (arith, e, ends-few rest, length-drop c.args.from list), e)
