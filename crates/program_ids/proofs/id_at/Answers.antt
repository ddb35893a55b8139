-- `program_ids::id_at` meets its contract: the bytes at the place that the numbers say.
use Prim.Native.Nat.{◌+◌, ◌-◌, ◌*◌, ◌<◌}
use mathlib.Core.Path.{◌≡◌, sym, ap, ◌∙◌}
use native.Mathlib.Omega.{arith}
use lib.ListN.{length, get_or, take, drop}
use Rattle.program_ids.specs.Ids.{ids_at}
use Rattle.program_ids.proofs.Ids.{ids-length, placed-inside, ids_at_lem}
use Rattle.program_ids.proofs.id_at.Goals as goal
use Rattle.program_ids.proofs.id_at.Goals.{Start}

-- the program is one of those that are there
early : (c : Start) → let a = c.args in a.k < length (ids_at a.text.now a.ids.now)
early c =
    omega (arith, c.requires.k_in_bounds, ids-length c.args.text.now c.args.ids.now c.requires.ids_in_text)

pub slice_bounds-result-end : goal.slice_bounds-result-end
slice_bounds-result-end c =
    omega (arith, placed-inside c.args.text.now c.args.ids.now c.requires.ids_in_text c.args.k (early (goal.at.slice_bounds-result-end c).Start))

pub returns-clause-value : goal.returns-clause-value
returns-clause-value c =
    let a = c.args in
    let len : get_or a.ids.now (a.k * 3) 0 + get_or a.ids.now (a.k * 3 + 1) 0 - get_or a.ids.now (a.k * 3) 0 ≡ get_or a.ids.now (a.k * 3 + 1) 0 = omega arith in
    ap (λ n. take n (drop (get_or a.ids.now (a.k * 3) 0) a.text.now)) len
    ∙ sym (ids_at_lem a.text.now a.ids.now c.requires.ids_in_text a.k (early (goal.at.returns-clause-value c).Start))
