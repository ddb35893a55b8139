-- `add::is_stray` meets its contract: the PP that is given is among the fields, and nobody has it as ID.
use lib.ListN.{length, take, drop}
use Rattle.format.specs.Fields.{last_of}
use Rattle.format.specs.Adding.{given}
use Rattle.program_ids.specs.Ids.{ids_at}
use Rattle.add_ids.specs.Taken.{is_among}
use Rattle.add.specs.Added.{stray}
use Rattle.add.proofs.Prior.{stray-nothing, stray-at}
use Prim.Native.Nat.{◌+◌, ◌-◌, ◌≤◌}
use mathlib.Core.Path.{◌≡◌, sym, ◌∙◌}
use mathlib.Core.Bool.{not}
use native.Mathlib.Omega.{arith}
use Rattle.add.proofs.is_stray.Goals as goal
use Rattle.add.proofs.is_stray.Goals.{In-Some}

-- where the PP is
stands : (c : In-Some)
    → let a = c.args in
    (c.in-Some.p.at + c.in-Some.p.len ≤ length a.fields.now)
    × (not (is_among (take (c.in-Some.p.at + c.in-Some.p.len - c.in-Some.p.at) (drop c.in-Some.p.at a.fields.now)) (ids_at a.text.now a.ids.now)) ≡ stray (ids_at a.text.now a.ids.now) (last_of 80 80 (given a.fields.now).fields))
stands c =
    stray-at (ids_at c.args.text.now c.args.ids.now) c.args.fields.now c.in-Some.p (sym c.requires.previous_value ∙ c.in-Some.is)

pub overflow_add-p : goal.overflow_add-p
overflow_add-p c = omega (arith, stands (goal.at.overflow_add-p c).In-Some)

pub slice_bounds-is_free-end : goal.slice_bounds-is_free-end
slice_bounds-is_free-end c = omega (arith, stands (goal.at.slice_bounds-is_free-end c).In-Some)

pub returns-in-None : goal.returns-in-None
returns-in-None c = stray-nothing (ids_at c.args.text.now c.args.ids.now) c.args.fields.now (sym c.requires.previous_value ∙ c.in-None.is)

pub returns-in-Some : goal.returns-in-Some
returns-in-Some c = c.is_free.ensures ∙ (stands (goal.at.returns-in-Some c).In-Some).1
