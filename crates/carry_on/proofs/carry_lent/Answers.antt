-- `carry_on::carry_lent` meets its contract: what the area held before does not matter, since each block of lines empties it.
use Prim.Native.Nat.{◌≤◌}
use mathlib.Core.Path.{◌≡◌, refl, sym}
use native.Mathlib.Omega.{arith}
use lib.ListN.{length, take}
use lib.Seq.{length-take-le}
use Rattle.carry_on.proofs.carry_lent.Goals as goal
use Rattle.carry_on.proofs.carry_lent.Goals.{After-min-n}

pub returns-then-text-le-MIDDLE : goal.returns-then-text-le-MIDDLE
returns-then-text-le-MIDDLE c = let e = c.carry_small.ensures in record {
  answer = e.answer;
  wrote = e.wrote;
  listed = e.listed;
  room = refl;
}

pub returns-then-n-le-OWN_SLOTS : goal.returns-then-n-le-OWN_SLOTS
returns-then-n-le-OWN_SLOTS c = let e = c.carry_small-then-n-le-OWN_SLOTS.ensures in record {
  answer = e.answer;
  wrote = e.wrote;
  listed = e.listed;
  room = refl;
}

-- the front is within the area
within : (c : After-min-n) → c.min-n.result ≤ length c.args.area.now
within c = omega (arith, c.min-n.ensures)

pub slice_bounds-front-end : goal.slice_bounds-front-end
slice_bounds-front-end c = within (goal.at.slice_bounds-front-end c).After-min-n

pub slice_bounds-front-end-2 : goal.slice_bounds-front-end-2
slice_bounds-front-end-2 c = sym (length-take-le _ _ (within (goal.at.slice_bounds-front-end-2 c).After-min-n))

pub carry_indexed-requires : goal.carry_indexed-requires
carry_indexed-requires c =
    let long : length (take c.min-n.result c.args.area.now) ≡ c.min-n.result = length-take-le _ _ (within (goal.at.carry_indexed-requires c).After-min-n) in record {
      text_len_bound = c.requires;
      in_bounds = omega (arith, c.if-n-le-OWN_SLOTS.false);
    }
