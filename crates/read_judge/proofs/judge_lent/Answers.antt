-- `read_judge::judge_lent` meets its contract: an area that has been emptied holds no key.
use Prim.Native.Nat.{◌≤◌}
use mathlib.Core.Path.{◌≡◌, sym, ap, ◌∙◌}
use native.Mathlib.Omega.{arith}
use lib.ListN.{length, take, replicate, length-replicate}
use lib.Seq.{length-take-le}
use Rattle.format.proofs.Slots.{held_none}
use Rattle.key_index.specs.KeySlots.{start}
use Rattle.read_judge.proofs.judge_lent.Goals as goal
use Rattle.read_judge.proofs.judge_lent.Goals.{After-min-n}

-- the front is within the area
within : (c : After-min-n) → c.min-n.result ≤ length c.args.area.now
within c = omega (arith, c.min-n.ensures)

pub slice_bounds-front-end : goal.slice_bounds-front-end
slice_bounds-front-end c = within (goal.at.slice_bounds-front-end c).After-min-n

pub slice_bounds-front-end-2 : goal.slice_bounds-front-end-2
slice_bounds-front-end-2 c = sym (length-take-le _ _ (within (goal.at.slice_bounds-front-end-2 c).After-min-n))

pub judge_indexed-requires : goal.judge_indexed-requires
judge_indexed-requires c =
    let n = c.min-n.result in
    let area = c.args.area.now in
    let e : c.clear.new.area ≡ replicate (length (take n area)) 0 = c.clear.ensures in
    let long : length c.clear.new.area ≡ n = ap length e ∙ length-replicate (length (take n area)) 0 ∙ length-take-le n area (within (goal.at.judge_indexed-requires c).After-min-n) in record {
      text_len_bound = c.requires;
      in_bounds = omega (arith, long, c.if-n-le-OWN_SLOTS.false);
      held = rw e (held_none (start _ _ _) (length (take n area)));
    }
