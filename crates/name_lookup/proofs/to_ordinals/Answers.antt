-- `name_lookup::to_ordinals` meets its contract: the numbers before `p-index` are ordinals.
use mathlib.Core.Path.{refl}
use native.Mathlib.Omega.{arith}
use Rattle.name_lookup.specs.Looking.{ordinal_at}
use Rattle.name_lookup.proofs.Mapped.{mapped-on, mapped-all}
use Rattle.name_lookup.proofs.to_ordinals.Goals as goal

pub loop-p-init : goal.loop-p-init
loop-p-init c = (refl, refl)

pub loop-p-preserved : goal.loop-p-preserved
loop-p-preserved c =
    let a = c.args in
    let l = c.loop-p in
    mapped-on (ordinal_at a.slots.now) a.out.now l.out l.p-index l.invariant (omega arith) c.ordinal_at.result c.ordinal_at.ensures

pub returns : goal.returns
returns c = let a = c.args in mapped-all (ordinal_at a.slots.now) a.out.now c.loop-p.out c.loop-p.p-index c.loop-p.invariant (omega arith)
