-- `tidy_parts::put_version` meets its contract: a number, a dot, a number.
use Prim.Native.Nat.{◌+◌}
use mathlib.Core.Path.{refl, ◌∙◌}
use mathlib.Core.List.{[], ◌∷◌}
use native.Mathlib.Omega.{arith}
use lib.ListN.{set, length-set}
use Rattle.format.specs.Decimal.{written}
use Rattle.tidy_parts.specs.Parts.{version_text}
use Rattle.tidy_parts.proofs.Wrote.{wrote_then, wrote_one}
use Rattle.tidy_parts.proofs.Sizes.{version-size}
use Rattle.tidy_parts.proofs.put_version.Goals as goal

pub write_u32-n-requires : goal.write_u32-n-requires
write_u32-n-requires c = omega (arith, version-size c.args.v)

pub bounds-out-n : goal.bounds-out-n
bounds-out-n c = omega (arith, version-size c.args.v)

pub overflow_add-n : goal.overflow_add-n
overflow_add-n c = omega (arith, version-size c.args.v)

pub write_u32-requires : goal.write_u32-requires
write_u32-requires c = simp length-set (omega (arith, version-size c.args.v))

pub shape_of-out : goal.shape_of-out
shape_of-out c = c.write_u32.auto.out ∙ simp length-set c.write_u32-n.auto.out

pub returns : goal.returns
unfolding version_text
returns c =
    let a = c.args in
    let size = version-size a.v in
    let mid = c.write_u32-n.new.out in
    let n = c.write_u32-n.result in
    let last = wrote_then mid n (set mid n 46) (n + 1) _ _ (46 ∷ []) (written a.v.minor) (refl, wrote_one mid n 46 (omega arith)) (c.write_u32.ensures.next, c.write_u32.ensures.wrote) (omega arith) in
    let told = wrote_then a.out.now a.o mid n _ _ (written a.v.major) (46 ∷ written a.v.minor) (c.write_u32-n.ensures.next, c.write_u32-n.ensures.wrote) last c.requires in
    record { next = told.0; wrote = told.1 }
