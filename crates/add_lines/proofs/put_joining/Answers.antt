-- `add_lines::put_joining` meets its contract: nothing, or `-` and the ID after it.
use Prim.Native.Nat.{◌+◌, ◌≤◌}
use mathlib.Core.Path.{refl, sym, ap, subst}
use mathlib.Core.List.{[], ◌∷◌}
use native.Mathlib.Omega.{arith}
use lib.ListN.{length, set, length-set}
use Rattle.tidy_parts.proofs.Wrote.{Wrote, wrote_then, wrote_one}
use Rattle.add_lines.proofs.Lines.{joining-none, joining-some, wrote_none}
use Rattle.add_lines.proofs.put_joining.Goals as goal

pub returns-then-alone : goal.returns-then-alone
returns-then-alone c = let a = c.args in
    let told = wrote_none a.out.now a.o _ (joining-none a.alone a.id.now c.if-alone.true) in
    record { next = told.0; wrote = told.1 }

pub bounds-out-o : goal.bounds-out-o
bounds-out-o c = omega (arith, c.requires, ap length (joining-some c.args.alone c.args.id.now c.if-alone.false))

pub put_slice-requires : goal.put_slice-requires
put_slice-requires c = simp length-set (omega (arith, c.requires, ap length (joining-some c.args.alone c.args.id.now c.if-alone.false)))

pub shape_of-out : goal.shape_of-out
shape_of-out c = simp length-set at c.put_slice.auto.out

pub returns : goal.returns
returns c =
    let a = c.args in
    let e = joining-some a.alone a.id.now c.if-alone.false in
    let h : a.o + length (45 ∷ a.id.now) ≤ length a.out.now = omega (arith, c.requires, ap length e) in
    let told = subst (Wrote a.out.now a.o c.put_slice.new.out c.put_slice.result) (sym e)
    (wrote_then a.out.now a.o (set a.out.now a.o 45) (a.o + 1) _ _ (45 ∷ []) a.id.now (refl, wrote_one a.out.now a.o 45 (omega (arith, h))) (c.put_slice.ensures.next, c.put_slice.ensures.wrote) h) in
    record { next = told.0; wrote = told.1 }
