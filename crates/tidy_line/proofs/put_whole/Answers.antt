-- `tidy_line::put_whole` meets its contract: a copy, and a store after it.
use Prim.Native.Nat.{◌+◌}
use mathlib.Core.Path.{refl}
use mathlib.Core.List.{[], ◌∷◌}
use native.Mathlib.Omega.{arith}
use lib.ListN.{length, length-append}
use Rattle.tidy_parts.proofs.Wrote.{wrote_then, wrote_one}
use Rattle.tidy_line.proofs.put_whole.Goals as goal

pub returns : goal.returns
returns c =
    let a = c.args in
    let told = wrote_then a.out.now a.o _ _ _ _ a.line.now (10 ∷ []) (refl, c.put_bytes.ensures)
    (refl, wrote_one c.put_bytes.new.out (a.o + length a.line.now) 10 (omega (arith, c.requires, c.put_bytes.auto.out)))
    (omega (arith, c.requires, length-append a.line.now (10 ∷ []))) in
    record { next = told.0; wrote = told.1 }
