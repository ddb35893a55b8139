-- `key_look::hash::hash_words` meets its contract: the number so far and the words that are left lead to the same.
use Prim.Native.Nat.{◌+◌}
use mathlib.Core.Path.{◌≡◌, refl, sym, ap, ◌∙◌}
use native.Mathlib.Omega.{arith}
use lib.ListN.{take, drop}
use Rattle.format.specs.Little.{of_little}
use Rattle.key_look.specs.Hash.{mixed, words_from}
use Rattle.key_look.proofs.hash.Mixing.{mixed-lt, words-on, words-end}
use Rattle.key_look.proofs.hash.hash_words.Goals as goal

pub loop-i-init : goal.loop-i-init
loop-i-init c = (omega arith, omega arith, refl)

pub overflow_sub-id : goal.overflow_sub-id
overflow_sub-id c = omega arith

pub get_u32-requires : goal.get_u32-requires
get_u32-requires c = omega arith

pub mix-h-requires : goal.mix-h-requires
mix-h-requires c = (c.loop-i.invariant.1, omega arith)

pub overflow_add-i : goal.overflow_add-i
overflow_add-i c = omega arith

pub loop-i-smaller : goal.loop-i-smaller
loop-i-smaller c = omega arith

pub loop-i-preserved : goal.loop-i-preserved
loop-i-preserved c =
    let s = c.args.id.now in
    let e : c.mix-h.result ≡ mixed c.loop-i.h (of_little (take 4 (drop c.loop-i.i s))) = c.mix-h.ensures ∙ ap (mixed c.loop-i.h) c.get_u32.ensures in
    (omega arith, omega (arith, c.mix-h.ensures, mixed-lt c.loop-i.h c.get_u32.result), c.loop-i.invariant.2 ∙ words-on c.loop-i.h s c.loop-i.i (omega arith) ∙ ap (λ h. words_from h (drop (c.loop-i.i + 4) s)) (sym e))

pub returns : goal.returns
returns c =
    sym (c.loop-i.invariant.2 ∙ words-end c.loop-i.h c.args.id.now c.loop-i.i (omega arith))
