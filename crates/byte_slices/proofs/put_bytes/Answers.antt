-- `byte_slices::put_bytes` meets its contract: after i steps the first i bytes are pasted. Assumes nothing.
use Prim.Native.Nat.{ℕ, ◌+◌}
use mathlib.Core.Path.{◌≡◌, refl, sym, ap, ◌∙◌}
use mathlib.Core.List.{List}
use native.Mathlib.Omega.{arith}
use native.Mathlib.Numerals.{add-one}
use lib.ListN.{length, length-set, set, get_or}
use lib.Seq.{paste, paste-zero, paste-suc, take-length}
use Rattle.byte_slices.specs.Over.{over}
use Rattle.byte_slices.proofs.put_bytes.Goals as goal

whole : (out₀ : List ℕ) (at : ℕ) (from : List ℕ) (i : ℕ) → i ≡ length from → paste out₀ at from i ≡ over out₀ at from
unfolding over
whole out₀ at from i e = rw (e, take-length from) refl

pub loop-i-init : goal.loop-i-init
loop-i-init c = (refl, paste-zero _ c.args.at c.args.from.now)

pub loop-i-preserved : goal.loop-i-preserved
loop-i-preserved c =
    let a = c.args in
    let l = c.loop-i in (
      simp length-set (omega arith),
      ap (λ o. set o (a.at + l.i) (get_or a.from.now l.i 0)) l.invariant.1
          ∙ paste-suc a.out.now a.at a.from.now l.i 0 (omega arith) (omega arith)
          ∙ ap (paste a.out.now a.at a.from.now) (sym (add-one l.i)),
    )

pub returns : goal.returns
returns c =
    let a = c.args in
    let l = c.loop-i in
    l.invariant.1 ∙ whole a.out.now a.at a.from.now l.i (omega arith)
