-- `key_at::is_same_block` meets its contract: the flag says whether the bytes that were passed go on, and what is after them decides.
use Prim.Native.Nat.{ℕ, ◌+◌}
use mathlib.Core.Path.{◌≡◌, sym, ap, ap₂, ◌∙◌}
use mathlib.Core.Bool.{Bool, ◌&&◌}
use native.Mathlib.Omega.{arith}
use lib.ListN.{drop}
use Rattle.format.specs.Bytes.{same}
use Rattle.key_at.specs.Word.{word}
use Rattle.key_at.proofs.Same.{byte-decides, one-differs, one_more}
use Rattle.key_at.proofs.is_same_block.Goals as goal
use Rattle.key_at.proofs.is_same_block.Goals.{then-not-goes_on, else-not-goes_on}

pub loop-j-preserved : goal.loop-j-preserved
loop-j-preserved c =
    let g = c.goes_on in
    let a = c.args in
    let i : ℕ = a.i + c.loop-j.j in
    let at : ℕ = a.at + c.loop-j.j in
    let y : i + 1 ≡ a.i + (c.loop-j.j + 1) = omega arith in
    let z : at + 1 ≡ a.at + (c.loop-j.j + 1) = omega arith in
    let r : Bool = same (drop (i + 1) a.key.now) (word (drop (at + 1) a.text.now)) in
    let all : Bool = c.loop-j.all in
    let one : same (drop a.i a.key.now) (word (drop a.at a.text.now)) ≡ (all && (g.result && r)) =
    c.loop-j.invariant
    ∙ ap (λ w. all && w) (byte-decides a.key.now a.text.now i at (omega arith) (omega arith))
    ∙ ap (λ w. all && (w && r)) (sym g.ensures) in
    let on : same (drop a.i a.key.now) (word (drop a.at a.text.now)) ≡ (c.if-not-goes_on.all && r) =
    elim c.if-not-goes_on.branch [
      | then-not-goes_on w ↦ one ∙ one-differs all g.result r w.if-not-goes_on.true ∙ ap (λ v. v && r) (sym w.all-is)
      | else-not-goes_on w ↦ one ∙ one_more all g.result r w.if-not-goes_on.false ∙ ap (λ v. v && r) (sym w.all-is)
    ] in
    on ∙ ap₂ (λ n m. c.if-not-goes_on.all && same (drop n a.key.now) (word (drop m a.text.now))) y z
