-- `program_depths::unknown` meets its contract: after some steps as many depths are not known. Assumes nothing.
use Prim.Native.Nat.{ℕ, ◌+◌, ◌<◌}
use mathlib.Core.Path.{◌≡◌, refl, sym, ap, ◌∙◌}
use native.Mathlib.Omega.{arith}
use lib.ListN.{set, replicate, length-replicate, replicate-append-replicate}
use Rattle.program_chains.specs.Parents.{in_array}
use Rattle.program_chains.proofs.Arrays.{array-push}
use Rattle.program_depths.proofs.unknown.Goals as goal

turn : (i v : ℕ) → i < 1024 → set (in_array (replicate i v)) i v ≡ in_array (replicate (i + 1) v)
turn i v h =
    ap (λ n. set (in_array (replicate i v)) n v) (sym (length-replicate i v))
    ∙ array-push (replicate i v) v (omega (arith, length-replicate i v))
    ∙ ap in_array (replicate-append-replicate i 1 v)

pub loop-at-init : goal.loop-at-init
unfolding in_array
loop-at-init c = refl

pub loop-at-preserved : goal.loop-at-preserved
loop-at-preserved c =
    let l = c.loop-at in
    ap (λ r. set r l.at 4294967295) l.invariant ∙ turn l.at 4294967295 (omega arith)

pub returns : goal.returns
returns c =
    let l = c.loop-at in
    let all : l.at ≡ c.args.n = omega arith in
    l.invariant ∙ ap (λ n. in_array (replicate n 4294967295)) all
