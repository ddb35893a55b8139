-- `catalogue_same::has_lined` meets its contract: the byte of kind and two numbers, and the line after them.
use Prim.Native.Nat.{◌+◌}
use mathlib.Core.Path.{◌≡◌, refl, sym, ap, ◌∙◌}
use mathlib.Core.Bool.{◌&&◌}
use mathlib.Core.List.{◌∷◌, ◌++◌}
use native.Mathlib.Omega.{arith}
use lib.ListN.{take, drop}
use lib.Dec.{eqb}
use borrow.Author.Rules.{rules}
use borrow.Author.Tests.{not-true, not-false}
use Rattle.format.specs.Bytes.{starts}
use Rattle.format.specs.Catalogue.{little}
use Rattle.format.specs.Little.{of_little}
use Rattle.catalogue_same.proofs.Starts.{starts-number, starts-then}
use Rattle.catalogue_same.proofs.has_lined.Goals as goal
use Rattle.catalogue_same.proofs.has_lined.Goals.{After-shared_slice_known-1}

-- in two parts
parts : (k : After-shared_slice_known-1)
    → (let a = k.args in let s = k.args.s.now in
    starts (a.kind ∷ little 4 a.a ++ little 4 a.b ++ little 4 a.line) (drop a.at s)
    ≡ (starts (a.kind ∷ little 4 a.a ++ little 4 a.b) (drop a.at s) && eqb (of_little (take 4 (drop (a.at + 9) s))) a.line))
unfolding little
parts k =
    let a = k.args in
    let s = k.args.s.now in
    let front = a.kind ∷ little 4 a.a ++ little 4 a.b in
    starts-then s a.at front (little 4 a.line) 9 refl
    ∙ ap (λ t. starts front (drop a.at s) && t)
    (starts-number s (a.at + 9) 4 a.line (search rules) (omega arith) (λ i. omega (arith, k.shared_slice_known-1.given i)))

pub returns-then-not-has_kind : goal.returns-then-not-has_kind
returns-then-not-has_kind c =
    sym (parts (goal.at.returns-then-not-has_kind c).After-shared_slice_known-1 ∙ rw (sym c.has_kind.ensures ∙ not-true c.has_kind.result c.if-not-has_kind.true-raw) refl)

pub returns : goal.returns
returns c =
    ap (λ n. eqb n c.args.line) c.get_u32.ensures
    ∙ sym (parts (goal.at.returns c).After-shared_slice_known-1 ∙ rw (sym c.has_kind.ensures ∙ not-false c.has_kind.result c.if-not-has_kind.false-raw) refl)
