-- `catalogue_same::has_numbers` meets its contract: each number is what its bytes are worth.
use Prim.Native.Nat.{ℕ, ◌+◌, ◌<◌}
use mathlib.Core.Path.{◌≡◌, refl, sym, ap, ◌∙◌}
use mathlib.Core.Bool.{◌&&◌}
use mathlib.Core.List.{◌++◌}
use native.Mathlib.Omega.{arith}
use lib.ListN.{take, drop, get_or}
use lib.Dec.{eqb}
use borrow.Author.Rules.{rules}
use borrow.Author.Tests.{eq-eqb, ne_eqb}
use Rattle.format.specs.Bytes.{starts}
use Rattle.format.specs.Catalogue.{little}
use Rattle.format.specs.Little.{of_little}
use Rattle.little_endian.proofs.Little.{little-length}
use Rattle.catalogue_same.proofs.Starts.{starts-number, starts-then}
use Rattle.catalogue_same.proofs.has_numbers.Goals as goal
use Rattle.catalogue_same.proofs.has_numbers.Goals.{After-shared_slice_known-1}

-- by the two numbers that are read
numbers : (k : After-shared_slice_known-1)
    → (let a = k.args in let s = k.args.s.now in
    starts (little 4 a.a ++ little 4 a.b) (drop a.at s) ≡ (eqb (of_little (take 4 (drop a.at s))) a.a && eqb (of_little (take 4 (drop (a.at + 4) s))) a.b))
numbers k =
    let a = k.args in
    let s = k.args.s.now in
    let bytes : (i : ℕ) → get_or s i 0 < 256 = λ i. omega (arith, k.shared_slice_known-1.given i) in
    starts-then s a.at (little 4 a.a) (little 4 a.b) 4 (little-length 4 a.a)
    ∙ ap (λ t. t && starts (little 4 a.b) (drop (a.at + 4) s)) (starts-number s a.at 4 a.a (search rules) (omega arith) bytes)
    ∙ ap (λ t. eqb (of_little (take 4 (drop a.at s))) a.a && t) (starts-number s (a.at + 4) 4 a.b (search rules) (omega arith) bytes)

pub returns-then-get_u32-a : goal.returns-then-get_u32-a
returns-then-get_u32-a c =
    sym (numbers (goal.at.returns-then-get_u32-a c).After-shared_slice_known-1 ∙ rw (ne_eqb _ c.args.a (λ e. c.if-get_u32-a.true (c.get_u32.ensures ∙ e))) refl)

pub returns : goal.returns
returns c =
    let a = c.args in
    ap (λ n. eqb n a.b) c.get_u32-2.ensures
    ∙ sym (numbers (goal.at.returns c).After-shared_slice_known-1 ∙ rw (eq-eqb _ a.a (sym c.get_u32.ensures ∙ c.if-get_u32-a.false)) refl)
