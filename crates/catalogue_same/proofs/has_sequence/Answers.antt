-- `catalogue_same::has_sequence` meets its contract: the byte of kind and the name's place, the LN after them, and the line.
use Prim.Native.Nat.{ℕ, ◌+◌, ◌<◌}
use mathlib.Core.Path.{◌≡◌, refl, sym, ap, ap₂, ◌∙◌}
use mathlib.Core.Bool.{true, ◌&&◌}
use mathlib.Core.List.{◌∷◌, ◌++◌}
use native.Mathlib.Omega.{arith}
use native.Mathlib.Nat.{add_assoc}
use lib.ListN.{take, drop, get_or}
use lib.Dec.{eqb}
use borrow.Author.Rules.{rules}
use borrow.Author.Tests.{eq-eqb, ne_eqb, not-true, not-false}
use Rattle.format.specs.Bytes.{starts}
use Rattle.format.specs.Catalogue.{little}
use Rattle.format.specs.Little.{of_little}
use Rattle.catalogue_entries.specs.declared.Entry.TheVariants as entry
use Rattle.catalogue_entries.specs.Entries.{place_bytes, entry_bytes}
use Rattle.catalogue_same.proofs.Starts.{starts-number, starts-then}
use Rattle.catalogue_same.proofs.has_sequence.Goals as goal
use Rattle.catalogue_same.proofs.has_sequence.Goals.{After-shared_slice_known-1, Else-not-has_kind}

-- in three parts
parts : (k : After-shared_slice_known-1)
    → (let a = k.args in let s = k.args.s.now in
    starts (entry_bytes (entry.ReferenceSequence a.name a.n a.line)) (drop a.at s)
    ≡ (starts (2 ∷ little 4 a.name.at ++ little 4 a.name.len) (drop a.at s) && (eqb (of_little (take 8 (drop (a.at + 9) s))) a.n && eqb (of_little (take 4 (drop (a.at + 17) s))) a.line)))
unfolding entry_bytes place_bytes little
parts k =
    let a = k.args in
    let s = k.args.s.now in
    let front = 2 ∷ little 4 a.name.at ++ little 4 a.name.len in
    let bytes : (i : ℕ) → get_or s i 0 < 256 = λ i. omega (arith, k.shared_slice_known-1.given i) in
    starts-then s a.at front (little 8 a.n ++ little 4 a.line) 9 refl
    ∙ ap (λ t. starts front (drop a.at s) && t)
    (starts-then s (a.at + 9) (little 8 a.n) (little 4 a.line) 8 refl
    ∙ ap₂ (λ t u. t && u)
    (starts-number s (a.at + 9) 8 a.n (search rules) (omega arith) bytes)
    (ap (λ n. starts (little 4 a.line) (drop n s)) (add_assoc a.at 9 8) ∙ starts-number s (a.at + 17) 4 a.line (search rules) (omega arith) bytes))

pub returns-then-not-has_kind : goal.returns-then-not-has_kind
returns-then-not-has_kind c =
    sym (parts (goal.at.returns-then-not-has_kind c).After-shared_slice_known-1 ∙ rw (sym c.has_kind.ensures ∙ not-true c.has_kind.result c.if-not-has_kind.true-raw) refl)

-- the byte of kind and the name's place are there
there : (c : Else-not-has_kind) → (let a = c.args in starts (2 ∷ little 4 a.name.at ++ little 4 a.name.len) (drop a.at a.s.now) ≡ true)
there c = sym c.has_kind.ensures ∙ not-false c.has_kind.result c.if-not-has_kind.false-raw

pub returns-then-get_u64-n : goal.returns-then-get_u64-n
returns-then-get_u64-n c =
    sym (parts (goal.at.returns-then-get_u64-n c).After-shared_slice_known-1
    ∙ rw (there (goal.at.returns-then-get_u64-n c).Else-not-has_kind, ne_eqb _ c.args.n (λ e. c.if-get_u64-n.true (c.get_u64.ensures ∙ e))) refl)

pub returns : goal.returns
returns c =
    let a = c.args in
    ap (λ n. eqb n a.line) c.get_u32.ensures
    ∙ sym (parts (goal.at.returns c).After-shared_slice_known-1 ∙ rw (there (goal.at.returns c).Else-not-has_kind, eq-eqb _ a.n (sym c.get_u64.ensures ∙ c.if-get_u64-n.false)) refl)
