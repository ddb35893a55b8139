-- `catalogue_same::has_field` meets its contract: three bytes, and two numbers after them.
use Prim.Native.Nat.{◌+◌}
use mathlib.Core.Path.{◌≡◌, refl, sym, ap, ◌∙◌}
use mathlib.Core.Bool.{true, ◌&&◌}
use mathlib.Core.List.{◌∷◌, ◌++◌}
use native.Mathlib.Omega.{arith}
use native.Mathlib.Nat.{add_assoc}
use lib.ListN.{drop, get_or}
use lib.Dec.{eqb}
use borrow.Author.Tests.{eq-eqb, ne_eqb}
use Rattle.format.specs.Bytes.{starts}
use Rattle.format.specs.Catalogue.{little}
use Rattle.catalogue_entries.specs.declared.Entry.TheVariants as entry
use Rattle.catalogue_entries.specs.Entries.{place_bytes, entry_bytes}
use Rattle.catalogue_same.proofs.Starts.{starts-byte}
use Rattle.catalogue_same.proofs.has_field.Goals as goal
use Rattle.catalogue_same.proofs.has_field.Goals.{Else-s-at-ne6, Start}

-- byte by byte
parts : (s : Start)
    → (let a = s.args in let c = s.args.s.now in
    starts (entry_bytes (entry.Field a.a a.b a.value)) (drop a.at c)
    ≡ (eqb 6 (get_or c a.at 0) && (eqb a.a (get_or c (a.at + 1) 0) && (eqb a.b (get_or c (a.at + 2) 0) && starts (little 4 a.value.at ++ little 4 a.value.len) (drop (a.at + 3) c)))))
unfolding entry_bytes place_bytes
parts s =
    let a = s.args in
    let c = s.args.s.now in
    let xs = little 4 a.value.at ++ little 4 a.value.len in
    starts-byte c a.at 6 (a.a ∷ a.b ∷ xs) (omega arith)
    ∙ ap (λ t. eqb 6 (get_or c a.at 0) && t)
    (starts-byte c (a.at + 1) a.a (a.b ∷ xs) (omega arith)
    ∙ ap (λ t. eqb a.a (get_or c (a.at + 1) 0) && t)
    (ap (λ n. starts (a.b ∷ xs) (drop n c)) (add_assoc a.at 1 1)
    ∙ starts-byte c (a.at + 2) a.b xs (omega arith)
    ∙ ap (λ n. eqb a.b (get_or c (a.at + 2) 0) && starts xs (drop n c)) (add_assoc a.at 2 1)))

pub returns-then-s-at-ne6 : goal.returns-then-s-at-ne6
returns-then-s-at-ne6 c = sym (parts (goal.at.returns-then-s-at-ne6 c).Start ∙ rw (ne_eqb 6 _ (λ e. c.if-s-at-ne6.true (sym e))) refl)

-- the byte of kind is there
kind : (c : Else-s-at-ne6) → (let a = c.args in eqb 6 (get_or a.s.now a.at 0) ≡ true)
kind c = eq-eqb 6 _ (sym c.if-s-at-ne6.false)

pub returns-then-s-at : goal.returns-then-s-at
returns-then-s-at c =
    sym (parts (goal.at.returns-then-s-at c).Start ∙ rw (kind (goal.at.returns-then-s-at c).Else-s-at-ne6, ne_eqb c.args.a _ (λ e. c.if-s-at.true (sym e))) refl)

pub returns-then-s-at-2 : goal.returns-then-s-at-2
returns-then-s-at-2 c =
    sym (parts (goal.at.returns-then-s-at-2 c).Start ∙ rw (kind (goal.at.returns-then-s-at-2 c).Else-s-at-ne6, eq-eqb c.args.a _ (sym c.if-s-at.false), ne_eqb c.args.b _ (λ e. c.if-s-at-2.true (sym e))) refl)

pub returns : goal.returns
returns c =
    c.has_numbers.ensures ∙ sym (parts (goal.at.returns c).Start ∙ rw (kind (goal.at.returns c).Else-s-at-ne6, eq-eqb c.args.a _ (sym c.if-s-at.false), eq-eqb c.args.b _ (sym c.if-s-at-2.false)) refl)
