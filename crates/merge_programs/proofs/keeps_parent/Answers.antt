-- `merge_programs::keeps_parent` meets its contract: a program without PP, an image without, and the image of the parent.
use Prim.Native.Nat.{ℕ, ◌<◌}
use mathlib.Core.Path.{◌≡◌, refl, sym, ap, ap₂, ◌∙◌}
use mathlib.Core.Bool.{Bool, true, false, ◌||◌, cond}
use lib.ListN.{length}
use lib.Dec.{eqb, ltb}
use borrow.Author.Tests.{eq-eqb, ne_eqb, ltb-true}
use Rattle.format.specs.Programs.{root, child}
use Rattle.program_chains.specs.Parents.{nobody, link_of}
use Rattle.format.specs.Merge.{is_root, is_child_of, keeps_parent}
use Rattle.merge_programs.proofs.keeps_parent.Goals as goal

is-root : (p : ℕ) → p ≡ 4294967295 → link_of p ≡ root
unfolding link_of nobody
is-root p e = ap (λ b. cond b root (child p)) (eq-eqb p 4294967295 e)

is-child : (p : ℕ) → (p ≡ 4294967295 → ⊥) → link_of p ≡ child p
unfolding link_of nobody
is-child p n = ap (λ b. cond b root (child p)) (ne_eqb p 4294967295 n)

root_is : (p : ℕ) → is_root (link_of p) ≡ eqb p 4294967295
unfolding link_of nobody is_root
root_is p = go (eqb p 4294967295)
  where
    go : (b : Bool) → is_root (cond b root (child p)) ≡ b
    go true = refl
    go false = refl

below : (p n : ℕ) → eqb p nobody || ltb p n ≡ true → (p ≡ 4294967295 → ⊥) → p < n
unfolding nobody
below p n h d = ltb-true p n (sym (ap (λ b. b || ltb p n) (ne_eqb p 4294967295 d)) ∙ h)

pub returns-then-parent-eq-NOBODY : goal.returns-then-parent-eq-NOBODY
unfolding keeps_parent
returns-then-parent-eq-NOBODY c =
    let a = c.args in
    sym (ap (λ l. keeps_parent a.list.now l (link_of a.image)) (is-root a.parent c.if-parent-eq-NOBODY.true) ∙ root_is a.image)

pub returns-then-image-eq-NOBODY : goal.returns-then-image-eq-NOBODY
unfolding keeps_parent is_child_of
returns-then-image-eq-NOBODY c =
    let a = c.args in
    sym (ap₂ (keeps_parent a.list.now) (is-child a.parent c.if-parent-eq-NOBODY.false) (is-root a.image c.if-image-eq-NOBODY.true))

pub bounds-list-parent : goal.bounds-list-parent
bounds-list-parent c =
    let a = c.args in
    below a.parent (length a.list.now) c.requires c.if-parent-eq-NOBODY.false

pub returns : goal.returns
unfolding keeps_parent is_child_of
returns c =
    let a = c.args in
    sym (ap₂ (keeps_parent a.list.now) (is-child a.parent c.if-parent-eq-NOBODY.false) (is-child a.image c.if-image-eq-NOBODY.false))
