-- The records without the programs that have no mark are, kind by kind, those that pruning keeps.
use Prim.Native.Nat.{ℕ, ◌+◌, ◌≤◌, ◌<◌}
use mathlib.Core.Path.{◌≡◌, refl, sym, ap, ap₂, ◌∙◌}
use mathlib.Core.Bool.{Bool, true, false, cond}
use mathlib.Core.List.{List, [], ◌∷◌, ◌++◌}
use native.Mathlib.Omega.{arith}
use lib.ListN.{length}
use lib.Dec.{eqb}
use borrow.Author.Tests.{eqb-true, ne_eqb}
use Rattle.format.specs.Records.{Record, code}
use Rattle.format.specs.Reading.{of_kind}
use Rattle.format.specs.Programs.{programs, links}
use Rattle.format.specs.Tidy.{in_order, text, tidy}
use Rattle.tidy_laws.proofs.Order.{order-1, order-2, order-3, order-4, order-5}
use Rattle.format.specs.Prune.{is_needed, chosen, pruned}
use Rattle.tidy_text.specs.Sifted.{sifted}

-- ---- the records of a kind

kind-cons : (i : ℕ) (r : Record) (rs : List Record) → of_kind i (r ∷ rs) ≡ cond (eqb (code r) i) (r ∷ of_kind i rs) (of_kind i rs)
unfolding of_kind
kind-cons i r rs = refl

-- of a kind that is not the programs'
pub sift-other : (p : ℕ → Bool) (i : ℕ) → (i ≡ 4 → ⊥) → (k : ℕ) (rs : List Record) → of_kind i (sifted p k rs) ≡ of_kind i rs
unfolding of_kind sifted
sift-other p i n k [] = refl
sift-other p i n k (r ∷ rs) = go (eqb (code r) 4) refl (p k) (sift-other p i n (k + 1) rs) (sift-other p i n k rs)
  where
    go : (t : Bool) → eqb (code r) 4 ≡ t → (b : Bool) → of_kind i (sifted p (k + 1) rs) ≡ of_kind i rs → of_kind i (sifted p k rs) ≡ of_kind i rs
        → of_kind i (cond t (cond b (r ∷ sifted p (k + 1) rs) (sifted p (k + 1) rs)) (r ∷ sifted p k rs)) ≡ cond (eqb (code r) i) (r ∷ of_kind i rs) (of_kind i rs)
    go true e true f g = kind-cons i r (sifted p (k + 1) rs) ∙ ap (λ xs. cond (eqb (code r) i) (r ∷ xs) xs) f
    go true e false f g = f ∙ sym (ap (λ t. cond t (r ∷ of_kind i rs) (of_kind i rs)) (ne_eqb (code r) i (λ q. n (omega (arith, q, eqb-true (code r) 4 e)))))
    go false e b f g = kind-cons i r (sifted p k rs) ∙ ap (λ xs. cond (eqb (code r) i) (r ∷ xs) xs) g

-- the programs
pub sift-programs : (p : ℕ → Bool) (k : ℕ) (rs : List Record) → of_kind 4 (sifted p k rs) ≡ chosen p k (of_kind 4 rs)
unfolding of_kind sifted chosen
sift-programs p k [] = refl
sift-programs p k (r ∷ rs) = go (eqb (code r) 4) refl (p k) refl (sift-programs p (k + 1) rs) (sift-programs p k rs)
  where
    go : (t : Bool) → eqb (code r) 4 ≡ t → (b : Bool) → p k ≡ b → of_kind 4 (sifted p (k + 1) rs) ≡ chosen p (k + 1) (of_kind 4 rs) → of_kind 4 (sifted p k rs) ≡ chosen p k (of_kind 4 rs)
        → of_kind 4 (cond t (cond b (r ∷ sifted p (k + 1) rs) (sifted p (k + 1) rs)) (r ∷ sifted p k rs)) ≡ chosen p k (cond t (r ∷ of_kind 4 rs) (of_kind 4 rs))
    go true e true q f g = kind-cons 4 r (sifted p (k + 1) rs) ∙ rw (e, q) (ap (λ xs. r ∷ xs) f)
    go true e false q f g = rw q f
    go false e b q f g = kind-cons 4 r (sifted p k rs) ∙ rw e g

-- two ways to choose that agree
pub chosen-same : {A : Type 0} (p q : ℕ → Bool) (k : ℕ) (xs : List A) → ((i : ℕ) → k ≤ i → i < k + length xs → p i ≡ q i) → chosen p k xs ≡ chosen q k xs
unfolding chosen
chosen-same p q k [] h = refl
chosen-same p q k (x ∷ xs) h =
    ap₂ (λ b ys. cond b (x ∷ ys) ys) (h k (omega arith) (omega arith)) (chosen-same p q (k + 1) xs (λ i a b. h i (omega arith) (omega arith)))

-- ---- in order

order-of : (rs : List Record) → in_order rs ≡ of_kind 1 rs ++ of_kind 2 rs ++ of_kind 3 rs ++ of_kind 4 rs ++ of_kind 5 rs
unfolding in_order
order-of rs = refl

-- what is in order stays so
order-again : (rs : List Record) → in_order (in_order rs) ≡ in_order rs
order-again rs = order-of (in_order rs) ∙ rw (order-1 rs, order-2 rs, order-3 rs, order-4 rs, order-5 rs) (sym (order-of rs))

tidy-order : (rs : List Record) → tidy (in_order rs) ≡ tidy rs
unfolding tidy
tidy-order rs = ap text (order-again rs)

-- only programs are dropped
module _ (p : ℕ → Bool) (rs : List Record) where
  sifted-order : in_order (sifted p 0 rs) ≡ of_kind 1 rs ++ of_kind 2 rs ++ of_kind 3 rs ++ chosen p 0 (of_kind 4 rs) ++ of_kind 5 rs
  sifted-order = order-of (sifted p 0 rs) ∙ rw (
    sift-other p 1 (λ e. omega arith) 0 rs,
    sift-other p 2 (λ e. omega arith) 0 rs,
    sift-other p 3 (λ e. omega arith) 0 rs,
    sift-programs p 0 rs,
    sift-other p 5 (λ e. omega arith) 0 rs,
  ) refl

  -- so that what pruning writes is the tidy text of what is sifted by the programs that are needed
  pub sifted-tidy : (us : List ℕ) → chosen p 0 (of_kind 4 rs) ≡ chosen (is_needed (links (programs rs)) us) 0 (of_kind 4 rs) → tidy (sifted p 0 rs) ≡ tidy (pruned us rs)
  unfolding pruned
  sifted-tidy us e = sym (tidy-order (sifted p 0 rs)) ∙ ap tidy (sifted-order ∙ ap (λ xs. of_kind 1 rs ++ of_kind 2 rs ++ of_kind 3 rs ++ xs ++ of_kind 5 rs) e)

pub pruned-tidy : (us : List ℕ) (rs : List Record) → tidy (pruned us rs) ≡ tidy (sifted (is_needed (links (programs rs)) us) 0 rs)
pruned-tidy us rs = sym (sifted-tidy (is_needed (links (programs rs)) us) rs us refl)
