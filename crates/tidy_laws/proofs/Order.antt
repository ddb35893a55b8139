-- Records in order, HD, then SQ, RG, PG, CO, are an equal header, and what holds of each holds in order.
use Prim.Native.Nat.{ℕ}
use mathlib.Core.Path.{◌≡◌, refl, sym, ap, ◌∙◌}
use mathlib.Core.List.{List, [], ◌∷◌, ◌++◌, map, append-nil}
use native.Mathlib.Omega.{arith}
use Rattle.format.specs.Records.{Record}
use Rattle.format.specs.Reading.{of_kind}
use Rattle.format.specs.Tidy.{in_order}
use Rattle.byte_slices.specs.Stands.{Each}
use Rattle.accepted.proofs.OfKind.{of_kind-append, each-of_kind}
use Rattle.tidy_laws.specs.Bare.{bare, bares, Equal}
use Rattle.tidy_laws.proofs.Bare.{kind-bare}
use Rattle.tidy_laws.proofs.Unbarred.{kind-other, kind-same}

-- ---- each

module _ (P : Record → Type 0) where
  pub each_append : (xs ys : List Record) → Each P xs → Each P ys → Each P (xs ++ ys)
  unfolding Each
  each_append [] ys h g = g
  each_append (x ∷ xs) ys h g = (h.0, each_append xs ys h.1 g)

  pub each-order : (rs : List Record) → Each P rs → Each P (in_order rs)
  unfolding in_order
  each-order rs h =
      let e : (k : ℕ) → Each P (of_kind k rs) = λ k. each-of_kind P k rs h in
      each_append _ _ (each_append _ _ (each_append _ _ (each_append _ _ (e 1) (e 2)) (e 3)) (e 4)) (e 5)

-- ---- kind by kind

module _ (rs : List Record) where
  no : (j k : ℕ) → (j ≡ k → ⊥) → of_kind j (of_kind k rs) ≡ []
  no j k h = kind-other j k rs h

  kinds : (k : ℕ) → of_kind k (in_order rs) ≡ of_kind k (of_kind 1 rs) ++ of_kind k (of_kind 2 rs) ++ of_kind k (of_kind 3 rs) ++ of_kind k (of_kind 4 rs) ++ of_kind k (of_kind 5 rs)
  unfolding in_order
  kinds k = simp of_kind-append

  pub order-1 : of_kind 1 (in_order rs) ≡ of_kind 1 rs
  order-1 = rw (kinds 1, kind-same 1 rs, no 1 2 (λ q. omega arith), no 1 3 (λ q. omega arith), no 1 4 (λ q. omega arith), no 1 5 (λ q. omega arith)) (simp append-nil)

  pub order-2 : of_kind 2 (in_order rs) ≡ of_kind 2 rs
  order-2 = rw (kinds 2, kind-same 2 rs, no 2 1 (λ q. omega arith), no 2 3 (λ q. omega arith), no 2 4 (λ q. omega arith), no 2 5 (λ q. omega arith)) (simp append-nil)

  pub order-3 : of_kind 3 (in_order rs) ≡ of_kind 3 rs
  order-3 = rw (kinds 3, kind-same 3 rs, no 3 1 (λ q. omega arith), no 3 2 (λ q. omega arith), no 3 4 (λ q. omega arith), no 3 5 (λ q. omega arith)) (simp append-nil)

  pub order-4 : of_kind 4 (in_order rs) ≡ of_kind 4 rs
  order-4 = rw (kinds 4, kind-same 4 rs, no 4 1 (λ q. omega arith), no 4 2 (λ q. omega arith), no 4 3 (λ q. omega arith), no 4 5 (λ q. omega arith)) (simp append-nil)

  pub order-5 : of_kind 5 (in_order rs) ≡ of_kind 5 rs
  order-5 = rw (kinds 5, kind-same 5 rs, no 5 1 (λ q. omega arith), no 5 2 (λ q. omega arith), no 5 3 (λ q. omega arith), no 5 4 (λ q. omega arith)) refl

  pub order-equal : Equal (in_order rs) rs
  unfolding bares
  order-equal = record { hd = ap (map bare) order-1; sq = ap (map bare) order-2; rg = ap (map bare) order-3; pg = ap (map bare) order-4; co = ap (map bare) order-5 }

-- equal records, place by place, are equal kind by kind
pub same-equal : (rs qs : List Record) → map bare rs ≡ map bare qs → Equal rs qs
unfolding bares
same-equal rs qs e =
    let k : (k : ℕ) → map bare (of_kind k rs) ≡ map bare (of_kind k qs) = λ k. sym (kind-bare k rs) ∙ ap (of_kind k) e ∙ kind-bare k qs in
    record { hd = k 1; sq = k 2; rg = k 3; pg = k 4; co = k 5 }

pub equal-sym : (rs qs : List Record) → Equal rs qs → Equal qs rs
equal-sym rs qs e = record { hd = sym e.hd; sq = sym e.sq; rg = sym e.rg; pg = sym e.pg; co = sym e.co }

pub equal-trans : (rs qs ps : List Record) → Equal rs qs → Equal qs ps → Equal rs ps
equal-trans rs qs ps e f =
    record { hd = e.hd ∙ f.hd; sq = e.sq ∙ f.sq; rg = e.rg ∙ f.rg; pg = e.pg ∙ f.pg; co = e.co ∙ f.co }
