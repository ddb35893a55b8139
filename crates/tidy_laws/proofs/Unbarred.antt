-- Records that may follow one another may do so kind by kind too.
use Prim.Native.Nat.{ℕ}
use mathlib.Core.Path.{◌≡◌, refl, sym, ap, ◌∙◌}
use mathlib.Core.Bool.{Bool, true, false, not, ◌&&◌, ◌||◌, cond}
use mathlib.Core.List.{List, [], ◌∷◌, ◌++◌, append-nil}
use native.Mathlib.Omega.{arith}
use lib.ListN.{length}
use lib.Seq.{append_snoc}
use lib.Dec.{eqb, leb}
use borrow.Author.Tests.{eqb-true, ne_eqb, not-false}
use Rattle.format.specs.Bytes.{any, none?}
use Rattle.format.specs.Records.{Record, code}
use Rattle.format.specs.Reading.{clash, of_kind, barred}
use Rattle.format.specs.Tidy.{in_order}
use Rattle.lists.proofs.Bools.{never, eqb-sym}
use Rattle.accepted.proofs.OfKind.{of_kind-append}
use Rattle.accepted.proofs.Admits.{barred-clear}
use Rattle.accepted.specs.Admits.{Unbarred, MayFollow}

-- ---- the records of a kind

-- of two kinds, nothing
pub kind-other : (j k : ℕ) (rs : List Record) → (j ≡ k → ⊥) → of_kind j (of_kind k rs) ≡ []
unfolding of_kind
kind-other j k [] h = refl
kind-other j k (r ∷ rs) h = go (eqb (code r) k) refl (kind-other j k rs h)
  where
    go : (t : Bool) → eqb (code r) k ≡ t → of_kind j (of_kind k rs) ≡ [] → of_kind j (cond t (r ∷ of_kind k rs) (of_kind k rs)) ≡ []
    go true e ih = rw (ne_eqb (code r) j (λ q. h (sym q ∙ eqb-true (code r) k e)), ih) refl
    go false e ih = ih

pub kind-same : (k : ℕ) (rs : List Record) → of_kind k (of_kind k rs) ≡ of_kind k rs
unfolding of_kind
kind-same k [] = refl
kind-same k (r ∷ rs) = go (eqb (code r) k) refl (kind-same k rs)
  where
    go : (t : Bool) → eqb (code r) k ≡ t → of_kind k (of_kind k rs) ≡ of_kind k rs → of_kind k (cond t (r ∷ of_kind k rs) (of_kind k rs)) ≡ cond t (r ∷ of_kind k rs) (of_kind k rs)
    go true e ih = rw (e, ih) refl
    go false e ih = ih

-- ---- why a record may not follow others: it depends on those of its kind

clash-other : (r q : Record) → eqb (code q) (code r) ≡ false → clash r q ≡ false
unfolding clash
clash-other r q e = rw (eqb-sym (code r) (code q), e) refl

pub clash-kind : (r : Record) (rs : List Record) → any (clash r) rs ≡ any (clash r) (of_kind (code r) rs)
unfolding any of_kind
clash-kind r [] = refl
clash-kind r (q ∷ rs) = go (eqb (code q) (code r)) refl (clash-kind r rs)
  where
    go : (t : Bool) → eqb (code q) (code r) ≡ t → any (clash r) rs ≡ any (clash r) (of_kind (code r) rs)
        → clash r q || any (clash r) rs ≡ any (clash r) (cond t (q ∷ of_kind (code r) rs) (of_kind (code r) rs))
    go true e ih = ap (λ t. clash r q || t) ih
    go false e ih = rw (clash-other r q e) ih

-- `b` may stand for `a` before records of kind `k`
record Stand (k : ℕ) (a b : List Record) : Type 0 where
  kinds : of_kind k a ≡ of_kind k b
  first : k ≡ 1 → none? a ≡ true → none? b ≡ true

barred-kind : (a b : List Record) (r : Record) → Stand (code r) a b → barred a r ≡ 0 → barred b r ≡ 0
unfolding barred
barred-kind a b r s h =
    let f : MayFollow a r = barred-clear a r h in
    rw (alone (eqb (code r) 1) refl f.leading, others f.apart, few (eqb (code r) 4) refl f.room) refl
  where
    alone : (t : Bool) → eqb (code r) 1 ≡ t → t && not (none? a) ≡ false → t && not (none? b) ≡ false
    alone true e n = ap not (s.first (eqb-true (code r) 1 e) (not-false (none? a) n))
    alone false e n = refl

    others : any (clash r) a ≡ false → any (clash r) b ≡ false
    others n = clash-kind r b ∙ ap (any (clash r)) (sym s.kinds) ∙ sym (clash-kind r a) ∙ n

    few : (t : Bool) → eqb (code r) 4 ≡ t → t && leb 1024 (length (of_kind 4 a)) ≡ false → t && leb 1024 (length (of_kind 4 b)) ≡ false
    few true e n =
        let q : of_kind 4 b ≡ of_kind 4 a = ap (λ k. of_kind k b) (sym (eqb-true (code r) 4 e)) ∙ sym s.kinds ∙ ap (λ k. of_kind k a) (eqb-true (code r) 4 e) in
        rw q n
    few false e n = refl

-- ---- one more record

-- once there is a record, HD may not follow
stand-on : (k : ℕ) (a b : List Record) (r : Record) → of_kind k (a ++ (r ∷ [])) ≡ of_kind k b → Stand k (a ++ (r ∷ [])) b
unfolding none?
stand-on k a b r e = record { kinds = e; first = λ q h. absurd (some-snoc a h) }
  where
    some-snoc : (xs : List Record) → none? (xs ++ (r ∷ [])) ≡ true → ⊥
    some-snoc [] h = never (cc)
    some-snoc (x ∷ xs) h = never (cc)

kind-snoc : (k : ℕ) (a : List Record) (r : Record) → eqb (code r) k ≡ true → of_kind k (a ++ (r ∷ [])) ≡ of_kind k a ++ (r ∷ [])
unfolding of_kind
kind-snoc k a r e = of_kind-append k a (r ∷ []) ∙ rw e refl

kind-snoc-other : (k : ℕ) (a : List Record) (r : Record) → eqb (code r) k ≡ false → of_kind k (a ++ (r ∷ [])) ≡ of_kind k a
unfolding of_kind
kind-snoc-other k a r e = of_kind-append k a (r ∷ []) ∙ rw e (append-nil (of_kind k a))

unbarred-kind : (k : ℕ) (a b rs : List Record) → Stand k a b → Unbarred a rs → Unbarred b (of_kind k rs)
unfolding Unbarred of_kind
unbarred-kind k a b [] s h = tt
unbarred-kind k a b (r ∷ rs) s h = go (eqb (code r) k) refl (λ a b. unbarred-kind k a b rs)
  where
    go : (t : Bool) → eqb (code r) k ≡ t → ((a b : List Record) → Stand k a b → Unbarred a rs → Unbarred b (of_kind k rs)) → Unbarred b (cond t (r ∷ of_kind k rs) (of_kind k rs))
    go true e ih =
        let q : code r ≡ k = eqb-true (code r) k e in
        let on : of_kind k (a ++ (r ∷ [])) ≡ of_kind k (b ++ (r ∷ [])) = kind-snoc k a r e ∙ ap (λ l. l ++ (r ∷ [])) s.kinds ∙ sym (kind-snoc k b r e) in
        (barred-kind a b r (rw q s) h.0, ih (a ++ (r ∷ [])) (b ++ (r ∷ [])) (stand-on k a (b ++ (r ∷ [])) r on) h.1)
    go false e ih = ih (a ++ (r ∷ [])) b (stand-on k a b r (kind-snoc-other k a r e ∙ s.kinds)) h.1

-- those that follow what follows
pub unbarred-append : (a xs ys : List Record) → Unbarred a xs → Unbarred (a ++ xs) ys → Unbarred a (xs ++ ys)
unfolding Unbarred
unbarred-append a [] ys h g = rw (append-nil a) at g
unbarred-append a (x ∷ xs) ys h g = (h.0, unbarred-append (a ++ (x ∷ [])) xs ys h.1 (rw (append_snoc a x xs) g))

-- ---- in order

-- before records of a kind, records of other kinds are none
stand-none : (k : ℕ) (b : List Record) → (k ≡ 1 → ⊥) → of_kind k b ≡ [] → Stand k [] b
unfolding of_kind
stand-none k b h e = record { kinds = sym e; first = λ q. absurd (h q) }

-- the records of one more kind
module _ (rs : List Record) (h : Unbarred [] rs) where
  unbarred-more : (k : ℕ) (b : List Record) → (k ≡ 1 → ⊥) → of_kind k b ≡ [] → Unbarred [] b → Unbarred [] (b ++ of_kind k rs)
  unbarred-more k b n e a = unbarred-append [] b (of_kind k rs) a (unbarred-kind k [] b rs (stand-none k b n e) h)

  none_more : (k j : ℕ) (b : List Record) → (k ≡ j → ⊥) → of_kind k b ≡ [] → of_kind k (b ++ of_kind j rs) ≡ []
  none_more k j b n e = of_kind-append k b (of_kind j rs) ∙ rw (e, kind-other k j rs n) refl

  pub unbarred-order : Unbarred [] (in_order rs)
  unfolding in_order
  unbarred-order =
      let a : List Record = of_kind 1 rs in
      let b : List Record = a ++ of_kind 2 rs in
      let c : List Record = b ++ of_kind 3 rs in
      let no : (k : ℕ) → (k ≡ 1 → ⊥) → of_kind k a ≡ [] = λ k q. kind-other k 1 rs q in
      unbarred-more 5 (c ++ of_kind 4 rs) (λ q. omega arith)
      (none_more 5 4 c (λ q. omega arith) (none_more 5 3 b (λ q. omega arith) (none_more 5 2 a (λ q. omega arith) (no 5 (λ q. omega arith)))))
      (unbarred-more 4 c (λ q. omega arith) (none_more 4 3 b (λ q. omega arith) (none_more 4 2 a (λ q. omega arith) (no 4 (λ q. omega arith))))
      (unbarred-more 3 b (λ q. omega arith) (none_more 3 2 a (λ q. omega arith) (no 3 (λ q. omega arith)))
      (unbarred-more 2 a (λ q. omega arith) (no 2 (λ q. omega arith)) (unbarred-kind 1 [] [] rs (record { kinds = refl; first = λ q e. e }) h))))
