-- 30: the condition on the references, and what it means for those of A, of B and of the merged header.
use mathlib.Core.Path.{◌≡◌, refl, sym, ap, ap₂, ◌∙◌}
use mathlib.Core.Logic.{◌⊎◌, inl, inr, ⊎_elim, ◌↔◌}
use mathlib.Core.Bool.{Bool, true, false, not, cond, false≢true}
use mathlib.Core.List.Memᴰ
use mathlib.Core.List.{List, [], ◌∷◌, ◌++◌, Memᴰ}
use lib.ListN.{length}
use lib.Seq.{take-append_seam}
use lib.Dec.{eqb}
use borrow.Author.Tests.{eq-eqb, eqb-true, not-true}
use Rattle.format.specs.Bytes.{any, same}
use Rattle.format.specs.References.{Reference, same_reference, same_references}
use Rattle.format.specs.Merge.{same_name, differ, agreeing, lacking, is_joined}
use Rattle.byte_slices.proofs.Equal.{same-equal, same_self}
use Rattle.lists.proofs.Bools.{split, and_left, and_right}
use Rattle.merge_laws.specs.IsMerge.{Joins}
use Rattle.merge_laws.specs.Means.{HoldsReferences}
use Rattle.merge_laws.proofs.Members.{both, is_false, any_found, found-any}

-- ---- one name, one length

same-reference : (r q : Reference) → r.name ≡ q.name → r.size ≡ q.size → r ≡ q
same-reference r q n s = ap₂ (λ n s. record { name = n; size = s }) n s

same-list : (rs qs : List Reference) → same_references rs qs ≡ true → rs ≡ qs
unfolding same_references same_reference
same-list [] [] e = refl
same-list [] (q ∷ qs) e = absurd (false≢true e)
same-list (r ∷ rs) [] e = absurd (false≢true e)
same-list (r ∷ rs) (q ∷ qs) e =
    let h = and_left (same_reference r q) (same_references rs qs) e in
    ap₂ (λ x xs. x ∷ xs)
    (same-reference r q (same-equal r.name q.name (and_left (same r.name q.name) (eqb r.size q.size) h)) (eqb-true r.size q.size (and_right (same r.name q.name) (eqb r.size q.size) h)))
    (same-list rs qs (and_right (same_reference r q) (same_references rs qs) e))

own-list : (rs : List Reference) → same_references rs rs ≡ true
unfolding same_references same_reference
own-list [] = refl
own-list (r ∷ rs) = rw (same_self r.name, eq-eqb r.size r.size refl) (own-list rs)

name-same : (r q : Reference) → r.name ≡ q.name → same_name r q ≡ true
unfolding same_name
name-same r q e = rw e (same_self q.name)

-- ---- the condition

module _ (a b : List Reference) where
  differing : (q r : Reference) → Memᴰ r a → Memᴰ q b → differ q r ≡ true → any (λ q. any (differ q) a) b ≡ true
  differing q r ra qb e = found-any (λ q. any (differ q) a) b q qb (found-any (differ q) a r ra e)

  agree-from : agreeing a b ≡ true → (r q : Reference) → Memᴰ r a → Memᴰ q b → r.name ≡ q.name → r.size ≡ q.size
  unfolding agreeing differ
  agree-from e r q ra qb n =
      split (eqb q.size r.size) (λ h. sym (eqb-true q.size r.size h))
      (λ h. absurd (false≢true (sym (not-true (any (λ q. any (differ q) a) b) e) ∙ differing q r ra qb (rw (name-same q r (sym n), h) refl))))

  agree-to : ((r q : Reference) → Memᴰ r a → Memᴰ q b → r.name ≡ q.name → r.size ≡ q.size) → agreeing a b ≡ true
  unfolding agreeing differ same_name
  agree-to f = rw (is_false (any (λ q. any (differ q) a) b) none) refl
    where
      none : any (λ q. any (differ q) a) b ≡ true → ⊥
      none e =
          let x = any_found (λ q. any (differ q) a) b e in
          let q : Reference = x.0 in
          let y = any_found (differ q) a x.2 in
          let r : Reference = y.0 in
          let n : r.name ≡ q.name = sym (same-equal q.name r.name (and_left (same_name q r) (not (eqb q.size r.size)) y.2)) in
          let s : r.size ≡ q.size = f r q y.1 x.1 n in
          false≢true (ap not (sym (eq-eqb q.size r.size (sym s))) ∙ and_right (same_name q r) (not (eqb q.size r.size)) y.2)

pub joins : (a b m : List Reference) → (is_joined a b m ≡ true) ↔ Joins a b m
unfolding is_joined
joins a b m = (
  λ e. record {
    agree = agree-from a b (and_left (agreeing a b) (same_references m (a ++ lacking a b)) e);
    list = same-list m (a ++ lacking a b) (and_right (agreeing a b) (same_references m (a ++ lacking a b)) e);
  },
  λ j. both (agreeing a b) (same_references m (a ++ lacking a b)) (agree-to a b j.agree) (rw j.list (own-list (a ++ lacking a b))),
)

-- ---- what it means

module _ (a : List Reference) where
  lacking-of : (b : List Reference) (q : Reference) → Memᴰ q (lacking a b) → Memᴰ q b
  unfolding lacking
  lacking-of [] q h = h
  lacking-of (x ∷ b) q h = go (any (same_name x) a) h (lacking-of b q)
    where
      go : (t : Bool) → Memᴰ q (cond t (lacking a b) (x ∷ lacking a b)) → (Memᴰ q (lacking a b) → Memᴰ q b) → Memᴰ q (x ∷ b)
      go true h ih = Memᴰ.tail (ih h)
      go false h ih = ⊎_elim (λ e. Memᴰ.head e) (λ h. Memᴰ.tail (ih h)) (Memᴰ.cases_cons h)

  of-lacking : (b : List Reference) (q : Reference) → any (same_name q) a ≡ false → Memᴰ q b → Memᴰ q (lacking a b)
  unfolding lacking
  of-lacking [] q n h = h
  of-lacking (x ∷ b) q n h = go (any (same_name x) a) refl (Memᴰ.cases_cons h) (of-lacking b q n)
    where
      go : (t : Bool) → any (same_name x) a ≡ t → (q ≡ x) ⊎ Memᴰ q b → (Memᴰ q b → Memᴰ q (lacking a b)) → Memᴰ q (cond t (lacking a b) (x ∷ lacking a b))
      go true e (inl p) ih = absurd (false≢true (sym n ∙ ap (λ y. any (same_name y) a) p ∙ e))
      go true e (inr h) ih = ih h
      go false e (inl p) ih = Memᴰ.head p
      go false e (inr h) ih = Memᴰ.tail (ih h)

  -- all of B's names are A's
  pub lacking-none : (b : List Reference) → ((q : Reference) → Memᴰ q b → any (same_name q) a ≡ true) → lacking a b ≡ []
  unfolding lacking
  lacking-none [] f = refl
  lacking-none (q ∷ b) f = rw (f q (Memᴰ.head refl)) (lacking-none b (λ x h. f x (Memᴰ.tail h)))

-- a list lacks nothing of its own
pub lacking-own : (a : List Reference) → lacking a a ≡ []
lacking-own a = lacking-none a a (λ q h. found-any (same_name q) a q h (name-same q q refl))

pub holds-references : (a b m : List Reference) → Joins a b m → HoldsReferences a b m
unfolding same_name
holds-references a b m j =
    record {
      first = rw j.list (take-append_seam a (lacking a b));
      of_b = λ q h. rw j.list (has-b q h);
      only = λ r h. ⊎_elim (λ h. inl h) (λ h. inr (lacking-of a b r h)) (Memᴰ.append_cases a (rw j.list at h));
    }
  where
    has-b : (q : Reference) → Memᴰ q b → Memᴰ q (a ++ lacking a b)
    has-b q h = split (any (same_name q) a) shared (λ n. Memᴰ.append_right a (of-lacking a b q n h))
      where
        shared : any (same_name q) a ≡ true → Memᴰ q (a ++ lacking a b)
        shared e =
            let x = any_found (same_name q) a e in
            let n : x.0.name ≡ q.name = sym (same-equal q.name x.0.name x.2) in
            Memᴰ.append_left (lacking a b) (Memᴰ.cast (same-reference q x.0 (sym n) (sym (j.agree x.0 q x.1 h n))) x.1)
