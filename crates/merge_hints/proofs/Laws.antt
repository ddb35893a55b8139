-- The laws of slots: an offset enters, and a slot is marked.
use Prim.Native.Nat.{ℕ, ◌+◌, ◌-◌, ◌*◌, ◌%◌, ◌≤◌, ◌<◌}
use mathlib.Core.Path.{◌≡◌, sym, ap, subst, ◌∙◌}
use mathlib.Core.Bool.{Bool, true}
use mathlib.Core.List.{List, ◌∷◌}
use native.Mathlib.Omega.{arith}
use lib.ListN.{length, get_or, set, replicate, get_or-replicate, length-replicate, get_or-eq_default}
use lib.Seq.{get_or-set_same, get_or-set_other, set_out}
use lib.Dec.{eqb, ltb}
use borrow.Author.Tests.{eqb-true, eqb-false, ltb-true, ltb-false}
use Rattle.format.specs.Bytes.{same}
use Rattle.format.specs.Merge.{same_name}
use Rattle.lists.proofs.Bools.{split, and_left, and_right}
use Rattle.format.specs.References.{Reference, same_reference}
use Rattle.binary_references.specs.Next.{sq_from}
use Rattle.merge_references.specs.Joining.{met_in, Apart, From}
use Rattle.merge_references.proofs.Names.{met-same, same_from_lem}
use Rattle.merge_hints.specs.Hints.{slot_offset, Placed, Agreed, Known, Marked}

-- ---- what holds of every slot

-- after a store
each_set : (P : ℕ → Type 0) (slots : List ℕ) (i v : ℕ) → ((p : ℕ) → P (get_or slots p 0)) → P v → (p : ℕ) → P (get_or (set slots i v) p 0)
each_set P slots i v h x p =
    split (eqb p i) (λ e. here (eqb-true p i e)) (λ e. subst P (sym (get_or-set_other slots i p v 0 (eqb-false p i e))) (h p))
  where
    here : p ≡ i → P (get_or (set slots i v) p 0)
    here e =
        split (ltb i (length slots))
        (λ l. subst P (sym (ap (λ n. get_or (set slots i v) n 0) e ∙ get_or-set_same slots i v 0 (ltb-true i (length slots) l))) x)
        (λ l. subst (λ s. P (get_or s p 0)) (sym (set_out slots i v (ltb-false i (length slots) l))) (h p))

-- nothing but zeros
zero-at : (n p : ℕ) → ◌≡◌ {A = ℕ} (get_or (replicate n 0) p 0) 0
zero-at n p =
    split (ltb p n)
    (λ e. get_or-replicate {A = ℕ} n p 0 0 (ltb-true p n e))
    (λ e. get_or-eq_default {A = ℕ} (replicate n 0) 0 {n = p} (omega (arith, ltb-false p n e, length-replicate {A = ℕ} n 0)))

pub placed-none : (t : List ℕ) (n : ℕ) → Placed t (replicate n 0)
unfolding slot_offset
placed-none t n = record { within = λ p. let z = zero-at n p in omega (arith, z) }

pub marked-none : (strict : Bool) (t : List ℕ) (rs : List Reference) (n : ℕ) → Marked strict t rs (replicate n 0)
marked-none strict t rs n = record { known = λ p h. absurd (let z = zero-at n p in omega (arith, z, h)) }

-- ---- an offset enters

pub set-equal : (slots : List ℕ) (i v w : ℕ) → v ≡ w → set slots i v ≡ set slots i w
set-equal slots i v w e = ap (set slots i) e

module _ (t slots : List ℕ) (i at k : ℕ) (l : at ≤ length t) (f : length t ≤ 16777216) (b : k < 64) where
  pub placed-enter : Placed t slots → Placed t (set slots i (at + 1 + k * 33554432))
  unfolding slot_offset
  placed-enter h = record { within = each_set (λ v. slot_offset v ≤ length t) slots i (at + 1 + k * 33554432) h.within (omega arith) }

  pub marked-enter : (strict : Bool) (rs : List Reference) → Marked strict t rs slots → Marked strict t rs (set slots i (at + 1 + k * 33554432))
  marked-enter strict rs h = record {
    known = each_set (λ v. 2147483648 ≤ v → Known strict t rs (slot_offset v)) slots i (at + 1 + k * 33554432) h.known (λ m. absurd (omega (arith, m)));
  }

-- ---- a slot is marked

module _ (t slots : List ℕ) (i v : ℕ) where
  offset-kept : slot_offset (v + 2147483648) ≡ slot_offset v
  unfolding slot_offset
  offset-kept = omega arith

  pub placed-mark : slot_offset v ≤ length t → Placed t slots → Placed t (set slots i (v + 2147483648))
  placed-mark l h = record { within = each_set (λ v. slot_offset v ≤ length t) slots i (v + 2147483648) h.within (omega (arith, offset-kept, l)) }

  pub marked-mark : (strict : Bool) (rs : List Reference) → Known strict t rs (slot_offset v) → Marked strict t rs slots → Marked strict t rs (set slots i (v + 2147483648))
  marked-mark strict rs k h = record {
    known = each_set (λ v. 2147483648 ≤ v → Known strict t rs (slot_offset v)) slots i (v + 2147483648) h.known (λ m. subst (Known strict t rs) (sym offset-kept) k);
  }

-- the first of a list is one
first-is : (q r : Reference) (xs ys : List Reference) → q ∷ xs ≡ r ∷ ys → q ≡ r
first-is q r xs ys e = ap (λ l. get_or l 0 q) e

pub known_by : (strict : Bool) (t : List ℕ) (rs : List Reference) (at : ℕ) (q r : Reference) (rest : List Reference) → sq_from strict t at ≡ q ∷ rest → same_reference q r ≡ true → Agreed r rs → Known strict t rs at
known_by strict t rs at q r rest e s a p ps d = ap (λ x. met_in x rs) (first-is p q ps rest (sym d ∙ e)) ∙ a q s

-- the slot of a reference is marked
pub marked-at : (strict : Bool) (t : List ℕ) (rs : List Reference) (slots : List ℕ) (p at k : ℕ) → at ≤ 16777216 → k < 64 → get_or slots p 0 ≡ at + 1 + k * 33554432 + 2147483648 → Marked strict t rs slots → Known strict t rs at
unfolding slot_offset
marked-at strict t rs slots p at k l b e h =
    let z : slot_offset (get_or slots p 0) ≡ at = ap slot_offset e ∙ offset in
    subst (Known strict t rs) z (h.known p (omega (arith, e)))
  where
    offset : (at + 1 + k * 33554432 + 2147483648) % 33554432 - 1 ≡ at
    offset = omega (arith, l, b)

-- what has the name and the length of a reference of a text is met among its references
pub agreed-from : (strict : Bool) (t : List ℕ) (at next : ℕ) (r : Reference) → From strict t at → Apart (sq_from strict t 0) → sq_from strict t at ≡ r ∷ sq_from strict t next → Agreed r (sq_from strict t 0)
unfolding same_reference same_name
agreed-from strict t at next r f h e q s =
    same_from_lem strict t at f h q
    (met-same q (sq_from strict t at) r (sq_from strict t next) e (and_left (same q.name r.name) (eqb q.size r.size) s) (eqb-true q.size r.size (and_right (same q.name r.name) (eqb q.size r.size) s)))
