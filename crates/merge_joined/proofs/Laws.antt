-- The laws of passing the merged list: a name that is next there is not one of A's.
use Prim.Native.Nat.{ℕ, ◌+◌, ◌-◌, ◌≤◌, ◌<◌}
use mathlib.Core.Path.{◌≡◌, refl, sym, ap, ap₂, subst, ◌∙◌}
use mathlib.Core.Bool.{Bool, true, false, ◌&&◌, ◌||◌, cond}
use mathlib.Core.List.{List, [], ◌∷◌, ◌++◌, append_assoc}
use native.Mathlib.Omega.{arith}
use lib.ListN.{length}
use lib.Seq.{append_snoc}
use lib.Dec.{eqb}
use borrow.Author.Tests.{eqb-true, eq-eqb}
use Rattle.format.specs.Bytes.{same, any}
use Rattle.byte_slices.proofs.Equal.{same-equal, same_self}
use Rattle.accepted.proofs.Apart.{same-sym}
use Rattle.lists.proofs.Bools.{never, split, and_left, and_right}
use Rattle.format.specs.References.{Reference, same_reference, same_references}
use Rattle.binary_references.specs.Next.{sq_from, told_list, NextInText}
use Rattle.binary_references.specs.declared.NextReference.{NextReference}
use Rattle.format.specs.Merge.{same_name}
use Rattle.merge_references.specs.Joining.{Apart, met_in, left_of}
use Rattle.merge_references.proofs.Names.{none-differs, past-front, met-nothing, met-agrees, met-differs}
use Rattle.merge_references.proofs.Lists.{left-new, left-known, left_other, one-turn, one-short}
use Rattle.std.specs.Prelude.{Option, None, Some}
use Rattle.merge_joined.specs.declared.Left.{Left}
use Rattle.merge_joined.specs.Passing.{Ahead, Behind, Reached, Passed}

-- ---- equal lists

same-all : (l : List Reference) → same_references l l ≡ true
unfolding same_references same_reference
same-all [] = refl
same-all (r ∷ rs) = rw (same_self r.name, eq-eqb r.size r.size refl) (same-all rs)

same-one : (r q : Reference) → same_reference r q ≡ true → r ≡ q
unfolding same_reference
same-one r q h = made (same-equal r.name q.name (and_left (same r.name q.name) (eqb r.size q.size) h)) (eqb-true r.size q.size (and_right (same r.name q.name) (eqb r.size q.size) h))
  where
    made : {s t : List ℕ} {m n : ℕ} → s ≡ t → m ≡ n → ◌≡◌ {A = Reference} (record { name = s; size = m }) (record { name = t; size = n })
    made a b = rw (a, b) refl

same-list : (x y : List Reference) → same_references x y ≡ true → x ≡ y
unfolding same_references
same-list [] [] h = refl
same-list [] (q ∷ qs) h = absurd (never (cc))
same-list (r ∷ rs) [] h = absurd (never (cc))
same-list (r ∷ rs) (q ∷ qs) h = ap₂ (λ x xs. x ∷ xs) (same-one r q (and_left (same_reference r q) (same_references rs qs) h)) (same-list rs qs (and_right (same_reference r q) (same_references rs qs) h))

-- ---- how far the merged list is passed

-- A's own references
pub behind-front : (rs : List Reference) (strict : Bool) (t : List ℕ) (next : ℕ) (n : Option NextReference) → sq_from strict t next ≡ told_list strict t n
    → ((l : List Reference) → same_references (sq_from strict t 0) (rs ++ l) ≡ same_references (sq_from strict t next) l) → Behind rs strict t n
behind-front rs strict t next n e h = record {
  more = [];
  joined = same-list (sq_from strict t 0) (rs ++ sq_from strict t next) (h (sq_from strict t next) ∙ same-all (sq_from strict t next)) ∙ ap (λ l. rs ++ l) e;
}

module _ (rs : List Reference) (strict : Bool) (t : List ℕ) (n y : Option NextReference) (h : Behind rs strict t n) (r : Reference) (e : told_list strict t n ≡ r ∷ told_list strict t y) where
  -- one more
  pub behind-next : Behind rs strict t y
  behind-next = record {
    more = h.more ++ (r ∷ []);
    joined = h.joined ∙ ap (λ l. rs ++ (h.more ++ l)) e ∙ ap (λ l. rs ++ l) (sym (append_snoc h.more r (told_list strict t y)));
  }

  whole : sq_from strict t 0 ≡ rs ++ (h.more ++ r ∷ told_list strict t y)
  whole = h.joined ∙ ap (λ l. rs ++ (h.more ++ l)) e

  before : (q : Reference) (xs : List Reference) → Apart (xs ++ (h.more ++ r ∷ told_list strict t y)) → same_name q r ≡ true → any (same_name q) xs ≡ false
  unfolding any Apart
  before q [] p s = refl
  before q (f ∷ xs) p s =
      ap₂ (λ t u. t || u)
      (past-front q f (xs ++ h.more) (r ∷ told_list strict t y) (ap (any (same_name f)) (append_assoc xs h.more (r ∷ told_list strict t y)) ∙ p.0) (ap (λ u. u || any (same_name q) (told_list strict t y)) s))
      (before q xs p.1 s)

  -- its name is not one of A's
  pub behind-new : Apart (sq_from strict t 0) → (q : Reference) → same_name q r ≡ true → (l : List Reference) → left_of rs (q ∷ l) (told_list strict t n) ≡ eqb r.size q.size && left_of rs l (told_list strict t y)
  unfolding same_reference same_name
  behind-new p q s l =
      let x = before q rs (subst Apart whole p) s in
      left-new rs l (told_list strict t n) q x (none-differs q rs x) (eqb r.size q.size) (told_list strict t y)
      (λ k. one-turn (told_list strict t n) k q r (told_list strict t y) e ∙ ap (λ u. u && eqb r.size q.size && same_references (told_list strict t y) k) (named s))
    where
      named : same q.name r.name ≡ true → same r.name q.name ≡ true
      named s = ap (λ x. same r.name x) (same-equal q.name r.name s) ∙ same_self r.name

-- ---- what a walk over the merged text gives is ahead

pub found-ahead : (strict : Bool) (t : List ℕ) (at : ℕ) (r : Option NextReference) → NextInText strict t at r → Ahead t r
found-ahead strict t at None h = tt
found-ahead strict t at (Some n) h = record { name = h.found.name; within = h.found.within }

-- ---- the next of the merged list has another name, or there is none

pub gone-other : (ms ms' k : List Reference) (q n : Reference) → ms ≡ n ∷ ms' → same_name q n ≡ false → same_references ms (q ∷ k) ≡ false
unfolding same_reference same_name
gone-other ms ms' k q n e s = one-turn ms k q n ms' e ∙ ap (λ t. t && eqb n.size q.size && same_references ms' k) (same-sym n.name q.name ∙ s)

pub gone-none : (ms k : List Reference) (q : Reference) → ms ≡ [] → same_references ms (q ∷ k) ≡ false
gone-none ms k q e = one-short ms k q e

-- ---- what a step leaves

module _ (rs : List Reference) (strict-b : Bool) (b : List ℕ) (strict-m : Bool) (m : List ℕ) where
  -- nothing is passed yet
  pub passed_none : (from : Left) → from.good ≡ true → from.more ≡ true → Reached rs b strict-m m from → Passed rs strict-b b strict-m m from from
  passed_none from g h r = record {
    leaves = sym (ap (λ t. t && left_of rs (sq_from strict-b b from.at) (told_list strict-m m from.ahead)) g);
    reached = r;
    well = λ e. g;
    spent = λ e. absurd (never (let z : true ≡ false = sym h ∙ e in cc));
    onward = omega arith;
  }

  -- one step after another
  pub passed_then : (from y x : Left) → Passed rs strict-b b strict-m m from y → y.more ≡ true → Passed rs strict-b b strict-m m y x → Passed rs strict-b b strict-m m from x
  passed_then from y x p h q = record {
    leaves = p.leaves ∙ ap (λ t. t && left_of rs (sq_from strict-b b y.at) (told_list strict-m m y.ahead)) (p.well h) ∙ q.leaves;
    reached = q.reached;
    well = q.well;
    spent = q.spent;
    onward = omega (arith, p.onward, q.onward);
  }

  module _ (from : Left) (r : Reached rs b strict-m m from) where
    -- B has no more
    pub passed-spent : sq_from strict-b b from.at ≡ [] → Passed rs strict-b b strict-m m from (record { good = true; more = false; at = from.at; ahead = from.ahead })
    passed-spent e = record {
      leaves = refl;
      reached = record { within = r.within; merged = r.merged; behind = r.behind };
      well = λ d. refl;
      spent = λ d g. e;
      onward = omega arith;
    }

    module _ (q : Reference) (after : ℕ) (e : sq_from strict-b b from.at ≡ q ∷ sq_from strict-b b after) (l : after ≤ length b) (o : from.at < after) where
      abbrev ms : List Reference
      ms = told_list strict-m m from.ahead

      abbrev rest : List Reference
      rest = sq_from strict-b b after

      -- it is the next of the merged list
      pub passed-new : Apart (sq_from strict-m m 0) → (n : Reference) (y : Option NextReference) → ms ≡ n ∷ told_list strict-m m y → Ahead m y → same_name q n ≡ true → (good : Bool) → good ≡ eqb n.size q.size
          → Passed rs strict-b b strict-m m from (record { good = good; more = good; at = after; ahead = y })
      passed-new p n y d i s good g = record {
        leaves = ap (λ x. left_of rs x ms) e ∙ behind-new rs strict-m m from.ahead y r.behind n d p q s rest ∙ ap (λ t. t && left_of rs rest (told_list strict-m m y)) (sym g);
        reached = record { within = l; merged = i; behind = behind-next rs strict-m m from.ahead y r.behind n d };
        well = λ h. h;
        spent = λ h k. absurd (never (let z : true ≡ false = sym k ∙ h in cc));
        onward = omega (arith, o);
      }

      module _ (apart : Apart rs) where
        -- A has it, with the same length
        pub passed-known : met_in q rs ≡ Some true → Passed rs strict-b b strict-m m from (record { good = true; more = true; at = after; ahead = from.ahead })
        passed-known h = let n = met-agrees q rs apart h in record {
          leaves = ap (λ x. left_of rs x ms) e ∙ left-known rs rest ms q n.0 n.1;
          reached = record { within = l; merged = r.merged; behind = r.behind };
          well = λ d. refl;
          spent = λ d. absurd (never (let z : true ≡ false = d in cc));
          onward = omega (arith, o);
        }

        refuted : left_of rs (q ∷ rest) ms ≡ false → Passed rs strict-b b strict-m m from (record { good = false; more = false; at = after; ahead = from.ahead })
        refuted h = record {
          leaves = ap (λ x. left_of rs x ms) e ∙ h;
          reached = record { within = l; merged = r.merged; behind = r.behind };
          well = λ d. d;
          spent = λ d g. absurd (never (let z : true ≡ false = sym g in cc));
          onward = omega (arith, o);
        }

        -- with another
        pub passed-other : met_in q rs ≡ Some false → Passed rs strict-b b strict-m m from (record { good = false; more = false; at = after; ahead = from.ahead })
        passed-other h = refuted (left_other rs rest ms q (met-differs q rs apart h))

        -- A has it not, and it is not the next of the merged list
        pub passed-lost : ((k : List Reference) → same_references ms (q ∷ k) ≡ false) → met_in q rs ≡ None → Passed rs strict-b b strict-m m from (record { good = false; more = false; at = after; ahead = from.ahead })
        passed-lost g h = let n = met-nothing q rs apart h in refuted (left-new rs rest ms q n.0 n.1 false ms g)

-- a step that passes nothing is the last
pub turn-less : (n : ℕ) (left x : Left) → left.more ≡ true → left.at ≤ x.at → (x.more ≡ true → left.at < x.at) → x.at ≤ n → cond x.more 1 0 + (n - x.at) < cond left.more 1 0 + (n - left.at)
turn-less n left x h o a w =
    subst (λ t. cond x.more 1 0 + (n - x.at) < cond t 1 0 + (n - left.at)) (sym h)
    (split x.more
    (λ e. subst (λ t. cond t 1 0 + (n - x.at) < 1 + (n - left.at)) (sym e) (omega (arith, a e, w)))
    (λ e. subst (λ t. cond t 1 0 + (n - x.at) < 1 + (n - left.at)) (sym e) (omega (arith, o, w))))
