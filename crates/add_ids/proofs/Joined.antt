-- The laws of an ID that is made of a prefix, `-` and an ID: it is compared in its parts, and different IDs make different ones.
use Prim.Native.Nat.{ℕ, suc, ◌+◌, ◌-◌, ◌<◌}
use mathlib.Core.Path.{◌≡◌, refl, sym, ap, ◌∙◌}
use mathlib.Core.Bool.{Bool, true, false, ◌&&◌, and-false}
use mathlib.Core.List.{List, [], ◌∷◌}
use native.Mathlib.Omega.{arith}
use native.Mathlib.Numerals.{add-one}
use lib.ListN.{length, take, drop, get_or, length-append, length-drop}
use lib.Seq.{take_all}
use lib.Dec.{eqb}
use borrow.Author.Tests.{eq-eqb, ne_eqb}
use Rattle.format.specs.Bytes.{same, starts}
use Rattle.byte_slices.proofs.Equal.{same-other}
use Rattle.lists.proofs.Bools.{eqb-sym}
use Rattle.add_ids.specs.Taken.{joined}

pub joined_length : (prefix id : List ℕ) → length (joined prefix id) ≡ length prefix + suc (length id)
unfolding joined
joined_length prefix id = length-append prefix (45 ∷ id)

-- another length
pub joined-other : (prefix id s : List ℕ) → (length s ≡ length prefix + suc (length id) → ⊥) → same (joined prefix id) s ≡ false
joined-other prefix id s n = same-other (joined prefix id) s (λ e. n (ap length (sym e) ∙ joined_length prefix id))

-- part by part
joined-parts : (prefix id s : List ℕ) → length prefix < length s
    → same (joined prefix id) s ≡ (starts prefix s && (eqb (get_or s (length prefix) 0) 45 && same id (drop (suc (length prefix)) s)))
unfolding joined same starts
joined-parts [] id [] h = absurd (omega arith)
joined-parts [] id (b ∷ s) h = ap (λ t. t && same id s) (eqb-sym 45 b)
joined-parts (a ∷ prefix) id [] h = absurd (omega arith)
joined-parts (a ∷ prefix) id (b ∷ s) h =
    go (eqb a b) (starts prefix s) (eqb (get_or s (length prefix) 0) 45 && same id (drop (suc (length prefix)) s)) (same (joined prefix id) s) (joined-parts prefix id s (omega arith))
  where
    go : (x y z w : Bool) → w ≡ y && z → x && w ≡ (x && y) && z
    go true y z w ih = ih
    go false y z w ih = refl

module _ (prefix id s : List ℕ) (h : length prefix < length s) where
  pub joined-dash : (get_or s (length prefix) 0 ≡ 45 → ⊥) → same (joined prefix id) s ≡ false
  joined-dash n = joined-parts prefix id s h ∙ rw (ne_eqb (get_or s (length prefix) 0) 45 n) (and-false (starts prefix s))

  pub joined-front : starts prefix s ≡ false → same (joined prefix id) s ≡ false
  joined-front e = joined-parts prefix id s h ∙ rw e refl

  pub joined-rest : starts prefix s ≡ true → get_or s (length prefix) 0 ≡ 45
      → same (joined prefix id) s ≡ same id (take (length s - (length prefix + 1)) (drop (length prefix + 1) s))
  joined-rest e d =
      joined-parts prefix id s h
      ∙ rw (e, eq-eqb (get_or s (length prefix) 0) 45 d, ← add-one (length prefix))
      (ap (same id) (sym (take_all (length s - (length prefix + 1)) (drop (length prefix + 1) s) (omega (arith, length-drop (length prefix + 1) s)))))

-- the ID decides
pub joined_same : (prefix a b : List ℕ) → same (joined prefix a) (joined prefix b) ≡ same a b
unfolding joined same
joined_same [] a b = refl
joined_same (x ∷ prefix) a b = rw (eq-eqb x x refl) (joined_same prefix a b)

-- the prefix by itself is another
pub joined-prefix : (prefix id : List ℕ) → same (joined prefix id) prefix ≡ false
joined-prefix prefix id = joined-other prefix id prefix (λ e. omega arith)
