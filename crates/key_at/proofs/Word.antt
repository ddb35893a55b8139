-- The key at a place, byte after byte.
use Prim.Native.Nat.{ℕ, suc, ◌+◌, ◌≤◌, ◌<◌}
use mathlib.Core.Path.{◌≡◌, refl, sym, ◌∙◌}
use mathlib.Core.Bool.{Bool, true, false, ◌&&◌, cond, false≢true}
use mathlib.Core.List.{List, [], ◌∷◌}
use native.Mathlib.Omega.{arith}
use native.Mathlib.Numerals.{add-one}
use lib.ListN.{length, drop, get_or, drop_of_length-le}
use lib.Seq.{drop-cons}
use lib.Dec.{ltb, eqb}
use borrow.Author.Tests.{ltb-true, ltb-false}
use Rattle.format.specs.Bytes.{same, none?}
use Rattle.key_at.specs.Word.{word}

-- it ends where no byte of 32 or more is left
pub ends-none : (t : List ℕ) (at : ℕ) → length t ≤ at → none? (word (drop at t)) ≡ true
unfolding word none?
ends-none t at h = rw (drop_of_length-le t h) refl

pub ends_at : (t : List ℕ) (at : ℕ) → at < length t → none? (word (drop at t)) ≡ ltb (get_or t at 0) 32
unfolding word none?
ends_at t at h = rw (drop-cons t at 0 h) (go (ltb (get_or t at 0) 32))
  where
    go : (b : Bool) → none? (cond b [] (get_or t at 0 ∷ word (drop (suc at) t))) ≡ b
    go true = refl
    go false = refl

-- a byte that is there
pub ends-within : (t : List ℕ) (at : ℕ) → none? (word (drop at t)) ≡ false → at < length t
ends-within t at e = go (ltb at (length t)) refl
  where
    go : (b : Bool) → ltb at (length t) ≡ b → at < length t
    go true q = ltb-true at (length t) q
    go false q = absurd (false≢true (sym e ∙ ends-none t at (ltb-false at (length t) q)))

-- no key goes on: the other has one more byte
pub same_ended : (id w : List ℕ) → 0 < length id → none? w ≡ true → same id w ≡ false
unfolding same none?
same_ended [] w h e = absurd (omega (arith, h))
same_ended (b ∷ id) [] h e = refl
same_ended (b ∷ id) (c ∷ w) h e = absurd (false≢true e)

-- both have one more byte
pub same-on : (id t : List ℕ) (i at : ℕ) → i < length id → none? (word (drop at t)) ≡ false
    → same (drop i id) (word (drop at t)) ≡ (eqb (get_or id i 0) (get_or t at 0) && same (drop (i + 1) id) (word (drop (at + 1) t)))
unfolding same word none?
same-on id t i at h e =
    let l : at < length t = ends-within t at e in
    let b : ltb (get_or t at 0) 32 ≡ false = sym (ends_at t at l) ∙ e in
    rw (drop-cons id i 0 h, drop-cons t at 0 l, b, add-one i, add-one at) refl

-- nothing is left of `id`
pub same_none : (id w : List ℕ) (i : ℕ) → length id ≤ i → same (drop i id) w ≡ none? w
unfolding same none?
same_none id w i h = rw (drop_of_length-le id h) (go w)
  where
    go : (w : List ℕ) → same [] w ≡ none? w
    go [] = refl
    go (b ∷ w) = refl
