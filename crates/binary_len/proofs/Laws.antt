-- The laws of a binary header's length.
use Prim.Native.Nat.{ℕ, zero, suc, ◌+◌, ◌≤◌}
use mathlib.Core.Path.{◌≡◌, refl, sym, ap, ◌∙◌}
use mathlib.Core.Bool.{true, false≢true}
use mathlib.Core.Option.{Option, none, some}
use mathlib.Core.List.{List, ◌++◌, append_assoc}
use native.Mathlib.Omega.{arith}
use lib.ListN.{length, take, drop, length-append, length-take, take-append-drop}
use lib.Seq.{length-take-le, take-append_seam, take_all}
use borrow.Author.Tests.{eq-eqb, eqb-true}
use Rattle.lists.proofs.Bools.{never}
use Rattle.format.specs.Binary.{binary, binary_parts}
use Rattle.binary_bytes.proofs.Parts.{parts-back}
use Rattle.binary_laws.proofs.Refusal.{taken-apart}
use Rattle.binary_len.specs.BinaryLen.{BinaryLen}
use Rattle.binary_len.specs.declared.Len.TheVariants.{Whole, More}
use Rattle.std.specs.Prelude.{Ok, Err}
use Rattle.binary_len.specs.BinaryLen.{binary_len}
use Rattle.binary_len.specs.Step.{at_first, Resumes}
use Rattle.binary_len.specs.Laws.{some?, is_binary, WholeIsBinary, BinaryIsWhole, OneLength, WholeIsNot28, WrittenIsWhole}
use Rattle.binary_len.specs.Laws.{MoreIsMore, MoreIsNeeded, RefusedStays, WholeStays, on_more, lending, LendingEnds, Reached, FirstReached, NextReached}
use Rattle.binary_len.proofs.Grown.{Says, says, Later, Grown, grown}
use Rattle.binary_len.proofs.Apart.{ends, apart}
use Rattle.binary_len.proofs.Resume.{from_start}

-- ---- of one answer

whole-within : (s : List ℕ) (n : ℕ) → binary_len s ≡ Ok (Whole n) → n ≤ length s
unfolding Says
whole-within s n e = rw e at (says s)

pub more-is-more : MoreIsMore
unfolding MoreIsMore Says
more-is-more s n e = rw e at (says s)

refused-28 : (s : List ℕ) (n : ℕ) → binary_len s ≡ Err n → n ≡ 28
unfolding Says
refused-28 s n e = rw e at (says s)

-- ---- of a longer front

pub whole-stays : WholeStays
unfolding WholeStays Grown
whole-stays s rest n e = rw e at (grown s rest)

pub refused-stays : RefusedStays
unfolding RefusedStays Grown
refused-stays s rest n e =
    let k : n ≡ 28 = refused-28 s n e in
    (k, (rw e at (grown s rest)) ∙ ap Err k)

pub more-is-needed : MoreIsNeeded
unfolding MoreIsNeeded Grown Later
more-is-needed s rest m n e f = rw (e, f) at (grown s rest)

-- ---- exactly

ends-whole : (s : List ℕ) (a : BinaryLen) → ends s a ≡ true → a ≡ Ok (Whole (length s))
unfolding ends
ends-whole s (Ok (Whole n)) e = ap (λ n. Ok (Whole n)) (eqb-true n (length s) e)
ends-whole s (Ok (More n)) e = absurd (false≢true e)
ends-whole s (Err n) e = absurd (false≢true e)

-- a front whose length as a header is all of it
front-whole : (t rest : List ℕ) → binary_len (t ++ rest) ≡ Ok (Whole (length t)) → binary_len t ≡ Ok (Whole (length t))
unfolding Says Grown Later
front-whole t rest e = go (binary_len t) (says t) (grown t rest)
  where
    go : (a : BinaryLen) → Says t a → Grown a (binary_len (t ++ rest)) → a ≡ Ok (Whole (length t))
    go (Ok (Whole n)) h g = sym g ∙ e
    go (Ok (More n)) h g = let l : n ≤ length t = rw e at g in absurd (omega arith)
    go (Err n) h g = absurd (never (cc))

pub whole-is-binary : WholeIsBinary
unfolding WholeIsBinary ends
whole-is-binary s n e =
    let h : n ≤ length s = whole-within s n e in
    let l : length (take n s) ≡ n = length-take-le n s h in
    let q : binary_len (take n s ++ drop n s) ≡ Ok (Whole (length (take n s))) = ap binary_len (take-append-drop n s) ∙ e ∙ ap (λ n. Ok (Whole n)) (sym l) in
    (h, apart (take n s) ∙ ap (ends (take n s)) (front-whole (take n s) (drop n s) q) ∙ eq-eqb (length (take n s)) (length (take n s)) refl)

pub binary-is-whole : BinaryIsWhole
unfolding BinaryIsWhole WholeStays
binary-is-whole s n h e =
    let l : length (take n s) ≡ n = length-take-le n s h in
    let q : binary_len (take n s) ≡ Ok (Whole n) = ends-whole (take n s) (binary_len (take n s)) (sym (apart (take n s)) ∙ e) ∙ ap (λ n. Ok (Whole n)) l in
    ap binary_len (sym (take-append-drop n s)) ∙ whole-stays (take n s) (drop n s) n q

pub one-length : OneLength
unfolding OneLength BinaryIsWhole
one-length s m n h k e f =
    let p : ◌≡◌ {A = BinaryLen} (Ok (Whole m)) (Ok (Whole n)) = sym (binary-is-whole s m h e) ∙ binary-is-whole s n k f in
    cc

-- ---- what was written

pub written-is-whole : WrittenIsWhole
unfolding WrittenIsWhole BinaryIsWhole is_binary some?
written-is-whole t list rest h k a =
    let b : List ℕ = binary t list in
    binary-is-whole (b ++ rest) (length b) (omega (arith, length-append b rest))
    (ap is_binary (take-append_seam b rest) ∙ ap some? (parts-back t list h k a))

-- ---- binary in

some_is : {A : Type 0} (o : Option A) → some? o ≡ true → (P : Type 0) → ((a : A) → o ≡ some a → P) → P
unfolding some?
some_is none e P f = absurd (false≢true e)
some_is (some a) e P f = f a refl

pub whole-is-not-28 : WholeIsNot28
unfolding WholeIsNot28 WholeIsBinary is_binary
whole-is-not-28 s n room l e f = some_is (binary_parts (take n s)) (whole-is-binary s n e).1 ⊥ (λ p q. taken-apart (take n s) room l p q f)

-- ---- lending more

module _ (s : List ℕ) where
  -- a front, and the rest
  front : (m : ℕ) → binary_len s ≡ binary_len (take m s ++ drop m s)
  front m = ap binary_len (sym (take-append-drop m s))

  lends : (k m : ℕ) → length s ≤ k + m → lending k s m ≡ binary_len s
  unfolding lending on_more MoreIsMore WholeStays RefusedStays
  lends zero m h = ap binary_len (take_all m s (omega arith))
  lends (suc k) m h = go (binary_len (take m s)) refl (λ n. lends k n)
    where
      go : (a : BinaryLen) → binary_len (take m s) ≡ a → ((n : ℕ) → length s ≤ k + n → lending k s n ≡ binary_len s) → on_more a (lending k s) ≡ binary_len s
      go (Ok (Whole n)) e ih = sym (front m ∙ whole-stays (take m s) (drop m s) n e)
      go (Ok (More n)) e ih = ih n (omega (arith, more-is-more (take m s) n e, length-take m s))
      go (Err n) e ih = let r = refused-stays (take m s) (drop m s) n e in ap Err r.0 ∙ sym (front m ∙ r.1)

pub lending-ends : LendingEnds
unfolding LendingEnds
lending-ends s = lends s (length s) 0 (omega arith)

-- ---- with a cursor

pub first-reached : FirstReached
unfolding FirstReached Reached at_first
first-reached s rest = from_start at_first (s ++ rest) refl

pub next-reached : NextReached
unfolding NextReached Reached Resumes
next-reached s more c next n h k rest = k rest ∙ rw append_assoc (h (more ++ rest))
