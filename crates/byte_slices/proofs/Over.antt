-- The laws of `over`: its length, its parts, a run of stores, and two writes in a row or at one place. Assumes nothing.
use Prim.Native.Nat.{ℕ, ◌+◌, ◌-◌, ◌≤◌}
use mathlib.Core.Path.{◌≡◌, refl, sym, ap, ◌∙◌}
use mathlib.Core.List.{List, [], ◌∷◌, ◌++◌, append_assoc, append-nil}
use native.Mathlib.Omega.{arith}
use native.Mathlib.Numerals.{add-one, add-two, add-three}
use native.Mathlib.Nat.{add_assoc, add-zero}
use lib.ListN.{length, take, drop, set, length-append, length-drop, take-append-drop}
use lib.Seq.{sets-eq, take-length, length-take-le, take_at, drop_at, take-append_seam, drop-append-add, drop-drop}
use borrow.Rule.Slice.PartMut.{put_mid}
use Rattle.std.proofs.lemmas.Slice.{put_mid-paste}
use Rattle.byte_slices.specs.Over.{over}

pub over-length : (out : List ℕ) (at : ℕ) (xs : List ℕ) → at + length xs ≤ length out → length (over out at xs) ≡ length out
unfolding over
over-length out at xs h =
    let p : length (take at out) ≡ at = length-take-le at out (omega arith) in
    let d : length (drop (at + length xs) out) ≡ length out - (at + length xs) = length-drop (at + length xs) out in
    omega (arith, length-append (take at out ++ xs) (drop (at + length xs) out), length-append (take at out) xs, p, d)

pub over_none : (out : List ℕ) (at : ℕ) → over out at [] ≡ out
unfolding over
over_none out at = rw (append-nil (take at out), add-zero at) (take-append-drop at out)

-- up to the end of what is written
pub over-take : (out : List ℕ) (at : ℕ) (xs : List ℕ) → at ≤ length out → take (at + length xs) (over out at xs) ≡ take at out ++ xs
unfolding over
over-take out at xs h =
    take_at (take at out ++ xs) (drop (at + length xs) out) (at + length xs) (omega (arith, length-append (take at out) xs, length-take-le at out h))

-- after it
pub over-drop : (out : List ℕ) (at : ℕ) (xs : List ℕ) → at ≤ length out → drop (at + length xs) (over out at xs) ≡ drop (at + length xs) out
unfolding over
over-drop out at xs h =
    drop_at (take at out ++ xs) (drop (at + length xs) out) (at + length xs) (omega (arith, length-append (take at out) xs, length-take-le at out h))

-- before it
pub over-front : (out : List ℕ) (at : ℕ) (xs : List ℕ) → at ≤ length out → take at (over out at xs) ≡ take at out
unfolding over
over-front out at xs h =
    rw (append_assoc (take at out) xs (drop (at + length xs) out)) (take_at (take at out) (xs ++ drop (at + length xs) out) at (length-take-le at out h))

-- what is written itself
pub over-part : (out : List ℕ) (at : ℕ) (xs : List ℕ) → at ≤ length out → take (length xs) (drop at (over out at xs)) ≡ xs
unfolding over
over-part out at xs h =
    rw (append_assoc (take at out) xs (drop (at + length xs) out), drop_at (take at out) (xs ++ drop (at + length xs) out) at (length-take-le at out h))
    (take-append_seam xs (drop (at + length xs) out))

-- what is written in its place
pub over-again : (out : List ℕ) (at : ℕ) (xs ys : List ℕ) → at ≤ length out → length xs ≡ length ys → over (over out at xs) at ys ≡ over out at ys
unfolding over
over-again out at xs ys h e = rw (← e, over-front out at xs h, over-drop out at xs h) refl

-- what std writes into the part from `at` on
pub put_over : (out xs : List ℕ) (at k : ℕ) → k ≡ length xs → put_mid at k out xs ≡ over out at xs
unfolding over
put_over out xs at k e = put_mid-paste at k out xs xs (length xs) refl (sym e) refl ∙ rw (take-length xs) refl

-- four stores in a row
pub over-four : (out : List ℕ) (at a b c d : ℕ) → at + 4 ≤ length out
    → set (set (set (set out at a) (at + 1) b) (at + 2) c) (at + 3) d ≡ over out at (a ∷ b ∷ c ∷ d ∷ [])
unfolding over
over-four out at a b c d h = rw (add-one at, add-two at, add-three at) (sets-eq (a ∷ b ∷ c ∷ d ∷ []) out at h)

-- what is written next
pub over-over : (out : List ℕ) (at : ℕ) (xs ys : List ℕ) → at + length xs + length ys ≤ length out
    → over (over out at xs) (at + length xs) ys ≡ over out at (xs ++ ys)
unfolding over
over-over out at xs ys h =
    let a : List ℕ = take at out ++ xs in
    let m : length a ≡ at + length xs =
    omega (arith, length-append (take at out) xs, length-take-le at out (omega arith)) in
    ap (λ l. l ++ ys ++ drop (at + length xs + length ys) (a ++ drop (at + length xs) out)) (take_at a (drop (at + length xs) out) (at + length xs) m)
    ∙ ap (λ l. a ++ ys ++ l)
    (ap (λ k. drop (k + length ys) (a ++ drop (at + length xs) out)) (sym m)
    ∙ drop-append-add a (drop (at + length xs) out) (length ys)
    ∙ drop-drop (length ys) (at + length xs) out)
    ∙ ap (λ k. a ++ ys ++ drop k out) (add_assoc at (length xs) (length ys) ∙ ap (λ k. at + k) (sym (length-append xs ys)))
    ∙ ap (λ l. l ++ drop (at + length (xs ++ ys)) out) (append_assoc (take at out) xs ys)
