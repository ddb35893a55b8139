-- Where lines and pieces are in their text, and which byte they do not hold.
use Prim.Native.Nat.{ℕ, zero, suc, ◌+◌, ◌-◌, ◌≤◌, ◌<◌}
use mathlib.Core.Path.{◌≡◌, refl, sym, ◌∙◌}
use mathlib.Core.Logic.{⊎_elim}
use mathlib.Core.List.{List, [], ◌∷◌}
use native.Mathlib.Omega.{arith}
use lib.ListN.{length, take, drop, length-drop}
use lib.Seq.{length-take-le, drop-drop}
use Rattle.format.specs.Lines.{Piece, lines_from, cut, placed}
use Rattle.byte_slices.specs.Upto.{upto, before}
use Rattle.byte_slices.specs.First.{first_line}
use Rattle.byte_slices.specs.Stands.{Stands, Each, Free}
use Rattle.byte_slices.proofs.Lines.{upto_le, lines_none}
use Rattle.byte_slices.proofs.Before.{before-free, upto_take, upto-cases}
use Rattle.byte_slices.proofs.First.{first-le, first-within, first_some, first-before, lines-first}
use Rattle.byte_slices.proofs.Pieces.{placed-last, placed-more}

-- ---- what holds of a text at an offset, from what holds of each later part of it

module _ (P : ℕ → List ℕ → Type 0) (step : (at : ℕ) (s : List ℕ) → ((n : ℕ) → 0 < n → n ≤ length s → P (at + n) (drop n s)) → P at s) where
  by-fuel : (f at : ℕ) (s : List ℕ) → length s ≤ f → P at s
  by-fuel zero at s h = step at s (λ n p q. absurd (omega arith))
  by-fuel (suc f) at s h = step at s (λ n p q. by-fuel f (at + n) (drop n s) (omega (arith, length-drop n s)))

  pub by_parts : (at : ℕ) (s : List ℕ) → P at s
  by_parts at s = by-fuel (length s) at s (omega arith)

-- ---- each

pub each_map : {A : Type 0} (P Q : A → Type 0) → ((x : A) → P x → Q x) → (xs : List A) → Each P xs → Each Q xs
unfolding Each
each_map P Q f [] h = tt
each_map P Q f (x ∷ xs) h = (f x h.0, each_map P Q f xs h.1)

-- what holds of each piece's bytes
pub each-bytes : (P : List ℕ → Type 0) (at : ℕ) (ps : List (List ℕ)) → Each (λ p. P p.bytes) (placed at ps) → Each P ps
unfolding Each placed
each-bytes P at [] h = tt
each-bytes P at (p ∷ ps) h = (h.0, each-bytes P (at + length p + 1) ps h.1)

-- ---- where a piece is

pub stands-front : (s : List ℕ) (at n : ℕ) → n ≤ length s → Stands s at (record { at = at; bytes = take n s })
stands-front s at n h =
    let z : at - at ≡ 0 = omega arith in
    let l : length (take n s) ≡ n = length-take-le n s h in
    record { from = omega arith; within = omega arith; bytes = rw (z, l) refl }

-- a piece of a later part is one of the whole
pub stands-onward : (s : List ℕ) (at n : ℕ) → n ≤ length s → (p : Piece) → Stands (drop n s) (at + n) p → Stands s at p
stands-onward s at n h p k =
    let l : length (drop n s) ≡ length s - n = length-drop n s in
    let e : n + (p.at - (at + n)) ≡ p.at - at = omega (arith, k.from) in
    record {
      from = omega (arith, k.from);
      within = omega (arith, k.from, k.within);
      bytes = k.bytes ∙ rw (drop-drop (p.at - (at + n)) n s, e) refl;
    }

-- ---- each line, each piece

-- what holds of the first, and of the others once it holds in the part where they are
module _ (Q : List ℕ → ℕ → Piece → Type 0) (onward : (s : List ℕ) (at n : ℕ) → n ≤ length s → (p : Piece) → Q (drop n s) (at + n) p → Q s at p) where
  pub each_line : ((s : List ℕ) (at : ℕ) → Q s at (record { at = at; bytes = take (first_line s).len s })) → (at : ℕ) (s : List ℕ) → Each (Q s at) (lines_from at s)
  unfolding Each
  each_line front = by_parts (λ at s. Each (Q s at) (lines_from at s)) step
    where
      step : (at : ℕ) (s : List ℕ) → ((n : ℕ) → 0 < n → n ≤ length s → Each (Q (drop n s) (at + n)) (lines_from (at + n) (drop n s))) → Each (Q s at) (lines_from at s)
      step at [] ih = rw (lines_none at) tt
      step at (b ∷ s) ih =
          let t : List ℕ = b ∷ s in
          let n : ℕ = (first_line t).next in
          rw (lines-first at t (omega arith)) (
            front t at,
            each_map (Q (drop n t) (at + n)) (Q t at) (onward t at n (first-within t)) (lines_from (at + n) (drop n t)) (ih n (first_some t (omega arith)) (first-within t)),
          )

  pub each-piece : (d : ℕ) → ((s : List ℕ) (at : ℕ) → Q s at (record { at = at; bytes = before d s })) → (at : ℕ) (s : List ℕ) → Each (Q s at) (placed at (cut d s))
  unfolding Each
  each-piece d front = by_parts (λ at s. Each (Q s at) (placed at (cut d s))) step
    where
      step : (at : ℕ) (s : List ℕ) → ((n : ℕ) → 0 < n → n ≤ length s → Each (Q (drop n s) (at + n)) (placed (at + n) (cut d (drop n s)))) → Each (Q s at) (placed at (cut d s))
      step at s ih = ⊎_elim more (λ h. rw (placed-last d at s h) (front s at, tt)) (upto-cases d s)
        where
          more : upto d s < length s → Each (Q s at) (placed at (cut d s))
          more h =
              let n : ℕ = suc (upto d s) in
              let e : at + upto d s + 1 ≡ at + n = omega arith in
              let p : 0 < n = omega arith in
              rw (placed-more d at s h, e) (
                front s at,
                each_map (Q (drop n s) (at + n)) (Q s at) (onward s at n h) (placed (at + n) (cut d (drop n s))) (ih n p h),
              )

-- ---- where they are

pub lines-stand : (at : ℕ) (s : List ℕ) → Each (Stands s at) (lines_from at s)
lines-stand = each_line Stands stands-onward (λ s at. stands-front s at (first_line s).len (omega (arith, first-le s, first-within s)))

pub pieces-stand : (d at : ℕ) (s : List ℕ) → Each (Stands s at) (placed at (cut d s))
unfolding before
pieces-stand d = each-piece Stands stands-onward d (λ s at. stands-front s at (upto d s) (upto_le d s))

-- ---- what they do not hold

pub lines-free : (at : ℕ) (s : List ℕ) → Each (λ p. Free 10 p.bytes) (lines_from at s)
lines-free = each_line (λ s at p. Free 10 p.bytes) (λ s at n h p k. k) (λ s at.
    upto_take 10 s (first_line s).len (first-before s) ∙ sym (length-take-le (first_line s).len s (omega (arith, first-le s, first-within s))))

pub pieces-free : (d at : ℕ) (s : List ℕ) → Each (λ p. Free d p.bytes) (placed at (cut d s))
pieces-free d = each-piece (λ s at p. Free d p.bytes) (λ s at n h p k. k) d (λ s at. before-free d s)

-- the same for only the bytes
pub cut-free : (d : ℕ) (s : List ℕ) → Each (Free d) (cut d s)
cut-free d s = each-bytes (Free d) 0 (cut d s) (pieces-free d 0 s)
