-- The lines of a text from an offset on, one by one: a step of a loop takes the first of them.
use Prim.Native.Nat.{ℕ, ◌+◌, ◌-◌, ◌≤◌, ◌<◌}
use mathlib.Core.Path.{◌≡◌, sym, ap, ◌∙◌}
use mathlib.Core.List.{List, [], ◌∷◌}
use native.Mathlib.Omega.{arith}
use lib.ListN.{length, take, drop, length-drop, drop_of_length-le}
use lib.Seq.{take_all, drop-drop, length-take-le}
use Rattle.format.specs.Lines.{Piece, lines_from}
use Rattle.byte_slices.specs.First.{first_line}
use Rattle.byte_slices.specs.Stands.{Stands}
use Rattle.byte_slices.specs.declared.Cut.{Cut}
use Rattle.byte_slices.proofs.Lines.{lines_none}
use Rattle.byte_slices.proofs.First.{first-le, first-within, first_some, lines-first}
use Rattle.accepted.specs.First.{first_at}

-- the lines from an offset on
abbrev pub ahead : List ℕ → ℕ → List Piece
ahead t at = lines_from at (drop at t)

-- no line is left
pub ahead_none : (t : List ℕ) (at : ℕ) → length t ≤ at → ahead t at ≡ []
ahead_none t at h = ap (lines_from at) (drop_of_length-le t h) ∙ lines_none at

module _ (t : List ℕ) (at : ℕ) (h : at < length t) where
  some : 0 < length (drop at t)
  some = omega (arith, length-drop at t, h)

  -- the first line, and the lines after it
  pub ahead-one : ahead t at ≡ first_at at t ∷ ahead t (at + (first_line (drop at t)).next)
  ahead-one = lines-first at (drop at t) some ∙ ap (λ s. first_at at t ∷ lines_from (at + (first_line (drop at t)).next) s) (drop-drop (first_line (drop at t)).next at t)

  pub first-length : length (first_at at t).bytes ≡ (first_line (drop at t)).len
  first-length = length-take-le (first_line (drop at t)).len (drop at t) (omega (arith, first-le (drop at t), first-within (drop at t)))

  pub next-within : at + (first_line (drop at t)).next ≤ length t
  next-within = omega (arith, first-within (drop at t), length-drop at t, h)

  pub next_more : at < at + (first_line (drop at t)).next
  next_more = omega (arith, first_some (drop at t) some)

  -- it is in the text
  pub ahead-stands : Stands t 0 (first_at at t)
  ahead-stands =
      record {
        from = omega arith;
        within = omega (arith, first-length, next-within, first-le (drop at t));
        bytes = ap (λ k. take k (drop at t)) (sym first-length) ∙ ap (λ k. take (length (first_at at t).bytes) (drop k t)) (let z : at ≡ at - 0 = omega arith in z);
      }

-- ---- in a step the line was cut to `c`

-- the part of the text that it is lent as
abbrev pub lent : List ℕ → ℕ → ℕ → List ℕ
lent t at n = take (at + n - at) (drop at t)

pub record Ahead (t : List ℕ) (at : ℕ) (c : Cut) : Type 0 where
  pub inside : at + c.len ≤ length t
  pub onward : 0 < c.next
  pub within : at + c.next ≤ length t
  pub size : length (lent t at c.len) ≡ c.len
  pub cut : c ≡ first_line (drop at t)
  pub bytes : lent t at c.len ≡ (first_at at t).bytes
  pub split : ahead t at ≡ record { at = at; bytes = lent t at c.len } ∷ ahead t (at + c.next)

pub ahead-turn : (t : List ℕ) (at : ℕ) → at < length t → (c : Cut) → c ≡ first_line (take (length t - at) (drop at t)) → Ahead t at c
ahead-turn t at h c e =
    let cut : c ≡ first_line (drop at t) = e ∙ ap first_line (take_all (length t - at) (drop at t) (omega (arith, length-drop at t))) in
    let bound : (c.len ≤ c.next) × (at + c.next ≤ length t) × (at < at + c.next) = rw cut (first-le (drop at t), next-within t at h, next_more t at h) in
    let bytes : lent t at c.len ≡ (first_at at t).bytes = ap (λ n. take n (drop at t)) (let z : at + c.len - at ≡ c.len = omega arith in z ∙ ap (λ c. c.len) cut) in
    record {
      inside = omega (arith, bound);
      onward = omega (arith, bound);
      within = omega (arith, bound);
      size = ap length bytes ∙ first-length t at h ∙ ap (λ c. c.len) (sym cut);
      cut = cut;
      bytes = bytes;
      split = rw (bytes, cut) (ahead-one t at h);
    }
