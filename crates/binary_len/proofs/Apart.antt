-- Bytes that are a binary header to binary in are those whose length as a header is their whole length.
use Prim.Native.Nat.{ℕ, zero, suc, ◌+◌, ◌-◌, ◌≤◌, ◌<◌}
use mathlib.Core.Path.{◌≡◌, refl, sym, ap, ◌∙◌}
use mathlib.Core.Bool.{Bool, true, false, cond}
use mathlib.Core.Logic.{◌⊎◌, inl, inr, ⊎_elim}
use mathlib.Core.List.{List, ◌∷◌}
use mathlib.Core.Option.{Option, none, some}
use native.Mathlib.Omega.{arith}
use Rattle.std.specs.Prelude.{Some}
use lib.ListN.{length, take, drop, get_or, length-drop}
use lib.Seq.{length-take-le, get_or-take, get_or-drop}
use lib.Dec.{eqb, leb}
use borrow.Author.Tests.{eq-eqb, ne_eqb, eqb-true, eqb-false, leb-true, leb-false}
use Rattle.format.specs.Bytes.{none?, starts}
use Rattle.format.specs.Programs.{last_or}
use Rattle.format.specs.Little.{of_little}
use Rattle.format.specs.References.{Reference}
use Rattle.format.specs.Binary.{magic, and_then, take_number, take_sized, closed_name, take_reference, take_list, take_both}
use Rattle.binary_parts.specs.declared.NumberAt.{NumberAt}
use Rattle.binary_parts.specs.Parts.{number_taken, is_whole}
use Rattle.binary_parts.proofs.Taken.{number_short, number-at, sized-short, sized-at}
use Rattle.binary_parts.proofs.Closed.{closed-last, closed-name, open-name}
use Rattle.binary_parts.proofs.Listed.{list-end}
use Rattle.binary_parts.proofs.Both.{started, other-start, start-long}
use Rattle.binary_len.specs.BinaryLen.{BinaryLen}
use Rattle.binary_len.specs.declared.Len.TheVariants.{Whole, More}
use Rattle.std.specs.Prelude.{Ok, Err}
use Rattle.binary_len.specs.BinaryLen.{part, onward, number_at, reference_at, references_at, binary_len}
use Rattle.binary_len.specs.Laws.{some?, is_binary}
use Rattle.binary_len.proofs.PartByPart.{part-there, part_cut, length_cut, name-none, name-cut, name-open, name-closed, start-cut, start-other, text-length-cut, text-cut, count_cut, list_at}
use Rattle.binary_len.proofs.Grown.{Says, says-reference}

-- two numbers in order
le-lt : (m n : ℕ) → (m ≤ n) ⊎ (n < m)
le-lt m n = go (leb m n) refl
  where
    go : (t : Bool) → leb m n ≡ t → (m ≤ n) ⊎ (n < m)
    go true q = inl (leb-true m n q)
    go false q = inr (leb-false m n q)

is-or-not : (m n : ℕ) → (m ≡ n) ⊎ (m ≡ n → ⊥)
is-or-not m n = go (eqb m n) refl
  where
    go : (t : Bool) → eqb m n ≡ t → (m ≡ n) ⊎ (m ≡ n → ⊥)
    go true q = inl (eqb-true m n q)
    go false q = inr (eqb-false m n q)

-- ---- what is left after what was taken

unfoldable rest : {A : Type 0} → Option (A × List ℕ) → Option (List ℕ)
rest none = none
rest (some p) = some p.1

unfoldable behind : List ℕ → BinaryLen → Option (List ℕ)
behind s (Ok (Whole n)) = some (drop n s)
behind s (Ok (More n)) = none
behind s (Err n) = none

-- ---- the last byte of a run

module _ (s : List ℕ) (at n : ℕ) (h : at + n ≤ length s) where
  run_length : length (take n (drop at s)) ≡ n
  run_length = length-take-le n (drop at s) (omega (arith, length-drop at s))

  run-last : (n ≡ 0 → ⊥) → eqb (last_or 1 (take n (drop at s))) 0 ≡ eqb (get_or s (at + n - 1) 0) 0
  run-last k =
      let run : List ℕ = take n (drop at s) in
      let z : at + (n - 1) ≡ at + n - 1 = omega arith in
      sym (closed-last run (λ e. k (sym run_length ∙ e)))
      ∙ ap (λ m. eqb (get_or run (m - 1) 0) 0) run_length
      ∙ ap (λ b. eqb b 0) (get_or-take n (drop at s) (n - 1) 0 (omega arith) ∙ get_or-drop at s (n - 1) 0 ∙ ap (λ m. get_or s m 0) z)

-- ---- a reference

module _ (s : List ℕ) (at : ℕ) (h : at ≤ length s) where
  number : NumberAt
  number = record { value = number_at s at; next = at + 4 }

  -- the length is cut
  reference-cut : length s < at + 4 → rest (take_reference (drop at s)) ≡ behind s (reference_at s at)
  unfolding rest behind take_reference take_sized and_then
  reference-cut k = rw (number_short s at (omega arith), length_cut s at (number_at s at) refl k) refl

  module _ (k : at + 4 ≤ length s) where
    taken : take_number (drop at s) ≡ number_taken s (Some number)
    unfolding number_taken number number_at
    taken = number-at s at (omega arith)

    -- the name is cut
    reference-short : length s < at + 4 + number_at s at → rest (take_reference (drop at s)) ≡ behind s (reference_at s at)
    unfolding rest behind take_reference and_then number
    reference-short l =
        rw (sized-short s at number taken (omega arith), name-cut s at (number_at s at) refl k (λ z. omega arith) l) refl

    module _ (l : at + 4 + number_at s at ≤ length s) where
      run : List ℕ
      run = take (number_at s at) (drop (at + 4) s)

      sized : take_sized (drop at s) ≡ some (take (number_at s at) (drop (at + 4) s), drop (at + 4 + number_at s at) s)
      unfolding number
      sized = sized-at s at number taken (omega arith)

      reference-none : number_at s at ≡ 0 → rest (take_reference (drop at s)) ≡ behind s (reference_at s at)
      unfolding rest behind take_reference and_then last_or
      reference-none z =
          let o : closed_name (take (number_at s at) (drop (at + 4) s)) ≡ none = open-name (take (number_at s at) (drop (at + 4) s)) (ap (λ m. eqb (last_or 1 (take m (drop (at + 4) s))) 0) z) in
          rw (sized, o, name-none s at (number_at s at) refl k z) refl

      module _ (z : number_at s at ≡ 0 → ⊥) where
        reference-open : (get_or s (at + 4 + number_at s at - 1) 0 ≡ 0 → ⊥) → rest (take_reference (drop at s)) ≡ behind s (reference_at s at)
        unfolding rest behind take_reference and_then
        reference-open b =
            let o : closed_name (take (number_at s at) (drop (at + 4) s)) ≡ none =
            open-name (take (number_at s at) (drop (at + 4) s)) (run-last s (at + 4) (number_at s at) l z ∙ ne_eqb (get_or s (at + 4 + number_at s at - 1) 0) 0 b) in
            rw (sized, o, name-open s at (number_at s at) refl k z l b) refl

        module _ (b : get_or s (at + 4 + number_at s at - 1) 0 ≡ 0) where
          named : (name : List ℕ) → closed_name (take (number_at s at) (drop (at + 4) s)) ≡ some name
              → rest (take_reference (drop at s)) ≡ rest (take_number (drop (at + 4 + number_at s at) s))
          unfolding rest take_reference and_then
          named name o = rw (sized, o) (go (take_number (drop (at + 4 + number_at s at) s)))
            where
              go : (m : Option (ℕ × List ℕ)) → rest (and_then {A = ℕ × List ℕ} {B = Reference × List ℕ} m (λ x. some (record { name = name; size = x.0 }, x.1))) ≡ rest m
              go none = refl
              go (some p) = refl

          reference-closed : rest (take_reference (drop at s)) ≡ rest (take_number (drop (at + 4 + number_at s at) s))
          reference-closed =
              named _ (closed-name (take (number_at s at) (drop (at + 4) s)) (run-last s (at + 4) (number_at s at) l z ∙ eq-eqb (get_or s (at + 4 + number_at s at - 1) 0) 0 b))

          last : rest (take_number (drop (at + 4 + number_at s at) s)) ≡ behind s (part s (at + 4 + number_at s at + 4))
          unfolding rest behind
          last = ⊎_elim
              (λ q. rw (number-at s (at + 4 + number_at s at) (omega arith), part-there s (at + 4 + number_at s at + 4) q) refl)
              (λ q. rw (number_short s (at + 4 + number_at s at) (omega arith), part_cut s (at + 4 + number_at s at + 4) q) refl)
              (le-lt (at + 4 + number_at s at + 4) (length s))

          reference-whole : rest (take_reference (drop at s)) ≡ behind s (reference_at s at)
          reference-whole = reference-closed ∙ last ∙ ap (behind s) (sym (name-closed s at (number_at s at) refl k z l b))

  reference-apart : rest (take_reference (drop at s)) ≡ behind s (reference_at s at)
  reference-apart =
      ⊎_elim
      (λ k. ⊎_elim
      (λ l. ⊎_elim (reference-none k l) (λ z. ⊎_elim (reference-whole k l z) (reference-open k l z) (is-or-not (get_or s (at + 4 + number_at s at - 1) 0) 0)) (is-or-not (number_at s at) 0))
      (reference-short k) (le-lt (at + 4 + number_at s at) (length s)))
      reference-cut (le-lt (at + 4) (length s))

-- ---- references

unfoldable whole_on : ℕ → Option (List ℕ) → Bool
unfolding is_whole
whole_on n none = false
whole_on n (some s) = is_whole (take_list n s)

-- are the bytes a header of all their length?
unfoldable pub ends : List ℕ → BinaryLen → Bool
ends s (Ok (Whole n)) = eqb n (length s)
ends s (Ok (More n)) = false
ends s (Err n) = false

list-rest : (n : ℕ) (s : List ℕ) → is_whole (take_list (suc n) s) ≡ whole_on n (rest (take_reference s))
unfolding whole_on rest take_list is_whole and_then
list-rest n s = go (take_reference s)
  where
    inner : (r : Reference) (o : Option (List Reference × List ℕ))
        → is_whole (and_then {A = List Reference × List ℕ} {B = List Reference × List ℕ} o (λ rs. some (r ∷ rs.0, rs.1))) ≡ is_whole o
    inner r none = refl
    inner r (some p) = refl

    go : (o : Option (Reference × List ℕ))
        → is_whole (and_then {A = Reference × List ℕ} {B = List Reference × List ℕ} o (λ r. and_then {A = List Reference × List ℕ} {B = List Reference × List ℕ} (take_list n r.1) (λ rs. some (r.0 ∷ rs.0, rs.1)))) ≡ whole_on n (rest o)
    go none = refl
    go (some p) = inner p.0 (take_list n p.1)

pub list-apart : (s : List ℕ) (n at : ℕ) → at ≤ length s → is_whole (take_list n (drop at s)) ≡ ends s (references_at s at n)
unfolding Says whole_on behind ends references_at
list-apart s zero at h = sym (list-end s at h)
list-apart s (suc n) at h =
    list-rest n (drop at s) ∙ ap (whole_on n) (reference-apart s at h) ∙ go (reference_at s at) (says-reference s at) (list-apart s n)
  where
    go : (a : BinaryLen) → Says s a → ((at : ℕ) → at ≤ length s → is_whole (take_list n (drop at s)) ≡ ends s (references_at s at n))
        → whole_on n (behind s a) ≡ ends s (onward a (λ next. references_at s next n))
    go (Ok (Whole m)) k ih = ih m k
    go (Ok (More m)) k ih = refl
    go (Err m) k ih = refl

-- ---- the whole

whole-list : (text : List ℕ) (o : Option (List Reference × List ℕ))
    → some? (and_then {A = List Reference × List ℕ} {B = List ℕ × List Reference} o (λ list. cond (none? list.1) (some (text, list.0)) none)) ≡ is_whole o
unfolding some? and_then is_whole
whole-list text none = refl
whole-list text (some p) = go (none? p.1)
  where
    go : (t : Bool) → some? {A = List ℕ × List Reference} (cond t (some (text, p.0)) none) ≡ t
    go true = refl
    go false = refl

module _ (s : List ℕ) where
  -- another start
  apart_other : starts magic s ≡ false → is_binary s ≡ ends s (binary_len s)
  unfolding is_binary some? ends
  apart_other e = rw (other-start s e) (go (starts s magic) refl)
    where
      go : (t : Bool) → starts s magic ≡ t → false ≡ ends s (binary_len s)
      go true q = rw (start-cut s e q) refl
      go false q = rw (start-other s e q) refl

  module _ (e : starts magic s ≡ true) where
    begun : is_binary s ≡ some? (take_both (drop 4 s))
    unfolding is_binary
    begun = ap some? (started s e)

    apart-cut : length s < 8 → is_binary s ≡ ends s (binary_len s)
    unfolding some? ends take_both take_sized and_then
    apart-cut h = begun ∙ rw (number_short s 4 (omega (arith, start-long s e)), text-length-cut s e h) refl

    module _ (h : 8 ≤ length s) where
      first : NumberAt
      first = record { value = number_at s 4; next = 8 }

      first_taken : take_number (drop 4 s) ≡ number_taken s (Some first)
      unfolding number_taken first number_at
      first_taken = number-at s 4 (omega arith)

      apart-text : length s < 8 + number_at s 4 → is_binary s ≡ ends s (binary_len s)
      unfolding some? ends take_both and_then first
      apart-text k = begun ∙ rw (sized-short s 4 first first_taken (omega arith), text-cut s e h (number_at s 4) refl k) refl

      module _ (k : 8 + number_at s 4 ≤ length s) where
        text : take_sized (drop 4 s) ≡ some (take (number_at s 4) (drop 8 s), drop (8 + number_at s 4) s)
        unfolding first
        text = sized-at s 4 first first_taken (omega arith)

        apart-count : length s < 8 + number_at s 4 + 4 → is_binary s ≡ ends s (binary_len s)
        unfolding some? ends take_both and_then
        apart-count l = begun ∙ rw (text, number_short s (8 + number_at s 4) (omega arith), count_cut s e h (number_at s 4) refl k l) refl

        apart-list : 8 + number_at s 4 + 4 ≤ length s → is_binary s ≡ ends s (binary_len s)
        unfolding take_both and_then number_at
        apart-list l =
            let at : ℕ = 8 + number_at s 4 in
            let c : take_number (drop at s) ≡ some (of_little (take 4 (drop at s)), drop (at + 4) s) = number-at s at (omega arith) in
            begun
            ∙ rw (text, c)
            (whole-list (take (number_at s 4) (drop 8 s)) (take_list (number_at s at) (drop (at + 4) s)) ∙ list-apart s (number_at s at) (at + 4) l
            ∙ ap (ends s) (sym (list_at s e h (number_at s 4) refl k l)))

  pub apart : is_binary s ≡ ends s (binary_len s)
  apart = go (starts magic s) refl
    where
      go : (t : Bool) → starts magic s ≡ t → is_binary s ≡ ends s (binary_len s)
      go true e =
          ⊎_elim (λ h. ⊎_elim (λ k. ⊎_elim (apart-list e h k) (apart-count e h k) (le-lt (8 + number_at s 4 + 4) (length s))) (apart-text e h) (le-lt (8 + number_at s 4) (length s)))
          (apart-cut e) (le-lt 8 (length s))
      go false e = apart_other e
