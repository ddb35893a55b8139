-- A walk over the names of a list that writes a number for each and sums another.
use Prim.Native.Nat.{ℕ, suc, ◌+◌, ◌-◌, ◌*◌, ◌≤◌, ◌<◌}
use mathlib.Core.Path.{◌≡◌, refl, sym, ap, ◌∙◌}
use mathlib.Core.List.{List, [], ◌∷◌, map}
use native.Mathlib.Omega.{arith}
use native.Mathlib.Numerals.{add-one}
use lib.ListN.{length, take, drop, set, length-set, length-map}
use lib.Seq.{sets, sets-eq}
use Rattle.byte_slices.specs.Upto.{upto}
use Rattle.byte_slices.specs.Over.{over}
use Rattle.format.specs.Asked.{asked}
use Rattle.format.specs.Summed.{summed}
use Rattle.name_list.proofs.Asked.{asked-none, asked-on}

-- at `at`, `j` names were passed: what is still to be written and summed is that of the names that are left
pub record Asking (write count : List ℕ → ℕ) (list before now : List ℕ) (at j sum : ℕ) : Type 0 where
  pub long : length now ≡ length before
  pub written : sets before 0 (map write (asked list)) ≡ sets now j (map write (asked (drop at list)))
  pub counted : summed count (asked list) ≡ sum + summed count (asked (drop at list))
  pub fits : length (asked list) ≤ length before
  pub room : j + length (asked (drop at list)) ≤ length before
  pub slow : j ≤ at
  pub small : sum ≤ 33554432 * at

module _ (write count : List ℕ → ℕ) (list : List ℕ) where
  pub asking-start : (before : List ℕ) → length (asked list) ≤ length before → Asking write count list before before 0 0 0
  asking-start before h = record { long = refl; written = refl; counted = omega arith; fits = h; room = omega (arith, h); slow = omega arith; small = omega arith }

  module _ (before now : List ℕ) (at j sum : ℕ) (a : Asking write count list before now at j sum) where
    -- no name is left
    pub asking-end : length list ≤ at → (now ≡ over before 0 (map write (asked list))) × (sum ≡ summed count (asked list))
    unfolding over summed
    asking-end h =
        let none : asked (drop at list) ≡ [] = asked-none list at h in (
          sym (a.written ∙ ap (λ xs. sets now j (map write xs)) none) ∙ sets-eq (map write (asked list)) before 0 (omega (arith, length-map (asked list) write, a.fits)),
          omega (arith, a.counted, ap (summed count) none),
        )

    -- one more name
    module _ (n : ℕ) (is : n ≡ upto 10 (take (length list - at) (drop at list))) (l : at < length list) where
      pub asking-room : j < length now
      asking-room = omega (arith, a.room, a.long, ap length (asked-on list at n is l))

      module _ (v w : ℕ) (x : List ℕ) (this : x ≡ take n (drop at list)) (puts : v ≡ write x) (adds : w ≡ count x) (most : w ≤ 33554432) where
        pub asking-on : Asking write count list before (set now j v) (at + n + 1) (j + 1) (sum + w)
        unfolding summed
        asking-on =
            let rest : List (List ℕ) = asked (drop (at + n + 1) list) in
            let all : asked (drop at list) ≡ x ∷ rest = asked-on list at n is l ∙ ap (λ y. y ∷ rest) (sym this) in
            record {
              long = length-set now j v ∙ a.long;
              written =
                  a.written ∙ ap (λ xs. sets now j (map write xs)) all ∙ ap (λ u. sets (set now j u) (suc j) (map write rest)) (sym puts)
                  ∙ ap (λ k. sets (set now j v) k (map write rest)) (sym (add-one j));
              counted = omega (arith, a.counted, ap (summed count) all, adds);
              fits = a.fits;
              room = omega (arith, a.room, ap length all);
              slow = omega (arith, a.slow);
              small = omega (arith, a.small, most);
            }
