-- A loop that replaces each number of a list by what a function makes of it.
use Prim.Native.Nat.{ℕ, suc, ◌+◌, ◌≤◌, ◌<◌}
use mathlib.Core.Path.{◌≡◌, sym, ap, ap₂, ◌∙◌}
use mathlib.Core.List.{List, ◌∷◌, ◌++◌, map, append-nil}
use native.Mathlib.Omega.{arith}
use native.Mathlib.Numerals.{add-one}
use lib.ListN.{length, get_or, take, drop, set, length-set, drop_of_length-le}
use lib.Seq.{take-suc-set, drop-set-lt, drop-cons, append_snoc, take_all}

-- the first `i` are replaced
abbrev pub Mapped : (ℕ → ℕ) → List ℕ → List ℕ → ℕ → Type 0
Mapped f before now i = (length now ≡ length before) × (map f before ≡ take i now ++ map f (drop i now))

module _ (f : ℕ → ℕ) (before now : List ℕ) (i : ℕ) (m : Mapped f before now i) where
  -- one more
  pub mapped-on : i < length now → (v : ℕ) → v ≡ f (get_or now i 0) → Mapped f before (set now i v) (i + 1)
  mapped-on l v e =
      let more : take (suc i) (set now i v) ++ map f (drop (suc i) (set now i v)) ≡ take i now ++ map f (drop i now) =
      ap₂ (λ a b. a ++ map f b) (take-suc-set now i v l) (drop-set-lt (suc i) now i v (omega arith))
      ∙ append_snoc (take i now) v (map f (drop (suc i) now))
      ∙ ap (λ w. take i now ++ w ∷ map f (drop (suc i) now)) e
      ∙ sym (ap (λ l. take i now ++ map f l) (drop-cons now i 0 l)) in
      (length-set now i v ∙ m.0, m.1 ∙ sym (ap (λ k. take k (set now i v) ++ map f (drop k (set now i v))) (add-one i) ∙ more))

  -- all
  pub mapped-all : length now ≤ i → now ≡ map f before
  mapped-all h = sym (m.1 ∙ ap₂ (λ a b. a ++ map f b) (take_all i now h) (drop_of_length-le now h) ∙ append-nil now)
