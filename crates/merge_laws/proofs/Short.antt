-- A list that hits every program is no shorter than there are programs.
use Prim.Native.Nat.{ℕ, zero, suc, ◌≤◌, ◌<◌}
use mathlib.Core.Path.{◌≡◌, refl, ap}
use mathlib.Core.Logic.{◌⊎◌, ⊎_elim}
use mathlib.Core.List.{List, [], ◌∷◌}
use native.Mathlib.Omega.{arith}
use lib.ListN.{length}
use lib.Dec.{eqb}
use borrow.Author.Tests.{eqb-true, eqb-false}
use Rattle.format.specs.Bytes.{same}
use Rattle.format.specs.Records.{program}
use Rattle.format.specs.Programs.{programs}
use Rattle.lists.proofs.Bools.{split}
use Rattle.program_chains.proofs.Times.{hit, times, hit_same, hit_other}
use Rattle.program_chains.proofs.Paths.{at_most}
use Rattle.merge_laws.specs.IsMerge.{image_in, Hits, Assigns, Lists}

last_one : (m : ℕ) → m < suc m
last_one m = omega arith

earlier : (i m : ℕ) → i < m → i < suc m
earlier i m h = omega arith

none-hit : (i : ℕ) → Hits [] i → ⊥
unfolding Hits
none-hit i x = omega (arith, x.1)

module _ (list : List ℕ) where
  -- where the images are
  places : (m : ℕ) → ((i : ℕ) → i < m → Hits list i) → List ℕ
  unfolding Hits
  places zero f = []
  places (suc m) f = (f m (last_one m)).0 ∷ places m (λ i h. f i (earlier i m h))

  places_count : (m : ℕ) (f : (i : ℕ) → i < m → Hits list i) → length (places m f) ≡ m
  unfolding places
  places_count zero f = refl
  places_count (suc m) f = ap suc (places_count m (λ i h. f i (earlier i m h)))

  places-inside : (m : ℕ) (f : (i : ℕ) → i < m → Hits list i) (x : ℕ) → length list ≤ x → times x (places m f) ≡ 0
  unfolding places times Hits
  places-inside zero f x h = refl
  places-inside (suc m) f x h =
      let r = f m (last_one m) in omega (arith, hit_other x r.0 (λ e. omega (arith, r.1)), places-inside m (λ i h. f i (earlier i m h)) x h)

  -- no place of a higher number is among them
  places-gone : (m : ℕ) (f : (i : ℕ) → i < m → Hits list i) (x : ℕ) → m ≤ image_in list x → times x (places m f) ≡ 0
  unfolding places times Hits
  places-gone zero f x h = refl
  places-gone (suc m) f x h =
      let r = f m (last_one m) in
      omega (arith, hit_other x r.0 (λ e. omega (arith, ap (image_in list) e, r.2)), places-gone m (λ i h. f i (earlier i m h)) x (omega arith))

  places-once : (m : ℕ) (f : (i : ℕ) → i < m → Hits list i) (x : ℕ) → times x (places m f) ≤ 1
  unfolding places times Hits
  places-once zero f x = omega arith
  places-once (suc m) f x =
      let r = f m (last_one m) in
      let g : (i : ℕ) → i < m → Hits list i = λ i h. f i (earlier i m h) in
      split (eqb x r.0)
      (λ e.
      let q : x ≡ r.0 = eqb-true x r.0 e in
      omega (arith, ap (λ y. hit y r.0) q, hit_same r.0, places-gone m g x (omega (arith, ap (image_in list) q, r.2))))
      (λ e. omega (arith, hit_other x r.0 (eqb-false x r.0 e), places-once m g x))

  pub long-enough : (m : ℕ) → ((i : ℕ) → i < m → Hits list i) → m ≤ length list
  long-enough m f = omega (arith, at_most (length list) (places m f) (places-inside m f) (places-once m f), places_count m f)

-- one list for two times the same programs hits too few, and so does just one list
module _ (n m : ℕ) (list : List ℕ) (h : n < m) where
  too_short : Assigns n m list → ((i : ℕ) → i < m → Hits list i) → ⊥
  too_short a f = omega (arith, a.count, long-enough list m f)

  pub unhit-lists : Lists n n m list list → ⊥
  unhit-lists l = too_short l.of_a (λ i h. ⊎_elim (λ x. x) (λ x. x) (l.every i h))

  pub unhit-alone : Lists n 0 m list [] → ⊥
  unhit-alone l = too_short l.of_a (λ i h. ⊎_elim (λ x. x) (λ x. absurd (none-hit i x)) (l.every i h))
