-- Some programs of a header, in order: the list of their ordinals assigns each of them its place in that header.
use Prim.Native.Nat.{ℕ, zero, suc, ◌+◌, ◌≤◌, ◌<◌}
use mathlib.Core.Path.{◌≡◌, refl, sym, ap, ◌∙◌}
use mathlib.Core.Bool.{Bool, true, false, cond}
use mathlib.Core.List.{List, [], ◌∷◌}
use native.Mathlib.Omega.{arith}
use native.Mathlib.Nat.{zero-add}
use lib.ListN.{length, get_or}
use lib.Dec.{ltb}
use borrow.Author.Tests.{ltb-true, ltb-false}
use Rattle.format.specs.Records.{Record}
use Rattle.format.specs.Programs.{Link, root, dangling, child, programs, links, numbers_from}
use Rattle.format.specs.Prune.{chosen}
use Rattle.lists.proofs.Bools.{never, split}
use Rattle.program_chains.proofs.Leaf.{counting-length}
use Rattle.merge_laws.specs.IsMerge.{image_in, image_link, Assigns, parent_at, fields_at, ImageOf}

module _ (p : ℕ → Bool) where
  pub chosen-length : {A B : Type 0} (b : ℕ) (xs : List A) (ys : List B) → length xs ≡ length ys → length (chosen p b xs) ≡ length (chosen p b ys)
  unfolding chosen
  chosen-length b [] [] e = refl
  chosen-length b [] (y ∷ ys) e = absurd (omega arith)
  chosen-length b (x ∷ xs) [] e = absurd (omega arith)
  chosen-length {A} {B} b (x ∷ xs) (y ∷ ys) e = go (p b) (chosen-length (b + 1) xs ys (omega arith))
    where
      go : (t : Bool) → length (chosen p (b + 1) xs) ≡ length (chosen p (b + 1) ys)
          → length (cond t (x ∷ chosen p (b + 1) xs) (chosen p (b + 1) xs)) ≡ length (cond t (y ∷ chosen p (b + 1) ys) (chosen p (b + 1) ys))
      go true ih = ap suc ih
      go false ih = ih

  -- the one at the place `k` of those that stay was at the place `from`
  record Stays {A : Type 0} (x : A) (xs : List A) (numbers : List ℕ) (c k : ℕ) (y : A) : Type 0 where
    from : ℕ
    inside : from < length xs
    listed : get_or numbers k 0 ≡ c + from
    same : y ≡ get_or xs from x

  stays : {A : Type 0} (x : A) (b c : ℕ) (xs : List A) (k : ℕ) → k < length (chosen p b xs)
      → Stays x xs (chosen p b (numbers_from c (length xs))) c k (get_or (chosen p b xs) k x)
  unfolding chosen numbers_from
  stays x b c [] k h = absurd (omega arith)
  stays {A} x b c (z ∷ xs) k h = go (p b) (chosen p (b + 1) (numbers_from (c + 1) (length xs))) k h (stays x (b + 1) (c + 1) xs)
    where
      later : (rest ns : List ℕ) (k j : ℕ) (y : A) → Stays x xs rest (c + 1) k y → get_or ns j 0 ≡ get_or rest k 0 → Stays x (z ∷ xs) ns c j y
      later rest ns k j y s e = record { from = suc s.from; inside = omega (arith, s.inside); listed = omega (arith, s.listed); same = s.same }

      go : (t : Bool) (rest : List ℕ) (k : ℕ) → k < length (cond t (z ∷ chosen p (b + 1) xs) (chosen p (b + 1) xs))
          → ((k : ℕ) → k < length (chosen p (b + 1) xs) → Stays x xs rest (c + 1) k (get_or (chosen p (b + 1) xs) k x))
          → Stays x (z ∷ xs) (cond t (c ∷ rest) rest) c k (get_or (cond t (z ∷ chosen p (b + 1) xs) (chosen p (b + 1) xs)) k x)
      go true rest zero h ih = record { from = 0; inside = omega arith; listed = omega arith; same = refl }
      go true rest (suc k) h ih = later rest (c ∷ rest) k (suc k) (get_or (chosen p (b + 1) xs) k x) (ih k (omega arith)) refl
      go false rest k h ih = later rest rest k k (get_or (chosen p (b + 1) xs) k x) (ih k h) refl

  -- what stays, by its ordinal
  pub stays_at : {A : Type 0} (x : A) (xs : List A) (k : ℕ) → k < length (chosen p 0 xs) → get_or (chosen p 0 xs) k x ≡ get_or xs (get_or (chosen p 0 (numbers_from 0 (length xs))) k 0) x
  stays_at x xs k h = let s = stays x 0 0 xs k h in s.same ∙ ap (λ i. get_or xs i x) (sym (s.listed ∙ zero-add s.from))

  -- the numbers themselves
  number-above : (b c n k : ℕ) → k < length (chosen p b (numbers_from c n)) → c ≤ get_or (chosen p b (numbers_from c n)) k 0
  number-above b c n k h =
      let s = stays 0 b c (numbers_from c n) k h in
      let e : chosen p b (numbers_from c (length (numbers_from c n))) ≡ chosen p b (numbers_from c n) = ap (λ m. chosen p b (numbers_from c m)) (counting-length c n) in
      omega (arith, ap (λ l. get_or l k 0) e, s.listed)

  -- a later one has a higher ordinal
  rising : (b c n j k : ℕ) → j < k → k < length (chosen p b (numbers_from c n)) → get_or (chosen p b (numbers_from c n)) j 0 < get_or (chosen p b (numbers_from c n)) k 0
  unfolding chosen numbers_from
  rising b c zero j k g h = absurd (omega arith)
  rising b c (suc n) j k g h = go (p b) j k g h (rising (b + 1) (c + 1) n)
    where
      above : (k : ℕ) → k < length (chosen p (b + 1) (numbers_from (c + 1) n)) → c < get_or (chosen p (b + 1) (numbers_from (c + 1) n)) k 0
      above k h = omega (arith, number-above (b + 1) (c + 1) n k h)

      go : (t : Bool) (j k : ℕ) → j < k → k < length (cond t (c ∷ chosen p (b + 1) (numbers_from (c + 1) n)) (chosen p (b + 1) (numbers_from (c + 1) n)))
          → ((j k : ℕ) → j < k → k < length (chosen p (b + 1) (numbers_from (c + 1) n)) → get_or (chosen p (b + 1) (numbers_from (c + 1) n)) j 0 < get_or (chosen p (b + 1) (numbers_from (c + 1) n)) k 0)
          → get_or (cond t (c ∷ chosen p (b + 1) (numbers_from (c + 1) n)) (chosen p (b + 1) (numbers_from (c + 1) n))) j 0 < get_or (cond t (c ∷ chosen p (b + 1) (numbers_from (c + 1) n)) (chosen p (b + 1) (numbers_from (c + 1) n))) k 0
      go true j zero g h ih = absurd (omega arith)
      go true zero (suc k) g h ih = above k (omega arith)
      go true (suc j) (suc k) g h ih = ih j k (omega arith) (omega arith)
      go false j k g h ih = ih j k g h

  pub stayed-assigns : (n : ℕ) → Assigns (length (chosen p 0 (numbers_from 0 n))) n (chosen p 0 (numbers_from 0 n))
  unfolding image_in
  stayed-assigns n = record { count = refl; valid = valid; once = once }
    where
      valid : (k : ℕ) → k < length (chosen p 0 (numbers_from 0 n)) → get_or (chosen p 0 (numbers_from 0 n)) k 0 < n
      valid k h =
          let s = stays 0 0 0 (numbers_from 0 n) k h in
          let e : chosen p 0 (numbers_from 0 (length (numbers_from 0 n))) ≡ chosen p 0 (numbers_from 0 n) = ap (λ m. chosen p 0 (numbers_from 0 m)) (counting-length 0 n) in
          omega (arith, ap (λ l. get_or l k 0) e, s.listed, s.inside, counting-length 0 n)

      once : (j k : ℕ) → j < length (chosen p 0 (numbers_from 0 n)) → k < length (chosen p 0 (numbers_from 0 n)) → get_or (chosen p 0 (numbers_from 0 n)) j 0 ≡ get_or (chosen p 0 (numbers_from 0 n)) k 0 → j ≡ k
      once j k g h e =
          split (ltb j k) (λ t. absurd (omega (arith, rising 0 0 n j k (ltb-true j k t) h)))
          (λ t. split (ltb k j) (λ u. absurd (omega (arith, rising 0 0 n k j (ltb-true k j u) g))) (λ u. omega (arith, ltb-false j k t, ltb-false k j u)))

-- ---- links

-- an image's link, taken apart
pub link_image : (a m : List Record) (list : List ℕ) (k : ℕ) → fields_at m (image_in list k) ≡ fields_at a k → parent_at m (image_in list k) ≡ image_link list (parent_at a k) → ImageOf a m list k
unfolding image_link
link_image a m list k f e = go (parent_at a k) refl
  where
    go : (l : Link) → parent_at a k ≡ l → ImageOf a m list k
    go root q = let i : parent_at m (image_in list k) ≡ root = e ∙ ap (image_link list) q in record { same_fields = f; same_root = (λ x. i, λ x. q); parent = λ p x. absurd (never (cc)) }
    go dangling q = let i : parent_at m (image_in list k) ≡ dangling = e ∙ ap (image_link list) q in record { same_fields = f; same_root = (λ x. absurd (never (cc)), λ x. absurd (never (cc))); parent = λ p x. absurd (never (cc)) }
    go (child j) q =
        let i : parent_at m (image_in list k) ≡ child (image_in list j) = e ∙ ap (image_link list) q in
        record { same_fields = f; same_root = (λ x. absurd (never (cc)), λ x. absurd (never (cc))); parent = λ p x. let z : j ≡ p = cc in i ∙ ap (λ n. child (image_in list n)) z }
