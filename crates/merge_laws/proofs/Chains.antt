-- Following parents commutes with taking images, so chains keep their lengths.
use Prim.Native.Nat.{ℕ, zero, suc, ◌+◌, ◌≤◌, ◌<◌}
use mathlib.Core.Path.{◌≡◌, refl, sym, ap, ◌∙◌}
use mathlib.Core.Bool.{true, false, false≢true}
use mathlib.Core.List.{List, ◌∷◌, map}
use native.Mathlib.Omega.{arith}
use lib.ListN.{length, get_or, length-map}
use Rattle.format.specs.Bytes.{any}
use Rattle.format.specs.Records.{Record}
use Rattle.format.specs.Programs.{Link, root, dangling, child, programs, links, is_dangling, loops_from, depth}
use Rattle.program_chains.proofs.Paths.{Below, depth-less}
use Rattle.merge_laws.specs.IsMerge.{image_in, image_link, parent_at, ImageOf, Images}
use Rattle.merge_laws.specs.Means.{ancestors, depth_of, KeepsChains}
use Rattle.merge_laws.proofs.Links.{links-length, below, named-below, linked-at}

image-link : (a m : List Record) (list : List ℕ) (k : ℕ) → is_dangling (parent_at a k) ≡ false → ImageOf a m list k → parent_at m (image_in list k) ≡ image_link list (parent_at a k)
unfolding is_dangling image_link
image-link a m list k d x = go (parent_at a k) refl d
  where
    go : (l : Link) → parent_at a k ≡ l → is_dangling l ≡ false → parent_at m (image_in list k) ≡ image_link list l
    go root e d = x.same_root.0 e
    go dangling e d = absurd (false≢true (sym d))
    go (child p) e d = x.parent p e

-- ---- depths

ancestors-depth : (ls : List Link) (f : ℕ) (l : Link) → length (ancestors ls f l) ≡ depth ls f l
unfolding ancestors depth
ancestors-depth ls zero l = refl
ancestors-depth ls (suc f) root = refl
ancestors-depth ls (suc f) dangling = refl
ancestors-depth ls (suc f) (child k) = ap suc (ancestors-depth ls f (get_or ls k root))

-- more steps than there are links change nothing
depth-more : (ls : List Link) (f h : ℕ) (l : Link) → f ≤ h → depth ls f l < f → depth ls h l ≡ depth ls f l
unfolding depth
depth-more ls zero h l g e = absurd (omega arith)
depth-more ls (suc f) zero l g e = absurd (omega arith)
depth-more ls (suc f) (suc h) root g e = refl
depth-more ls (suc f) (suc h) dangling g e = refl
depth-more ls (suc f) (suc h) (child k) g e = ap suc (depth-more ls f h (get_or ls k root) (omega arith) (omega arith))

-- ---- the law

module _ (a m : List Record) (list : List ℕ) (linked : any is_dangling (links (programs a)) ≡ false) (images : Images a m list) where
  commutes : (k : ℕ) → k < length (links (programs a)) → get_or (links (programs m)) (image_in list k) root ≡ image_link list (get_or (links (programs a)) k root)
  unfolding parent_at Images
  commutes k h = image-link a m list k (linked-at (links (programs a)) k linked) (images k (omega (arith, links-length (programs a))))

  chain-from : (f : ℕ) (l : Link) → Below (length (links (programs a))) l
      → ancestors (links (programs m)) f (image_link list l) ≡ map (image_in list) (ancestors (links (programs a)) f l)
  unfolding ancestors image_link
  chain-from zero l b = refl
  chain-from (suc f) root b = refl
  chain-from (suc f) dangling b = refl
  chain-from (suc f) (child k) b =
      ap (λ ks. image_in list k ∷ ks) (ap (ancestors (links (programs m)) f) (commutes k b) ∙ chain-from f (get_or (links (programs a)) k root) (below (programs a) k))

  image-chain : (f k : ℕ) → k < length (programs a)
      → ancestors (links (programs m)) f (parent_at m (image_in list k)) ≡ map (image_in list) (ancestors (links (programs a)) f (parent_at a k))
  unfolding parent_at
  image-chain f k h =
      ap (ancestors (links (programs m)) f) (commutes k (omega (arith, links-length (programs a)))) ∙ chain-from f (parent_at a k) (below (programs a) k)

  depths : (f k : ℕ) → k < length (programs a) → depth (links (programs m)) f (parent_at m (image_in list k)) ≡ depth (links (programs a)) f (parent_at a k)
  depths f k h =
      sym (ancestors-depth (links (programs m)) f (parent_at m (image_in list k))) ∙ ap length (image-chain f k h)
      ∙ length-map (ancestors (links (programs a)) f (parent_at a k)) (image_in list) ∙ ancestors-depth (links (programs a)) f (parent_at a k)

  pub keeps-chains : loops_from (links (programs a)) 0 (links (programs a)) ≡ false → loops_from (links (programs m)) 0 (links (programs m)) ≡ false
      → ((k : ℕ) → k < length (programs a) → image_in list k < length (programs m)) → KeepsChains a m list
  unfolding depth_of parent_at
  keeps-chains ca cm valid = record { chain = image-chain; same_depth = same-depth }
    where
      same-depth : (k : ℕ) → k < length (programs a) → depth_of m (image_in list k) ≡ depth_of a k
      same-depth k h =
          let la : List Link = links (programs a) in
          let lm : List Link = links (programs m) in
          let far : ℕ = length la + length lm in
          let less-m : depth lm (length lm) (parent_at m (image_in list k)) < length lm =
          depth-less lm cm (named-below (programs m)) (image_in list k) (omega (arith, links-length (programs m), valid k h)) in
          let less-a : depth la (length la) (parent_at a k) < length la = depth-less la ca (named-below (programs a)) k (omega (arith, links-length (programs a))) in
          sym (depth-more lm (length lm) far (parent_at m (image_in list k)) (omega arith) less-m) ∙ depths far k h
          ∙ depth-more la (length la) far (parent_at a k) (omega arith) less-a
