-- 32: the condition on the programs, where each program has an image and no PP dangles.
use Prim.Native.Nat.{ℕ, zero, suc, ◌<◌}
use mathlib.Core.Path.{◌≡◌, refl, sym, ap, ap₂, ◌∙◌}
use mathlib.Core.Logic.{◌↔◌}
use mathlib.Core.Bool.{Bool, true, false, false≢true}
use mathlib.Core.List.{List, [], ◌∷◌, map, map-map}
use native.Mathlib.Omega.{arith}
use lib.ListN.{length, get_or, length-map, get_or-map}
use lib.Dec.{eqb}
use borrow.Author.Tests.{eq-eqb, eqb-true}
use Rattle.format.specs.Bytes.{any, same}
use Rattle.format.specs.Fields.{Field, tagged}
use Rattle.format.specs.Records.{Record}
use Rattle.format.specs.Reading.{of_kind}
use Rattle.format.specs.Programs.{Program, Link, root, dangling, child, program_of, programs, link, links, is_dangling}
use Rattle.format.specs.Merge.{ProgramShape, shape_of, shapes, no_shape, alike, same_field, keeps_fields, is_root, is_child_of, keeps_parent, is_image, images}
use Rattle.byte_slices.proofs.Equal.{same-equal, same_self}
use Rattle.lists.proofs.Bools.{never, and_left, and_right}
use Rattle.program_chains.proofs.Walks.{map_at}
use Rattle.tidy_laws.specs.Bare.{bare_bytes, bare_field}
use Rattle.merge_laws.specs.IsMerge.{image_in, parent_at, other_fields, fields_at, ImageOf, Images}
use Rattle.merge_laws.proofs.Members.{both, three, all_three}
use Rattle.merge_laws.proofs.Links.{linked-at}

-- ---- one by one

module _ {A B : Type 0} (p : A → B → Bool) (x : A) (y : B) where
  alike_at : (xs : List A) (ys : List B) (k : ℕ) → alike p xs ys ≡ true → k < length xs → p (get_or xs k x) (get_or ys k y) ≡ true
  unfolding alike
  alike_at [] ys k e h = absurd (omega arith)
  alike_at (a ∷ xs) [] k e h = absurd (false≢true e)
  alike_at (a ∷ xs) (b ∷ ys) zero e h = and_left (p a b) (alike p xs ys) e
  alike_at (a ∷ xs) (b ∷ ys) (suc k) e h = alike_at xs ys k (and_right (p a b) (alike p xs ys) e) (omega arith)

  at-alike : (xs : List A) (ys : List B) → length xs ≡ length ys → ((k : ℕ) → k < length xs → p (get_or xs k x) (get_or ys k y) ≡ true) → alike p xs ys ≡ true
  unfolding alike
  at-alike [] [] l f = refl
  at-alike [] (b ∷ ys) l f = absurd (omega arith)
  at-alike (a ∷ xs) [] l f = absurd (omega arith)
  at-alike (a ∷ xs) (b ∷ ys) l f = both (p a b) (alike p xs ys) (f 0 (omega arith)) (at-alike xs ys (omega arith) (λ k h. f (suc k) (omega arith)))

-- ---- fields

field-to : (f g : Field) → same_field f g ≡ true → bare_field f ≡ bare_field g
unfolding same_field tagged bare_field bare_bytes
field-to f g e =
    let h = three (eqb g.tag₀ f.tag₀) (eqb g.tag₁ f.tag₁) (same f.value.bytes g.value.bytes) e in
    let a : f.tag₀ ≡ g.tag₀ = sym (eqb-true g.tag₀ f.tag₀ h.0) in
    let b : f.tag₁ ≡ g.tag₁ = sym (eqb-true g.tag₁ f.tag₁ h.1) in
    let v : f.value.bytes ≡ g.value.bytes = same-equal f.value.bytes g.value.bytes h.2 in
    rw (a, b, v) refl

field-from : (f g : Field) → bare_field f ≡ bare_field g → same_field f g ≡ true
unfolding same_field tagged bare_field bare_bytes
field-from f g e =
    all_three (eqb g.tag₀ f.tag₀) (eqb g.tag₁ f.tag₁) (same f.value.bytes g.value.bytes)
    (eq-eqb g.tag₀ f.tag₀ (sym (ap (λ f. f.tag₀) e))) (eq-eqb g.tag₁ f.tag₁ (sym (ap (λ f. f.tag₁) e)))
    (ap (λ s. same s g.value.bytes) (ap (λ f. f.value.bytes) e) ∙ same_self g.value.bytes)

fields-to : (fs gs : List Field) → keeps_fields fs gs ≡ true → map bare_field gs ≡ map bare_field fs
unfolding keeps_fields alike
fields-to [] [] e = refl
fields-to [] (g ∷ gs) e = absurd (false≢true e)
fields-to (f ∷ fs) [] e = absurd (false≢true e)
fields-to (f ∷ fs) (g ∷ gs) e =
    ap₂ (λ x xs. x ∷ xs) (sym (field-to f g (and_left (same_field f g) (alike same_field fs gs) e))) (fields-to fs gs (and_right (same_field f g) (alike same_field fs gs) e))

fields-from : (fs gs : List Field) → map bare_field gs ≡ map bare_field fs → keeps_fields fs gs ≡ true
unfolding keeps_fields alike
fields-from [] [] e = refl
fields-from [] (g ∷ gs) e = absurd (never (cc))
fields-from (f ∷ fs) [] e = absurd (never (cc))
fields-from (f ∷ fs) (g ∷ gs) e =
    let h : bare_field f ≡ bare_field g = cc in
    let t : map bare_field gs ≡ map bare_field fs = cc in
    both (same_field f g) (alike same_field fs gs) (field-from f g h) (fields-from fs gs t)

-- ---- parents

-- what is asked of the links of a program and of its image
abbrev Keeps : List ℕ → Link → Link → Type 0
Keeps list l m = ((l ≡ root) ↔ (m ≡ root)) × ((p : ℕ) → l ≡ child p → m ≡ child (image_in list p))

parent-to : (list : List ℕ) (l m : Link) → keeps_parent list l m ≡ true → Keeps list l m
unfolding keeps_parent is_root is_child_of image_in
parent-to list root root e = ((λ q. refl, λ q. refl), λ p q. absurd (never (cc)))
parent-to list root dangling e = absurd (false≢true e)
parent-to list root (child k) e = absurd (false≢true e)
parent-to list dangling m e = absurd (false≢true e)
parent-to list (child p) root e = absurd (false≢true e)
parent-to list (child p) dangling e = absurd (false≢true e)
parent-to list (child p) (child k) e =
    let h : get_or list p 0 ≡ k = eqb-true (get_or list p 0) k e in
    ((λ q. absurd (never (cc)), λ q. absurd (never (cc))), λ j q. let r : p ≡ j = cc in ap child (sym h ∙ ap (λ i. get_or list i 0) r))

parent-from : (list : List ℕ) (l m : Link) → is_dangling l ≡ false → Keeps list l m → keeps_parent list l m ≡ true
unfolding keeps_parent is_root is_child_of image_in is_dangling
parent-from list root m d k = rw (k.0.0 refl) refl
parent-from list dangling m d k = absurd (false≢true (sym d))
parent-from list (child p) m d k = rw (k.1 p refl) (eq-eqb (get_or list p 0) (get_or list p 0) refl)

-- ---- programs by their ordinals

parents-of : (ps : List Program) (rs : List Record) → map (λ s. s.parent) (map (shape_of ps) rs) ≡ map (λ p. link ps p.previous) (map program_of rs)
unfolding shape_of program_of
parents-of ps rs = map-map (λ s. s.parent) (shape_of ps) rs ∙ sym (map-map (λ p. link ps p.previous) program_of rs)

fields-of : (ps : List Program) (rs : List Record) → map (λ s. map bare_field s.fields) (map (shape_of ps) rs) ≡ map other_fields rs
unfolding shape_of other_fields
fields-of ps rs = map-map (λ s. map bare_field s.fields) (shape_of ps) rs

abbrev shape_at : List Record → ℕ → ProgramShape
shape_at rs k = get_or (shapes rs) k no_shape

shape-parent : (rs : List Record) (k : ℕ) → (shape_at rs k).parent ≡ parent_at rs k
unfolding shapes no_shape parent_at links programs
shape-parent rs k = sym (get_or-map (λ s. s.parent) (shapes rs) k no_shape) ∙ ap (λ ls. get_or ls k root) (parents-of (programs rs) (of_kind 4 rs))

shape-fields : (rs : List Record) (k : ℕ) → map bare_field (shape_at rs k).fields ≡ fields_at rs k
unfolding shapes no_shape fields_at
shape-fields rs k = sym (get_or-map (λ s. map bare_field s.fields) (shapes rs) k no_shape) ∙ ap (λ fs. get_or fs k []) (fields-of (programs rs) (of_kind 4 rs))

pub shape-count : (rs : List Record) → length (shapes rs) ≡ length (programs rs)
unfolding shapes programs
shape-count rs = length-map (of_kind 4 rs) (shape_of (programs rs)) ∙ sym (length-map (of_kind 4 rs) program_of)

-- ---- the condition

module _ (a m : List Record) (list : List ℕ) (linked : any is_dangling (links (programs a)) ≡ false) where
  image-to : (k i : ℕ) → i ≡ image_in list k → is_image list (shape_at a k) (shape_at m i) ≡ true → ImageOf a m list k
  unfolding is_image
  image-to k i q e =
      let f = fields-to (shape_at a k).fields (shape_at m i).fields (and_left (keeps_fields (shape_at a k).fields (shape_at m i).fields) (keeps_parent list (shape_at a k).parent (shape_at m i).parent) e) in
      let p = parent-to list (shape_at a k).parent (shape_at m i).parent (and_right (keeps_fields (shape_at a k).fields (shape_at m i).fields) (keeps_parent list (shape_at a k).parent (shape_at m i).parent) e) in
      let keeps : Keeps list (parent_at a k) (parent_at m (image_in list k)) = rw (← shape-parent a k, ← q, ← shape-parent m i) p in
      record { same_fields = rw (← q) (sym (shape-fields m i) ∙ f ∙ shape-fields a k); same_root = keeps.0; parent = keeps.1 }

  image-from : (k i : ℕ) → i ≡ image_in list k → ImageOf a m list k → is_image list (shape_at a k) (shape_at m i) ≡ true
  unfolding is_image parent_at
  image-from k i q x =
      both (keeps_fields (shape_at a k).fields (shape_at m i).fields) (keeps_parent list (shape_at a k).parent (shape_at m i).parent)
      (fields-from (shape_at a k).fields (shape_at m i).fields (shape-fields m i ∙ ap (fields_at m) q ∙ x.same_fields ∙ sym (shape-fields a k)))
      (rw (shape-parent a k, shape-parent m i, q) (parent-from list (parent_at a k) (parent_at m (image_in list k)) (linked-at (links (programs a)) k linked) (x.same_root, x.parent)))

  pub images-are : length list ≡ length (programs a) → (images list (shapes a) (shapes m) ≡ true) ↔ Images a m list
  unfolding images Images image_in
  images-are l = (
    λ e k h. image-to k (get_or list k 0) refl (ap (is_image list (shape_at a k)) (sym (map_at (λ i. get_or (shapes m) i no_shape) list k 0 no_shape (omega arith)))
        ∙ alike_at (is_image list) no_shape no_shape (shapes a) (map (λ i. get_or (shapes m) i no_shape) list) k e (omega (arith, shape-count a))),
    λ f. at-alike (is_image list) no_shape no_shape (shapes a) (map (λ i. get_or (shapes m) i no_shape) list)
        (omega (arith, shape-count a, length-map list (λ i. get_or (shapes m) i no_shape)))
        (λ k h. let g : k < length (programs a) = omega (arith, shape-count a) in
        ap (is_image list (shape_at a k)) (map_at (λ i. get_or (shapes m) i no_shape) list k 0 no_shape (omega arith)) ∙ image-from k (get_or list k 0) refl (f k g)),
  )
