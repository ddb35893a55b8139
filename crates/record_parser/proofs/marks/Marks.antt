-- The marks of tags: each is in the table, exact ones are each tag's own, and with one more field.
use Prim.Native.Nat.{ℕ, ◌<◌}
use mathlib.Core.Path.{◌≡◌, refl, sym, ap, ◌∙◌}
use mathlib.Core.Bool.{Bool, true, false, ◌&&◌, ◌||◌, false≢true, and-false}
use mathlib.Core.List.{List, [], ◌∷◌, ◌++◌}
use native.Mathlib.Omega.{arith}
use lib.ListN.{length, get_or, set, replicate, length-set, length-replicate, get_or-replicate}
use lib.Seq.{get_or-set_same, get_or-set_other}
use lib.Dec.{eqb}
use borrow.Author.Tests.{eqb-true, eqb-false, eq-eqb}
use Rattle.format.specs.Bytes.{any}
use Rattle.format.specs.Fields.{Field, tagged, is_tag}
use Rattle.lists.proofs.Bools.{any_snoc, split, or-true, or_split, and_left, and_right}
use Rattle.accepted.proofs.Clean.{tag-bounds}
use Rattle.record_parser.specs.Marks.{mark_place, marks_of}

-- ---- places

pub place-below : (e : Bool) (a b : ℕ) → is_tag a b ≡ true → mark_place e a b < marks_of e
unfolding mark_place marks_of
place-below true a b h = let t = tag-bounds a b h in omega (arith, t.0.0, t.0.1, t.1.0, t.1.1)
place-below false a b h = omega arith

-- no two tags have one exact place
place-own : (a b c d : ℕ) → is_tag a b ≡ true → is_tag c d ≡ true → mark_place true a b ≡ mark_place true c d → (a ≡ c) × (b ≡ d)
unfolding mark_place
place-own a b c d h k e =
    let t = tag-bounds a b h in
    let u = tag-bounds c d k in
    let p : a ≡ c = omega (arith, t.0.0, t.0.1, t.1.0, t.1.1, u.0.0, u.0.1, u.1.0, u.1.1) in
    (p, omega (arith, t.0.0, t.1.0, u.0.0, u.1.0))

same_tag : (f : Field) (a b : ℕ) → tagged a b f ≡ true → (f.tag₀ ≡ a) × (f.tag₁ ≡ b)
unfolding tagged
same_tag f a b h =
    let x : Bool = eqb f.tag₀ a in
    let y : Bool = eqb f.tag₁ b in
    (eqb-true f.tag₀ a (and_left x y h), eqb-true f.tag₁ b (and_right x y h))

tag_same : (f : Field) (a b : ℕ) → f.tag₀ ≡ a → f.tag₁ ≡ b → tagged a b f ≡ true
unfolding tagged
tag_same f a b p q = rw (eq-eqb _ _ p, eq-eqb _ _ q) refl

-- ---- the marks of the fields read so far

pub record Marked (exact : Bool) (seen : List Bool) (fields : List Field) : Type 0 where
  pub size : length seen ≡ marks_of exact
  -- a tag that is among them has its mark
  pub shows : (a b : ℕ) → any (tagged a b) fields ≡ true → get_or seen (mark_place exact a b) false ≡ true
  -- and where the marks are exact, no other has
  pub tells : exact ≡ true → (a b : ℕ) → is_tag a b ≡ true → get_or seen (mark_place exact a b) false ≡ true → any (tagged a b) fields ≡ true

pub marked-none : (exact : Bool) → Marked exact (replicate (marks_of exact) false) []
unfolding any
marked-none exact =
    record {
      size = length-replicate (marks_of exact) false;
      shows = λ a b y. absurd (false≢true y);
      tells = λ e a b h y. absurd (false≢true (sym (get_or-replicate (marks_of exact) (mark_place exact a b) false false (place-below exact a b h)) ∙ y));
    }

module _ (exact : Bool) (seen : List Bool) (fields : List Field) (w : Marked exact seen fields) where
  -- whether a tag was there before is what its mark says, and where that is not exact, what is found
  pub marked-again : (a b : ℕ) → is_tag a b ≡ true → get_or seen (mark_place exact a b) false && (exact || any (tagged a b) fields) ≡ any (tagged a b) fields
  marked-again a b h = split (any (tagged a b) fields) there (missing exact refl)
    where
      there : any (tagged a b) fields ≡ true → get_or seen (mark_place exact a b) false && (exact || any (tagged a b) fields) ≡ any (tagged a b) fields
      there y = rw (w.shows a b y, y) (or-true exact)

      missing : (e : Bool) → exact ≡ e → any (tagged a b) fields ≡ false → get_or seen (mark_place exact a b) false && (exact || any (tagged a b) fields) ≡ any (tagged a b) fields
      missing true q n =
          split (get_or seen (mark_place exact a b) false)
          (λ y. absurd (false≢true (sym n ∙ w.tells q a b h y)))
          (λ m. rw (m, n) refl)
      missing false q n = rw (n, q) (and-false (get_or seen (mark_place false a b) false))

  -- one more field
  module _ (f : Field) (h : is_tag f.tag₀ f.tag₁ ≡ true) where
    place : mark_place exact f.tag₀ f.tag₁ < length seen
    place = omega (arith, w.size, place-below exact f.tag₀ f.tag₁ h)

    -- its own mark, and any other
    own : (i : ℕ) → i ≡ mark_place exact f.tag₀ f.tag₁ → get_or (set seen (mark_place exact f.tag₀ f.tag₁) true) i false ≡ true
    own i e =
        ap (λ j. get_or (set seen (mark_place exact f.tag₀ f.tag₁) true) j false) e
        ∙ get_or-set_same seen (mark_place exact f.tag₀ f.tag₁) true false place

    other : (i : ℕ) → (i ≡ mark_place exact f.tag₀ f.tag₁ → ⊥) → get_or (set seen (mark_place exact f.tag₀ f.tag₁) true) i false ≡ get_or seen i false
    other i n = get_or-set_other seen (mark_place exact f.tag₀ f.tag₁) i true false n

    pub marked_more : Marked exact (set seen (mark_place exact f.tag₀ f.tag₁) true) (fields ++ (f ∷ []))
    marked_more =
        record {
          size = length-set seen (mark_place exact f.tag₀ f.tag₁) true ∙ w.size;
          shows = λ a b y.
              or_split (any (tagged a b) fields) (tagged a b f) (sym (any_snoc (tagged a b) fields f) ∙ y)
              (λ o.
              split (eqb (mark_place exact a b) (mark_place exact f.tag₀ f.tag₁))
              (λ e. own (mark_place exact a b) (eqb-true _ _ e))
              (λ n. other (mark_place exact a b) (eqb-false _ _ n) ∙ w.shows a b o))
              (λ t. own (mark_place exact a b) (let q = same_tag f a b t in rw (q.0, q.1) refl));
          tells = λ q a b k y.
              any_snoc (tagged a b) fields f
              ∙ split (eqb (mark_place exact a b) (mark_place exact f.tag₀ f.tag₁))
              (λ e.
              let d = place-own f.tag₀ f.tag₁ a b h k (rw q at (sym (eqb-true (mark_place exact a b) (mark_place exact f.tag₀ f.tag₁) e))) in
              ap (λ u. any (tagged a b) fields || u) (tag_same f a b d.0 d.1) ∙ or-true (any (tagged a b) fields))
              (λ n. ap (λ u. u || tagged a b f) (w.tells q a b k (sym (other (mark_place exact a b) (eqb-false _ _ n)) ∙ y)));
        }
