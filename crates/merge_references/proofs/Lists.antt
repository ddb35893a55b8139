-- The merged list judged one reference after another: A's own first, and then what B adds.
use mathlib.Core.Path.{◌≡◌, refl, ap, ap₂, ◌∙◌}
use mathlib.Core.Bool.{Bool, true, false, not, ◌&&◌, ◌||◌, cond}
use mathlib.Core.List.{List, [], ◌∷◌, ◌++◌}
use borrow.Author.Tests.{eq-eqb, ne_eqb}
use Rattle.format.specs.Bytes.{same, any}
use Rattle.format.specs.References.{Reference, same_reference, same_references}
use Rattle.format.specs.Merge.{same_name, differ, agreeing, lacking, is_joined}
use Rattle.merge_references.specs.Joining.{left_of}

-- ---- two lists side by side

module _ (ms xs l : List Reference) where
  pub front-end : xs ≡ [] → same_references ms (xs ++ l) ≡ same_references ms l
  front-end e = rw e refl

  module _ (r : Reference) (xs' : List Reference) (e : xs ≡ r ∷ xs') where
    pub front-short : ms ≡ [] → same_references ms (xs ++ l) ≡ false
    unfolding same_references
    front-short d = rw (e, d) refl

    pub front-turn : (n : Reference) (ms' : List Reference) → ms ≡ n ∷ ms' → same_references ms (xs ++ l) ≡ same_reference n r && same_references ms' (xs' ++ l)
    unfolding same_references
    front-turn n ms' d = rw (e, d) refl

module _ (ms l : List Reference) (q : Reference) where
  pub one-short : ms ≡ [] → same_references ms (q ∷ l) ≡ false
  unfolding same_references
  one-short d = rw d refl

  pub one-turn : (n : Reference) (ms' : List Reference) → ms ≡ n ∷ ms' → same_references ms (q ∷ l) ≡ same_reference n q && same_references ms' l
  unfolding same_references
  one-turn n ms' d = rw d refl

-- ---- what is left to judge

and-swap : (a b c : Bool) → a && (b && c) ≡ b && (a && c)
and-swap true b c = refl
and-swap false true c = refl
and-swap false false c = refl

and-false : (a : Bool) → a && false ≡ false
and-false true = refl
and-false false = refl

and-true : (a : Bool) → a && true ≡ a
and-true true = refl
and-true false = refl

-- after A's own references
pub joined-left : (a b m m' : List Reference) (good : Bool) → ((l : List Reference) → same_references m (a ++ l) ≡ good && same_references m' l) → is_joined a b m ≡ good && left_of a b m'
unfolding is_joined left_of
joined-left a b m m' good h = ap (λ t. agreeing a b && t) (h (lacking a b)) ∙ and-swap (agreeing a b) good (same_references m' (lacking a b))

-- B is spent
pub left_end : (a b m : List Reference) → b ≡ [] → left_of a b m ≡ same_references m []
unfolding left_of agreeing lacking any
left_end a b m e = rw e refl

pub none_left : (m : List Reference) → m ≡ [] → same_references m [] ≡ true
unfolding same_references
none_left m e = rw e refl

pub some_left : (m : List Reference) (r : Reference) (rs : List Reference) → m ≡ r ∷ rs → same_references m [] ≡ false
unfolding same_references
some_left m r rs e = rw e refl

module _ (a l m : List Reference) (q : Reference) where
  agrees-turn : agreeing a (q ∷ l) ≡ not (any (differ q) a) && agreeing a l
  unfolding agreeing any
  agrees-turn = go (any (differ q) a) (any (λ q. any (differ q) a) l)
    where
      go : (x y : Bool) → not (x || y) ≡ not x && not y
      go true y = refl
      go false y = refl

  -- A lacks its name
  pub left-new : any (same_name q) a ≡ false → any (differ q) a ≡ false → (good : Bool) (m' : List Reference) → ((k : List Reference) → same_references m (q ∷ k) ≡ good && same_references m' k) → left_of a (q ∷ l) m ≡ good && left_of a l m'
  unfolding left_of lacking
  left-new n d good m' h =
      ap₂ (λ t ls. t && same_references m ls) (agrees-turn ∙ ap (λ t. not t && agreeing a l) d) (ap (λ t. cond t (lacking a l) (q ∷ lacking a l)) n)
      ∙ ap (λ t. agreeing a l && t) (h (lacking a l))
      ∙ and-swap (agreeing a l) good (same_references m' (lacking a l))

  -- A has it, with the same length
  pub left-known : any (same_name q) a ≡ true → any (differ q) a ≡ false → left_of a (q ∷ l) m ≡ left_of a l m
  unfolding left_of lacking
  left-known n d = ap₂ (λ t ls. t && same_references m ls) (agrees-turn ∙ ap (λ t. not t && agreeing a l) d) (ap (λ t. cond t (lacking a l) (q ∷ lacking a l)) n)

  -- with another
  pub left_other : any (differ q) a ≡ true → left_of a (q ∷ l) m ≡ false
  unfolding left_of lacking
  left_other d = ap (λ t. t && same_references m (lacking a (q ∷ l))) (agrees-turn ∙ ap (λ t. not t && agreeing a l) d)

-- ---- one reference

module _ (r q : Reference) where
  pub other-size : (r.size ≡ q.size → ⊥) → same_reference r q ≡ false
  unfolding same_reference
  other-size h = ap (λ t. same r.name q.name && t) (ne_eqb r.size q.size h) ∙ and-false (same r.name q.name)

  pub one_size : r.size ≡ q.size → same_reference r q ≡ same_name r q
  unfolding same_reference same_name
  one_size h = ap (λ t. same r.name q.name && t) (eq-eqb r.size q.size h) ∙ and-true (same r.name q.name)
