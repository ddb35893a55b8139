-- Lists of fields by their tags: one more field at the end, for every definition that a line's fields go through.
use Prim.Native.Nat.{ℕ, suc, ◌+◌}
use mathlib.Core.Path.{◌≡◌, refl, sym, ap, ◌∙◌}
use mathlib.Core.Bool.{Bool, true, false, ◌||◌, cond}
use mathlib.Core.List.{List, [], ◌∷◌, ◌++◌}
use mathlib.Core.Option.{Option, none, some}
use lib.ListN.{length}
use lib.Dec.{eqb}
use borrow.Author.Tests.{eqb-true}
use Rattle.format.specs.Bytes.{any}
use Rattle.format.specs.Lines.{Piece}
use Rattle.format.specs.Fields.{Field, tagged, repeats, later, last_of, without, put, settled_on, settled}
use Rattle.lists.proofs.Bools.{never, or_assoc, or-true, or-false, eqb-sym, any_append, any_snoc, and_left, and_right, or_left, or_right}

-- the tags of two fields are equal, seen from either
pub tagged-sym : (f g : Field) → tagged f.tag₀ f.tag₁ g ≡ tagged g.tag₀ g.tag₁ f
unfolding tagged
tagged-sym f g = rw (eqb-sym g.tag₀ f.tag₀, eqb-sym g.tag₁ f.tag₁) refl

-- a field whose tag is another's passes the same tests
pub tagged-same : (a b : ℕ) (f g : Field) → tagged f.tag₀ f.tag₁ g ≡ true → tagged a b f ≡ tagged a b g
unfolding tagged
tagged-same a b f g h =
    let x : Bool = eqb g.tag₀ f.tag₀ in
    let y : Bool = eqb g.tag₁ f.tag₁ in
    let e : g.tag₀ ≡ f.tag₀ = eqb-true g.tag₀ f.tag₀ (and_left x y h) in
    let d : g.tag₁ ≡ f.tag₁ = eqb-true g.tag₁ f.tag₁ (and_right x y h) in
    rw (e, d) refl

-- so tests of a list by the one tag or by the other agree
pub any_same : (f g : Field) (gs : List Field) → tagged f.tag₀ f.tag₁ g ≡ true → any (tagged f.tag₀ f.tag₁) gs ≡ any (tagged g.tag₀ g.tag₁) gs
unfolding tagged
any_same f g gs h =
    let x : Bool = eqb g.tag₀ f.tag₀ in
    let y : Bool = eqb g.tag₁ f.tag₁ in
    let e : g.tag₀ ≡ f.tag₀ = eqb-true g.tag₀ f.tag₀ (and_left x y h) in
    let d : g.tag₁ ≡ f.tag₁ = eqb-true g.tag₁ f.tag₁ (and_right x y h) in
    rw (e, d) refl

-- ---- repeats

pub repeats-snoc : (fs : List Field) (f : Field) → repeats (fs ++ (f ∷ [])) ≡ any (tagged f.tag₀ f.tag₁) fs || repeats fs
unfolding repeats any
repeats-snoc [] f = refl
repeats-snoc (g ∷ fs) f =
    let t : Bool = tagged f.tag₀ f.tag₁ g in
    let m : Bool = any (tagged g.tag₀ g.tag₁) fs in
    let n : Bool = any (tagged f.tag₀ f.tag₁) fs in
    ap (λ x. x || repeats (fs ++ (f ∷ []))) (any_snoc (tagged g.tag₀ g.tag₁) fs f)
    ∙ ap (λ x. (m || x) || repeats (fs ++ (f ∷ []))) (tagged-sym g f)
    ∙ ap (λ x. (m || t) || x) (repeats-snoc fs f)
    ∙ shuffle m t n (repeats fs)
  where
    shuffle : (m t n r : Bool) → (m || t) || (n || r) ≡ (t || n) || (m || r)
    shuffle true true n r = refl
    shuffle true false true r = refl
    shuffle true false false r = refl
    shuffle false true n r = refl
    shuffle false false true r = sym (or-true false)
    shuffle false false false r = refl

-- once a tag is repeated, it is repeated whatever follows
pub repeats-more : (fs gs : List Field) → repeats fs ≡ true → repeats (fs ++ gs) ≡ true
unfolding repeats any
repeats-more [] gs h = absurd (never (cc))
repeats-more (f ∷ fs) gs h =
    ap (λ x. x || repeats (fs ++ gs)) (any_append (tagged f.tag₀ f.tag₁) fs gs) ∙ go (any (tagged f.tag₀ f.tag₁) fs) (repeats-more fs gs) h
  where
    go : (t : Bool) → (repeats fs ≡ true → repeats (fs ++ gs) ≡ true) → t || repeats fs ≡ true → (t || any (tagged f.tag₀ f.tag₁) gs) || repeats (fs ++ gs) ≡ true
    go true ih e = refl
    go false ih e = ap (λ x. any (tagged f.tag₀ f.tag₁) gs || x) (ih e) ∙ or-true (any (tagged f.tag₀ f.tag₁) gs)

-- ---- the last value with a tag

pub later-assoc : (p q r : Option Piece) → later p (later q r) ≡ later (later p q) r
unfolding later
later-assoc p q none = refl
later-assoc p q (some x) = refl

pub last_of_snoc : (a b : ℕ) (fs : List Field) (f : Field) → last_of a b (fs ++ (f ∷ [])) ≡ later (last_of a b fs) (cond (tagged a b f) (some f.value) none)
unfolding last_of later
last_of_snoc a b [] f = go (tagged a b f)
  where
    go : (t : Bool) → later (cond t (some f.value) none) none ≡ later none (cond t (some f.value) none)
    go true = refl
    go false = refl
last_of_snoc a b (g ∷ fs) f = ap (later (cond (tagged a b g) (some g.value) none)) (last_of_snoc a b fs f) ∙ later-assoc (cond (tagged a b g) (some g.value) none) (last_of a b fs) (cond (tagged a b f) (some f.value) none)

-- ---- the fields without a tag

pub without-append : (a b : ℕ) (fs gs : List Field) → without a b (fs ++ gs) ≡ without a b fs ++ without a b gs
unfolding without
without-append a b [] gs = refl
without-append a b (f ∷ fs) gs = go (tagged a b f) (without-append a b fs gs)
  where
    go : (t : Bool) → without a b (fs ++ gs) ≡ without a b fs ++ without a b gs
        → cond t (without a b (fs ++ gs)) (f ∷ without a b (fs ++ gs)) ≡ cond t (without a b fs) (f ∷ without a b fs) ++ without a b gs
    go true ih = ih
    go false ih = ap (λ x. f ∷ x) ih

-- ---- settled fields

pub settled_on-snoc : (done fs : List Field) (f : Field) → settled_on done (fs ++ (f ∷ [])) ≡ put f (settled_on done fs)
unfolding settled_on
settled_on-snoc done [] f = refl
settled_on-snoc done (g ∷ fs) f = settled_on-snoc (put g done) fs f

pub settled-snoc : (fs : List Field) (f : Field) → settled (fs ++ (f ∷ [])) ≡ put f (settled fs)
unfolding settled
settled-snoc fs f = settled_on-snoc [] fs f

-- one more field adds its tag, and no other
pub any-put : (a b : ℕ) (f : Field) (gs : List Field) → any (tagged a b) (put f gs) ≡ any (tagged a b) gs || tagged a b f
unfolding any put
any-put a b f [] = or-false (tagged a b f)
any-put a b f (g ∷ gs) = go (tagged f.tag₀ f.tag₁ g) refl (any-put a b f gs)
  where
    go : (t : Bool) → tagged f.tag₀ f.tag₁ g ≡ t → any (tagged a b) (put f gs) ≡ any (tagged a b) gs || tagged a b f
        → any (tagged a b) (cond t (f ∷ gs) (g ∷ put f gs)) ≡ (tagged a b g || any (tagged a b) gs) || tagged a b f
    go true e ih = rw (← tagged-same a b f g e) (twice (tagged a b f) (any (tagged a b) gs))
      where
        twice : (t u : Bool) → t || u ≡ (t || u) || t
        twice true u = refl
        twice false u = sym (or-false u)
    go false e ih = ap (λ x. tagged a b g || x) ih ∙ sym (or_assoc (tagged a b g) _ _)

pub any-settled_on : (a b : ℕ) (done fs : List Field) → any (tagged a b) (settled_on done fs) ≡ any (tagged a b) done || any (tagged a b) fs
unfolding any settled_on
any-settled_on a b done [] = sym (or-false _)
any-settled_on a b done (f ∷ fs) =
    any-settled_on a b (put f done) fs ∙ ap (λ x. x || any (tagged a b) fs) (any-put a b f done)
    ∙ or_assoc (any (tagged a b) done) (tagged a b f) (any (tagged a b) fs)

pub any_settled : (a b : ℕ) (fs : List Field) → any (tagged a b) (settled fs) ≡ any (tagged a b) fs
unfolding any settled
any_settled a b fs = any-settled_on a b [] fs

-- it is one more field, unless its tag was there
pub length-put : (f : Field) (gs : List Field) → length (put f gs) ≡ cond (any (tagged f.tag₀ f.tag₁) gs) (length gs) (suc (length gs))
unfolding any put
length-put f [] = refl
length-put f (g ∷ gs) = go (tagged f.tag₀ f.tag₁ g) (length-put f gs)
  where
    inner : (u : Bool) → suc (cond u (length gs) (suc (length gs))) ≡ cond u (suc (length gs)) (suc (suc (length gs)))
    inner true = refl
    inner false = refl

    go : (t : Bool) → length (put f gs) ≡ cond (any (tagged f.tag₀ f.tag₁) gs) (length gs) (suc (length gs))
        → length (cond t (f ∷ gs) (g ∷ put f gs)) ≡ cond (t || any (tagged f.tag₀ f.tag₁) gs) (suc (length gs)) (suc (suc (length gs)))
    go true ih = refl
    go false ih = ap suc ih ∙ inner (any (tagged f.tag₀ f.tag₁) gs)

-- settled fields have no tag twice
pub repeats-put : (f : Field) (gs : List Field) → repeats gs ≡ false → repeats (put f gs) ≡ false
unfolding any put repeats
repeats-put f [] h = refl
repeats-put f (g ∷ gs) h =
    go (tagged f.tag₀ f.tag₁ g) refl (repeats-put f gs (or_right (any (tagged g.tag₀ g.tag₁) gs) (repeats gs) h))
    (or_left (any (tagged g.tag₀ g.tag₁) gs) (repeats gs) h) (or_right (any (tagged g.tag₀ g.tag₁) gs) (repeats gs) h)
  where
    go : (t : Bool) → tagged f.tag₀ f.tag₁ g ≡ t → repeats (put f gs) ≡ false → any (tagged g.tag₀ g.tag₁) gs ≡ false → repeats gs ≡ false
        → repeats (cond t (f ∷ gs) (g ∷ put f gs)) ≡ false
    go true e ih l r = rw (any_same f g gs e, l, r) refl
    go false e ih l r = rw (any-put g.tag₀ g.tag₁ f gs, l, ← tagged-sym f g, e, ih) refl
