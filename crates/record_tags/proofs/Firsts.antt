-- Settled fields by their first places: walking a line's fields from left to right gives them one by one.
use Prim.Native.Nat.{ℕ}
use mathlib.Core.Path.{◌≡◌, refl, sym, ap, ◌∙◌}
use mathlib.Core.Bool.{Bool, true, false, ◌||◌, cond}
use mathlib.Core.List.{List, [], ◌∷◌, ◌++◌, map, append_assoc, append-nil}
use mathlib.Core.Option.{Option, none, some}
use native.Mathlib.Omega.{arith}
use lib.Dec.{eqb}
use borrow.Author.Tests.{eqb-true}
use Rattle.format.specs.Bytes.{any}
use Rattle.format.specs.Lines.{Piece}
use Rattle.format.specs.Fields.{Field, tagged, repeats, later, last_of, put, settled_on, settled}
use Rattle.format.specs.declared.Kind.{Kind}
use Rattle.format.specs.Keys.{is_key}
use Rattle.record_tags.specs.Others.{unkeyed, or_last, latest, firsts}
use Rattle.lists.proofs.Bools.{or-false, any_snoc, and_left, and_right, or_left, or_right, split}
use Rattle.accepted.proofs.Tags.{tagged-sym, any_same, any-put, repeats-put}

-- ---- the last value, one field later

latest-none : (f : Field) → latest [] f ≡ f
unfolding latest
latest-none f = refl

later-none : (o : Option Piece) → later none o ≡ o
unfolding later
later-none none = refl
later-none (some p) = refl

latest-other : (f : Field) (fs : List Field) (g : Field) → tagged f.tag₀ f.tag₁ g ≡ false → latest (f ∷ fs) g ≡ latest fs g
unfolding latest
latest-other f fs g h =
    ap (λ o. record { tag₀ = g.tag₀; tag₁ = g.tag₁; value = or_last g.value o })
    (ap (λ t. later (cond t (some f.value) none) (last_of g.tag₀ g.tag₁ fs)) (sym (tagged-sym f g) ∙ h) ∙ later-none (last_of g.tag₀ g.tag₁ fs))

latest-same : (f : Field) (fs : List Field) (g : Field) → tagged f.tag₀ f.tag₁ g ≡ true → latest (f ∷ fs) g ≡ latest fs f
unfolding latest tagged later
latest-same f fs g h =
    let x : Bool = eqb g.tag₀ f.tag₀ in
    let y : Bool = eqb g.tag₁ f.tag₁ in
    let e : g.tag₀ ≡ f.tag₀ = eqb-true g.tag₀ f.tag₀ (and_left x y h) in
    let d : g.tag₁ ≡ f.tag₁ = eqb-true g.tag₁ f.tag₁ (and_right x y h) in
    let own : tagged g.tag₀ g.tag₁ f ≡ true = sym (tagged-sym f g) ∙ h in
    ap (λ o. record { tag₀ = g.tag₀; tag₁ = g.tag₁; value = or_last g.value o })
    (ap (λ t. later (cond t (some f.value) none) (last_of g.tag₀ g.tag₁ fs)) own)
    ∙ rw (e, d) (go (last_of f.tag₀ f.tag₁ fs))
  where
    go : (o : Option Piece) → ◌≡◌ {A = Field} (record { tag₀ = f.tag₀; tag₁ = f.tag₁; value = or_last g.value (later (some f.value) o) }) (record { tag₀ = f.tag₀; tag₁ = f.tag₁; value = or_last f.value o })
    go none = refl
    go (some p) = refl

-- ---- a list of settled fields, one field later

map_other : (f : Field) (fs gs : List Field) → any (tagged f.tag₀ f.tag₁) gs ≡ false → map (latest (f ∷ fs)) gs ≡ map (latest fs) gs
unfolding any
map_other f fs [] h = refl
map_other f fs (g ∷ gs) h =
    let t : Bool = tagged f.tag₀ f.tag₁ g in
    let u : Bool = any (tagged f.tag₀ f.tag₁) gs in
    ap (λ x. x ∷ map (latest (f ∷ fs)) gs) (latest-other f fs g (or_left t u h))
    ∙ ap (λ x. latest fs g ∷ x) (map_other f fs gs (or_right t u h))

-- a field that is put among others: its tag's field has its value, or it comes last
map-put : (f : Field) (fs gs : List Field) → repeats gs ≡ false
    → map (latest fs) (put f gs)
    ≡ map (latest (f ∷ fs)) gs ++ cond (any (tagged f.tag₀ f.tag₁) gs) [] (latest fs f ∷ [])
unfolding any put repeats
map-put f fs [] h = refl
map-put f fs (g ∷ gs) h =
    let t : Bool = any (tagged g.tag₀ g.tag₁) gs in
    go (tagged f.tag₀ f.tag₁ g) refl (or_left t (repeats gs) h) (map-put f fs gs (or_right t (repeats gs) h))
  where
    end : List Field
    end = cond (any (tagged f.tag₀ f.tag₁) gs) [] (latest fs f ∷ [])

    go : (t : Bool) → tagged f.tag₀ f.tag₁ g ≡ t → any (tagged g.tag₀ g.tag₁) gs ≡ false
        → map (latest fs) (put f gs) ≡ map (latest (f ∷ fs)) gs ++ end
        → map (latest fs) (cond t (f ∷ gs) (g ∷ put f gs))
        ≡ latest (f ∷ fs) g ∷ (map (latest (f ∷ fs)) gs ++ cond (t || any (tagged f.tag₀ f.tag₁) gs) [] (latest fs f ∷ []))
    go true e l ih =
        ap (λ x. x ∷ map (latest fs) gs) (sym (latest-same f fs g e))
        ∙ ap (λ x. latest (f ∷ fs) g ∷ x) (sym (map_other f fs gs (any_same f g gs e ∙ l)) ∙ sym (append-nil (map (latest (f ∷ fs)) gs)))
    go false e l ih = ap (λ x. x ∷ map (latest fs) (put f gs)) (sym (latest-other f fs g e)) ∙ ap (λ x. latest (f ∷ fs) g ∷ x) ih

-- ---- settled fields are those at first places

module _ (k : Kind) (a b : ℕ) (n : is_key k a b ≡ false) where
  -- a tag that is no key is no key's tag
  pub not_key : (f : Field) → is_key k f.tag₀ f.tag₁ ≡ true → tagged a b f ≡ false
  unfolding tagged
  not_key f h = split (tagged a b f) (λ t. absurd (apart t)) (λ t. t)
    where
      apart : tagged a b f ≡ true → ⊥
      apart t =
          let x : Bool = eqb f.tag₀ a in
          let y : Bool = eqb f.tag₁ b in
          let e : f.tag₀ ≡ a = eqb-true f.tag₀ a (and_left x y t) in
          let d : f.tag₁ ≡ b = eqb-true f.tag₁ b (and_right x y t) in
          let g : is_key k a b ≡ true = rw (← e, ← d) h in
          let z : ◌≡◌ {A = ℕ} 0 1 = cc in
          omega arith

  last_of-unkeyed : (fs : List Field) → last_of a b (unkeyed k fs) ≡ last_of a b fs
  unfolding last_of unkeyed
  last_of-unkeyed [] = refl
  last_of-unkeyed (f ∷ fs) = go (is_key k f.tag₀ f.tag₁) refl (last_of-unkeyed fs)
    where
      go : (t : Bool) → is_key k f.tag₀ f.tag₁ ≡ t → last_of a b (unkeyed k fs) ≡ last_of a b fs
          → last_of a b (cond t (unkeyed k fs) (f ∷ unkeyed k fs)) ≡ later (cond (tagged a b f) (some f.value) none) (last_of a b fs)
      go true h ih = ih ∙ sym (ap (λ t. later (cond t (some f.value) none) (last_of a b fs)) (not_key f h) ∙ later-none (last_of a b fs))
      go false h ih = ap (later (cond (tagged a b f) (some f.value) none)) ih

-- which fields are first depends only on the tags before them, and not on keys
firsts-done : (k : Kind) (d e fs : List Field) → ((a b : ℕ) → is_key k a b ≡ false → any (tagged a b) d ≡ any (tagged a b) e) → firsts k d fs ≡ firsts k e fs
unfolding firsts
firsts-done k d e [] h = refl
firsts-done k d e (f ∷ fs) h =
    go (is_key k f.tag₀ f.tag₁) (h f.tag₀ f.tag₁)
    (firsts-done k (d ++ (f ∷ [])) (e ++ (f ∷ [])) fs (λ a b n. any_snoc (tagged a b) d f ∙ ap (λ t. t || tagged a b f) (h a b n) ∙ sym (any_snoc (tagged a b) e f)))
  where
    go : (t : Bool) → (t ≡ false → any (tagged f.tag₀ f.tag₁) d ≡ any (tagged f.tag₀ f.tag₁) e)
        → firsts k (d ++ (f ∷ [])) fs ≡ firsts k (e ++ (f ∷ [])) fs
        → cond (t || any (tagged f.tag₀ f.tag₁) d) (firsts k (d ++ (f ∷ [])) fs) (latest fs f ∷ firsts k (d ++ (f ∷ [])) fs)
        ≡ cond (t || any (tagged f.tag₀ f.tag₁) e) (firsts k (e ++ (f ∷ [])) fs) (latest fs f ∷ firsts k (e ++ (f ∷ [])) fs)
    go true g r = r
    go false g r = rw (g refl, r) refl

map-none : (fs : List Field) → map (latest []) fs ≡ fs
map-none [] = refl
map-none (f ∷ fs) = ap (λ x. x ∷ map (latest []) fs) (latest-none f) ∙ ap (λ x. f ∷ x) (map-none fs)

settled_on-firsts : (k : Kind) (done fs : List Field) → repeats done ≡ false
    → settled_on done (unkeyed k fs) ≡ map (latest (unkeyed k fs)) done ++ firsts k done fs
unfolding settled_on unkeyed firsts
settled_on-firsts k done [] h = sym (append-nil (map (latest []) done) ∙ map-none done)
settled_on-firsts k done (f ∷ fs) h =
    go (is_key k f.tag₀ f.tag₁) refl (settled_on-firsts k done fs h) (settled_on-firsts k (put f done) fs (repeats-put f done h))
  where
    all : List Field
    all = unkeyed k fs

    next : List Field
    next = firsts k (done ++ (f ∷ [])) fs

    tail : (t : Bool) → cond t [] (latest fs f ∷ []) ++ next ≡ cond t next (latest fs f ∷ next)
    tail true = refl
    tail false = refl

    go : (t : Bool) → is_key k f.tag₀ f.tag₁ ≡ t
        → settled_on done all ≡ map (latest all) done ++ firsts k done fs
        → settled_on (put f done) all ≡ map (latest all) (put f done) ++ firsts k (put f done) fs
        → settled_on done (cond t all (f ∷ all))
        ≡ map (latest (cond t all (f ∷ all))) done ++ cond (t || any (tagged f.tag₀ f.tag₁) done) next (latest fs f ∷ next)
    go true e skip take =
        skip ∙ ap (λ x. map (latest all) done ++ x) (firsts-done k done (done ++ (f ∷ [])) fs (λ a b n. sym (any_snoc (tagged a b) done f ∙ ap (λ t. any (tagged a b) done || t) (not_key k a b n f e) ∙ or-false (any (tagged a b) done))))
    go false e skip take =
        take
        ∙ ap (λ x. x ++ firsts k (put f done) fs) (map-put f all done h)
        ∙ append_assoc (map (latest (f ∷ all)) done) (cond (any (tagged f.tag₀ f.tag₁) done) [] (latest all f ∷ [])) (firsts k (put f done) fs)
        ∙ ap (λ x. map (latest (f ∷ all)) done ++ (cond (any (tagged f.tag₀ f.tag₁) done) [] (latest all f ∷ []) ++ x))
        (firsts-done k (put f done) (done ++ (f ∷ [])) fs (λ a b n. any-put a b f done ∙ sym (any_snoc (tagged a b) done f)))
        ∙ ap (λ x. map (latest (f ∷ all)) done ++ (cond (any (tagged f.tag₀ f.tag₁) done) [] (x ∷ []) ++ next)) (latest-all e)
        ∙ ap (λ x. map (latest (f ∷ all)) done ++ x) (tail (any (tagged f.tag₀ f.tag₁) done))
      where
        latest-all : is_key k f.tag₀ f.tag₁ ≡ false → latest all f ≡ latest fs f
        latest-all n = ap (λ o. record { tag₀ = f.tag₀; tag₁ = f.tag₁; value = or_last f.value o }) (last_of-unkeyed k f.tag₀ f.tag₁ n fs)

-- the settled fields that are no key, from left to right
pub settled-firsts : (k : Kind) (fs : List Field) → settled (unkeyed k fs) ≡ firsts k [] fs
unfolding settled repeats
settled-firsts k fs = settled_on-firsts k [] fs refl
