-- The records of one kind among others: what holds of all holds of them.
use Prim.Native.Nat.{ℕ}
use mathlib.Core.Path.{◌≡◌, refl, ap}
use mathlib.Core.Bool.{Bool, true, false, cond}
use mathlib.Core.List.{List, [], ◌∷◌, ◌++◌}
use lib.Dec.{eqb}
use Rattle.format.specs.Bytes.{any}
use Rattle.format.specs.Records.{Record, code}
use Rattle.format.specs.Reading.{clash, of_kind}
use Rattle.byte_slices.specs.Stands.{Each}
use Rattle.accepted.specs.Admits.{KeysDiffer}
use Rattle.lists.proofs.Bools.{or_left, or_right}

pub of_kind-append : (k : ℕ) (rs qs : List Record) → of_kind k (rs ++ qs) ≡ of_kind k rs ++ of_kind k qs
unfolding of_kind
of_kind-append k [] qs = refl
of_kind-append k (r ∷ rs) qs = go (eqb (code r) k) (of_kind-append k rs qs)
  where
    go : (t : Bool) → of_kind k (rs ++ qs) ≡ of_kind k rs ++ of_kind k qs
        → cond t (r ∷ of_kind k (rs ++ qs)) (of_kind k (rs ++ qs)) ≡ cond t (r ∷ of_kind k rs) (of_kind k rs) ++ of_kind k qs
    go true ih = ap (λ l. r ∷ l) ih
    go false ih = ih

-- no record has the kind
pub of_kind-none : (k : ℕ) (rs : List Record) → Each (λ r. eqb (code r) k ≡ false) rs → of_kind k rs ≡ []
unfolding of_kind Each
of_kind-none k [] h = refl
of_kind-none k (r ∷ rs) h = rw (h.0, of_kind-none k rs h.1) refl

pub each-of_kind : (P : Record → Type 0) (k : ℕ) (rs : List Record) → Each P rs → Each P (of_kind k rs)
unfolding of_kind Each
each-of_kind P k [] h = tt
each-of_kind P k (r ∷ rs) h = go (eqb (code r) k) (each-of_kind P k rs h.1)
  where
    go : (t : Bool) → Each P (of_kind k rs) → Each P (cond t (r ∷ of_kind k rs) (of_kind k rs))
    go true ih = (h.0, ih)
    go false ih = ih

-- they have the kind
pub of_kind-code : (k : ℕ) (rs : List Record) → Each (λ r. eqb (code r) k ≡ true) (of_kind k rs)
unfolding of_kind Each
of_kind-code k [] = tt
of_kind-code k (r ∷ rs) = go (eqb (code r) k) refl (of_kind-code k rs)
  where
    go : (t : Bool) → eqb (code r) k ≡ t → Each (λ r. eqb (code r) k ≡ true) (of_kind k rs) → Each (λ r. eqb (code r) k ≡ true) (cond t (r ∷ of_kind k rs) (of_kind k rs))
    go true e ih = (e, ih)
    go false e ih = ih

any-of_kind : (p : Record → Bool) (k : ℕ) (rs : List Record) → any p rs ≡ false → any p (of_kind k rs) ≡ false
unfolding of_kind any
any-of_kind p k [] h = refl
any-of_kind p k (r ∷ rs) h = go (eqb (code r) k) (any-of_kind p k rs (or_right (p r) (any p rs) h))
  where
    go : (t : Bool) → any p (of_kind k rs) ≡ false → any p (cond t (r ∷ of_kind k rs) (of_kind k rs)) ≡ false
    go true ih = rw (or_left (p r) (any p rs) h, ih) refl
    go false ih = ih

pub apart-of_kind : (k : ℕ) (rs : List Record) → KeysDiffer rs → KeysDiffer (of_kind k rs)
unfolding of_kind KeysDiffer
apart-of_kind k [] h = tt
apart-of_kind k (r ∷ rs) h = go (eqb (code r) k) (apart-of_kind k rs h.1)
  where
    go : (t : Bool) → KeysDiffer (of_kind k rs) → KeysDiffer (cond t (r ∷ of_kind k rs) (of_kind k rs))
    go true ih = (any-of_kind (clash r) k rs h.0, ih)
    go false ih = ih
