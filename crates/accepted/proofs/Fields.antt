-- What holds of each field of a line holds of what is picked from them: the last with a tag, those without one, the settled ones.
use Prim.Native.Nat.{ℕ}
use mathlib.Core.Path.{◌≡◌, refl, ◌∙◌}
use mathlib.Core.Bool.{Bool, true, false, cond}
use mathlib.Core.List.{List, [], ◌∷◌}
use mathlib.Core.Option.{Option, none, some}
use Rattle.format.specs.Lines.{Piece}
use Rattle.format.specs.Fields.{Field, tagged, repeats, later, last_of, without, put, settled_on, settled}
use Rattle.byte_slices.specs.Stands.{Each}
use Rattle.accepted.specs.Pieces.{values}
use Rattle.lists.proofs.Bools.{never}
use Rattle.accepted.proofs.Tags.{repeats-put}

-- `p` is the value of a field with the tag `a`, `b` of which `P` holds
pub record Of (P : Field → Type 0) (a b : ℕ) (p : Piece) : Type 0 where
  pub field : Field
  pub holds : P field
  pub tag : tagged a b field ≡ true
  pub value : field.value ≡ p

module _ (P : Field → Type 0) where
  pub last_of-of : (a b : ℕ) (fs : List Field) (p : Piece) → Each P fs → last_of a b fs ≡ some p → Of P a b p
  unfolding Each last_of later
  last_of-of a b [] p h e = absurd (never (cc))
  last_of-of a b (f ∷ fs) p h e = go (tagged a b f) refl (last_of a b fs) refl e (last_of-of a b fs p h.1)
    where
      go : (t : Bool) → tagged a b f ≡ t → (o : Option Piece) → last_of a b fs ≡ o → later (cond t (some f.value) none) o ≡ some p → (last_of a b fs ≡ some p → Of P a b p) → Of P a b p
      go true g none k e ih = record { field = f; holds = h.0; tag = g; value = cc }
      go false g none k e ih = absurd (never (cc))
      go t g (some q) k e ih = ih (k ∙ e)

  pub each-without : (a b : ℕ) (fs : List Field) → Each P fs → Each P (without a b fs)
  unfolding Each without
  each-without a b [] h = tt
  each-without a b (f ∷ fs) h = go (tagged a b f) (each-without a b fs h.1)
    where
      go : (t : Bool) → Each P (without a b fs) → Each P (cond t (without a b fs) (f ∷ without a b fs))
      go true ih = ih
      go false ih = (h.0, ih)

  each-put : (f : Field) (gs : List Field) → P f → Each P gs → Each P (put f gs)
  unfolding Each put
  each-put f [] p h = (p, tt)
  each-put f (g ∷ gs) p h = go (tagged f.tag₀ f.tag₁ g) (each-put f gs p h.1)
    where
      go : (t : Bool) → Each P (put f gs) → Each P (cond t (f ∷ gs) (g ∷ put f gs))
      go true ih = (p, h.1)
      go false ih = (h.0, ih)

  each-settled_on : (done fs : List Field) → Each P done → Each P fs → Each P (settled_on done fs)
  unfolding Each settled_on
  each-settled_on done [] d h = d
  each-settled_on done (f ∷ fs) d h = each-settled_on (put f done) fs (each-put f done h.0 d) h.1

  pub each-settled : (fs : List Field) → Each P fs → Each P (settled fs)
  unfolding settled Each
  each-settled fs h = each-settled_on [] fs tt h

-- only the values
pub each-values : (P : Piece → Type 0) (fs : List Field) → Each (λ f. P f.value) fs → Each P (values fs)
unfolding Each values
each-values P [] h = tt
each-values P (f ∷ fs) h = (h.0, each-values P fs h.1)

-- ---- tags

repeats-settled_on : (done fs : List Field) → repeats done ≡ false → repeats (settled_on done fs) ≡ false
unfolding settled_on
repeats-settled_on done [] h = h
repeats-settled_on done (f ∷ fs) h = repeats-settled_on (put f done) fs (repeats-put f done h)

-- settled fields have no tag twice
pub repeats-settled : (fs : List Field) → repeats (settled fs) ≡ false
unfolding settled repeats
repeats-settled fs = repeats-settled_on [] fs refl

-- none has the tag that was taken out
pub without-none : (a b : ℕ) (fs : List Field) → Each (λ f. tagged a b f ≡ false) (without a b fs)
unfolding Each without
without-none a b [] = tt
without-none a b (f ∷ fs) = go (tagged a b f) refl (without-none a b fs)
  where
    go : (t : Bool) → tagged a b f ≡ t → Each (λ f. tagged a b f ≡ false) (without a b fs) → Each (λ f. tagged a b f ≡ false) (cond t (without a b fs) (f ∷ without a b fs))
    go true e ih = ih
    go false e ih = (e, ih)
