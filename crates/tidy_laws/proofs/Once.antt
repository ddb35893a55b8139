-- Fields with no tag twice and no key among them, and the same fields at other places.
use Prim.Native.Nat.{ℕ, ◌+◌}
use mathlib.Core.Path.{◌≡◌, refl, sym, ap, ◌∙◌}
use mathlib.Core.Bool.{Bool, true, false, ◌||◌, cond}
use mathlib.Core.List.{List, [], ◌∷◌, ◌++◌, map}
use mathlib.Core.Option.{none}
use lib.ListN.{length}
use lib.Seq.{append_snoc}
use Rattle.format.specs.Bytes.{any}
use Rattle.format.specs.Fields.{Field, tagged, repeats, later, last_of, without, put, settled_on, settled}
use Rattle.lists.proofs.Bools.{or_left, or_right, any_append}
use Rattle.accepted.proofs.Tags.{tagged-sym}
use Rattle.tidy_laws.specs.Bare.{bare_field}
use Rattle.tidy_laws.specs.Line.{put-at, located, piece_text}

-- ---- no field has the tag

pub without-absent : (a b : ℕ) (fs : List Field) → any (tagged a b) fs ≡ false → without a b fs ≡ fs
unfolding any without
without-absent a b [] h = refl
without-absent a b (f ∷ fs) h = go (tagged a b f) h (without-absent a b fs)
  where
    go : (t : Bool) → t || any (tagged a b) fs ≡ false → (any (tagged a b) fs ≡ false → without a b fs ≡ fs) → cond t (without a b fs) (f ∷ without a b fs) ≡ f ∷ fs
    go true h ih = absurd (let z : ◌≡◌ {A = ℕ} 0 1 = cc in omega native.Mathlib.Omega.arith)
    go false h ih = ap (λ l. f ∷ l) (ih h)

pub last-absent : (a b : ℕ) (fs : List Field) → any (tagged a b) fs ≡ false → last_of a b fs ≡ none
unfolding any last_of later
last-absent a b [] h = refl
last-absent a b (f ∷ fs) h = rw (or_left (tagged a b f) (any (tagged a b) fs) h, last-absent a b fs (or_right (tagged a b f) (any (tagged a b) fs) h)) refl

-- ---- no tag is repeated

put-new : (f : Field) (gs : List Field) → any (tagged f.tag₀ f.tag₁) gs ≡ false → put f gs ≡ gs ++ (f ∷ [])
unfolding any put
put-new f [] h = refl
put-new f (g ∷ gs) h =
    let t : Bool = tagged f.tag₀ f.tag₁ g in
    let u : Bool = any (tagged f.tag₀ f.tag₁) gs in
    rw (or_left t u h, put-new f gs (or_right t u h)) refl

-- a tag that comes later did not come before
apart : (done : List Field) (f : Field) (fs : List Field) → repeats (done ++ (f ∷ fs)) ≡ false → any (tagged f.tag₀ f.tag₁) done ≡ false
unfolding any repeats
apart [] f fs h = refl
apart (g ∷ done) f fs h =
    let rest : List Field = done ++ (f ∷ fs) in
    let m : any (tagged g.tag₀ g.tag₁) rest ≡ false = or_left (any (tagged g.tag₀ g.tag₁) rest) (repeats rest) h in
    let n : any (tagged g.tag₀ g.tag₁) done || any (tagged g.tag₀ g.tag₁) (f ∷ fs) ≡ false =
    sym (any_append (tagged g.tag₀ g.tag₁) done (f ∷ fs)) ∙ m in
    let o : any (tagged g.tag₀ g.tag₁) (f ∷ fs) ≡ false = or_right (any (tagged g.tag₀ g.tag₁) done) (any (tagged g.tag₀ g.tag₁) (f ∷ fs)) n in
    let p : tagged g.tag₀ g.tag₁ f ≡ false = or_left (tagged g.tag₀ g.tag₁ f) (any (tagged g.tag₀ g.tag₁) fs) o in
    rw (tagged-sym f g, p) (apart done f fs (or_right (any (tagged g.tag₀ g.tag₁) rest) (repeats rest) h))

settled_on_lem : (done fs : List Field) → repeats (done ++ fs) ≡ false → settled_on done fs ≡ done ++ fs
unfolding settled_on
settled_on_lem done [] h = sym (mathlib.Core.List.append-nil done)
settled_on_lem done (f ∷ fs) h =
    let e : put f done ≡ done ++ (f ∷ []) = put-new f done (apart done f fs h) in
    let j : (done ++ (f ∷ [])) ++ fs ≡ done ++ (f ∷ fs) = append_snoc done f fs in
    rw e (settled_on_lem (done ++ (f ∷ [])) fs (rw j h) ∙ j)

-- such fields stay as they are
pub settled-once : (fs : List Field) → repeats fs ≡ false → settled fs ≡ fs
unfolding settled
settled-once fs h = settled_on_lem [] fs h

-- ---- at other places

pub tags-located : (a b at : ℕ) (fs : List Field) → any (tagged a b) (located at fs) ≡ any (tagged a b) fs
unfolding any located tagged put-at
tags-located a b at [] = refl
tags-located a b at (f ∷ fs) = ap (λ t. tagged a b f || t) (tags-located a b (at + length (piece_text f) + 1) fs)

pub repeats-located : (at : ℕ) (fs : List Field) → repeats (located at fs) ≡ repeats fs
unfolding repeats located put-at
repeats-located at [] = refl
repeats-located at (f ∷ fs) =
    let next : ℕ = at + length (piece_text f) + 1 in
    rw (tags-located f.tag₀ f.tag₁ next fs, repeats-located next fs) refl

pub bare-located : (at : ℕ) (fs : List Field) → map bare_field (located at fs) ≡ map bare_field fs
unfolding located put-at bare_field
bare-located at [] = refl
bare-located at (f ∷ fs) = ap (λ l. bare_field f ∷ l) (bare-located (at + length (piece_text f) + 1) fs)
