-- How long fields are in the tidy text: settled fields are no longer than the fields read, and numbers have the fewest digits.
use Prim.Native.Nat.{ℕ, suc, ◌+◌, ◌^◌, ◌≤◌}
use mathlib.Core.Path.{◌≡◌, refl, sym, ap, ◌∙◌}
use mathlib.Core.Bool.{Bool, true, false, ◌&&◌, cond}
use mathlib.Core.List.{List, [], ◌∷◌, ◌++◌}
use mathlib.Core.Option.{Option, none, some}
use native.Mathlib.Omega.{arith}
use lib.ListN.{length, length-append}
use lib.Dec.{eqb, ltb}
use Rattle.format.specs.Decimal.{worth, digits, number, written}
use Rattle.format.specs.Lines.{Piece}
use Rattle.format.specs.Fields.{Field, tagged, later, last_of, without, put, settled_on, settled}
use Rattle.format.specs.Tidy.{fields_text}
use Rattle.format.specs.Version.{grow, sides, both, numbered, version}
use Rattle.format.specs.declared.Version.{Version}
use Rattle.decimal.proofs.ReadBack.{written-fewest}
use Rattle.lists.proofs.Bools.{never, and_left}

-- ---- fields

-- a tab, a tag, a colon, and the value
pub one_more : (f : Field) (fs : List Field) → length (fields_text (f ∷ fs)) ≡ 4 + length f.value.bytes + length (fields_text fs)
unfolding fields_text
one_more f fs = omega (arith, length-append f.value.bytes (fields_text fs))

put-length : (f : Field) (gs : List Field) → length (fields_text (put f gs)) ≤ 4 + length f.value.bytes + length (fields_text gs)
unfolding put
put-length f [] = omega (arith, one_more f [])
put-length f (g ∷ gs) = go (tagged f.tag₀ f.tag₁ g) (put-length f gs)
  where
    go : (t : Bool) → length (fields_text (put f gs)) ≤ 4 + length f.value.bytes + length (fields_text gs)
        → length (fields_text (cond t (f ∷ gs) (g ∷ put f gs))) ≤ 4 + length f.value.bytes + length (fields_text (g ∷ gs))
    go true ih = omega (arith, one_more f gs, one_more g gs)
    go false ih = omega (arith, one_more g (put f gs), one_more g gs)

settled_on_lem : (done fs : List Field) → length (fields_text (settled_on done fs)) ≤ length (fields_text done) + length (fields_text fs)
unfolding settled_on
settled_on_lem done [] = omega arith
settled_on_lem done (f ∷ fs) = omega (arith, settled_on_lem (put f done) fs, put-length f done, one_more f fs)

pub settled-length : (fs : List Field) → length (fields_text (settled fs)) ≤ length (fields_text fs)
unfolding settled fields_text
settled-length fs = omega (arith, settled_on_lem [] fs)

without-length : (a b : ℕ) (fs : List Field) → length (fields_text (without a b fs)) ≤ length (fields_text fs)
unfolding without
without-length a b [] = omega arith
without-length a b (f ∷ fs) = go (tagged a b f) (without-length a b fs)
  where
    go : (t : Bool) → length (fields_text (without a b fs)) ≤ length (fields_text fs)
        → length (fields_text (cond t (without a b fs) (f ∷ without a b fs))) ≤ length (fields_text (f ∷ fs))
    go true ih = omega (arith, one_more f fs)
    go false ih = omega (arith, one_more f (without a b fs), one_more f fs)

-- a key that is taken out leaves room for its last value
pub key-length : (a b : ℕ) (fs : List Field) (p : Piece) → last_of a b fs ≡ some p → 4 + length p.bytes + length (fields_text (without a b fs)) ≤ length (fields_text fs)
unfolding without last_of later
key-length a b [] p e = absurd (never (cc))
key-length a b (f ∷ fs) p e = go (tagged a b f) (last_of a b fs) refl (key-length a b fs) e
  where
    rest : ℕ
    rest = length (fields_text (without a b fs))

    go : (t : Bool) (o : Option Piece) → last_of a b fs ≡ o → ((p : Piece) → last_of a b fs ≡ some p → 4 + length p.bytes + rest ≤ length (fields_text fs))
        → later (cond t (some f.value) none) o ≡ some p → 4 + length p.bytes + length (fields_text (cond t (without a b fs) (f ∷ without a b fs))) ≤ length (fields_text (f ∷ fs))
    go true none q ih e =
        let s : f.value ≡ p = cc in
        omega (arith, one_more f fs, without-length a b fs, ap (λ p. length p.bytes) s)
    go false none q ih e = absurd (never (cc))
    go true (some r) q ih e = omega (arith, one_more f fs, ih p (q ∙ e))
    go false (some r) q ih e = omega (arith, one_more f fs, one_more f (without a b fs), ih p (q ∙ e))

-- one key is not the other's
later-none : (o : Option Piece) → later none o ≡ o
unfolding later
later-none none = refl
later-none (some p) = refl

pub last-without : (a b c d : ℕ) → ((f : Field) → tagged c d f ≡ true → tagged a b f ≡ false) → (fs : List Field) → last_of a b (without c d fs) ≡ last_of a b fs
unfolding last_of without
last-without a b c d n [] = refl
last-without a b c d n (f ∷ fs) = go (tagged c d f) refl (last-without a b c d n fs)
  where
    go : (t : Bool) → tagged c d f ≡ t → last_of a b (without c d fs) ≡ last_of a b fs
        → last_of a b (cond t (without c d fs) (f ∷ without c d fs)) ≡ later (cond (tagged a b f) (some f.value) none) (last_of a b fs)
    go true e ih = rw (n f e) (ih ∙ sym (later-none (last_of a b fs)))
    go false e ih = ap (later (cond (tagged a b f) (some f.value) none)) ih

-- ---- numbers

number-length : (limit : ℕ) (s : List ℕ) (n : ℕ) → number limit s ≡ some n → length (written n) ≤ length s
unfolding number
number-length limit s n e = go (digits s && ltb (worth s) limit) refl e
  where
    go : (t : Bool) → digits s && ltb (worth s) limit ≡ t → cond t (some (worth s)) none ≡ some n → length (written n) ≤ length s
    go true h e = let q : worth s ≡ n = cc in rw (← q) (written-fewest s (and_left (digits s) (ltb (worth s) limit) h))
    go false h e = absurd (never (cc))

sides-length : (d : ℕ) (s : List ℕ) (w : List ℕ × List ℕ) → sides d s ≡ some w → length s ≡ length w.0 + suc (length w.1)
unfolding sides grow
sides-length d [] w e = absurd (never (cc))
sides-length d (b ∷ s) w e = go (eqb b d) (sides d s) refl (sides-length d s) e
  where
    go : (t : Bool) (o : Option (List ℕ × List ℕ)) → sides d s ≡ o → ((w : List ℕ × List ℕ) → sides d s ≡ some w → length s ≡ length w.0 + suc (length w.1))
        → cond t (some ([], s)) (grow b o) ≡ some w → suc (length s) ≡ length w.0 + suc (length w.1)
    go true o q ih e =
        let x : ◌≡◌ {A = List ℕ × List ℕ} ([], s) w = cc in
        omega (arith, ap (λ w. length w.0) x, ap (λ w. length w.1) x)
    go false none q ih e = absurd (never (cc))
    go false (some u) q ih e =
        let x : ◌≡◌ {A = List ℕ × List ℕ} (b ∷ u.0, u.1) w = cc in
        omega (arith, ap (λ w. length w.0) x, ap (λ w. length w.1) x, ih u q)

pub version-length : (s : List ℕ) (v : Version) → version s ≡ some v → length (written v.major ++ (46 ∷ written v.minor)) ≤ length s
unfolding version numbered both
version-length s v e = go (sides 46 s) refl e
  where
    pair : (o p : Option ℕ) (l r : ℕ) → ((n : ℕ) → o ≡ some n → length (written n) ≤ l) → ((n : ℕ) → p ≡ some n → length (written n) ≤ r) → both o p ≡ some v
        → length (written v.major ++ (46 ∷ written v.minor)) ≤ l + suc r
    pair none p l r f g e = absurd (never (cc))
    pair (some m) none l r f g e = absurd (never (cc))
    pair (some m) (some n) l r f g e =
        let q : record { major = m; minor = n } ≡ v = cc in
        rw (← q) (omega (arith, length-append (written m) (46 ∷ written n), f m refl, g n refl))

    go : (o : Option (List ℕ × List ℕ)) → sides 46 s ≡ o → numbered o ≡ some v → length (written v.major ++ (46 ∷ written v.minor)) ≤ length s
    go none q e = absurd (never (cc))
    go (some w) q e =
        rw (sides-length 46 s w q)
        (pair (number (2 ^ 32) w.0) (number (2 ^ 32) w.1) (length w.0) (length w.1) (number-length (2 ^ 32) w.0) (number-length (2 ^ 32) w.1) e)
