-- Comparing a list with two runs of bytes, one after the other.
use Prim.Native.Nat.{ℕ, ◌+◌, ◌-◌, ◌≤◌}
use mathlib.Core.Path.{◌≡◌, refl, sym, ap, ◌∙◌}
use mathlib.Core.Bool.{Bool, true, false, ◌&&◌, cond}
use mathlib.Core.List.{List, [], ◌∷◌, ◌++◌}
use native.Mathlib.Omega.{arith}
use lib.ListN.{length, drop, length-drop}
use lib.Dec.{eqb}
use borrow.Author.Tests.{eq-eqb, ne_eqb}
use Rattle.format.specs.Bytes.{same, starts}
use Rattle.lists.proofs.Bools.{never, eqb-sym}
use Rattle.catalogue_same.proofs.Starts.{starts-within}
use Rattle.catalogue_lines.specs.Matched.{matched}
use Rattle.std.specs.Prelude.{Some, None}
use Rattle.std.specs.Bool.{then_some}

and_assoc : (a b c : Bool) → a && (b && c) ≡ (a && b) && c
and_assoc true b c = refl
and_assoc false b c = refl

-- ---- from the front

pub same-append : (xs ys c : List ℕ) → same c (xs ++ ys) ≡ (starts xs c && same (drop (length xs) c) ys)
unfolding same starts
same-append [] ys c = refl
same-append (x ∷ xs) ys [] = refl
same-append (x ∷ xs) ys (b ∷ c) =
    ap (λ t. eqb b x && t) (same-append xs ys c)
    ∙ ap (λ t. t && (starts xs c && same (drop (length xs) c) ys)) (eqb-sym b x)
    ∙ and_assoc (eqb x b) (starts xs c) (same (drop (length xs) c) ys)

-- ---- from a place on

module _ (c : List ℕ) (o : ℕ) where
  -- nothing is left exactly at the end
  pub same_none : o ≤ length c → same (drop o c) [] ≡ eqb o (length c)
  unfolding same
  same_none h = go (drop o c) (length-drop o c)
    where
      go : (s : List ℕ) → length s ≡ length c - o → same s [] ≡ eqb o (length c)
      go [] e = sym (eq-eqb o (length c) (omega arith))
      go (b ∷ s) e = sym (ne_eqb o (length c) (λ q. omega arith))

  pub match-within : (xs : List ℕ) → o ≤ length c → starts xs (drop o c) ≡ true → o + length xs ≤ length c
  match-within xs h q = omega (arith, starts-within xs (drop o c) q, length-drop o c)

  -- the answer, by whether it is there
  module _ (xs : List ℕ) where
    pub match-there : (n : ℕ) → n ≡ o + length xs → starts xs (drop o c) ≡ true → Some n ≡ matched o (drop o c) xs
    unfolding matched
    match-there n e q = rw q (ap Some e)

    pub match-gone : starts xs (drop o c) ≡ false → None ≡ matched o (drop o c) xs
    unfolding matched
    match-gone q = rw q refl

    pub match-told : (b : Bool) (n : ℕ) → starts xs (drop o c) ≡ b → n ≡ o + length xs → then_some b n ≡ matched o (drop o c) xs
    match-told true n q e = match-there n e q
    match-told false n q e = match-gone q

  -- what an answer says
  module _ (xs : List ℕ) where
    pub upto-says : (n : ℕ) → matched o (drop o c) xs ≡ Some n → (starts xs (drop o c) ≡ true) × (n ≡ o + length xs)
    unfolding matched
    upto-says n e = go (starts xs (drop o c)) refl e
      where
        go : (t : Bool) → starts xs (drop o c) ≡ t → cond t (Some (o + length xs)) None ≡ Some n → (starts xs (drop o c) ≡ true) × (n ≡ o + length xs)
        go true q e = (q, cc)
        go false q e = absurd (never (cc))

    pub differs-says : matched o (drop o c) xs ≡ None → starts xs (drop o c) ≡ false
    unfolding matched
    differs-says e = go (starts xs (drop o c)) refl e
      where
        go : (t : Bool) → starts xs (drop o c) ≡ t → cond t (Some (o + length xs)) None ≡ None → starts xs (drop o c) ≡ false
        go true q e = absurd (never (cc))
        go false q e = q
