-- A record has fewer other fields than its line has bytes.
use Prim.Native.Nat.{ℕ, suc, ◌+◌, ◌≤◌}
use mathlib.Core.Path.{◌≡◌, refl, ap}
use mathlib.Core.Bool.{Bool, true, false, cond}
use mathlib.Core.List.{List, [], ◌∷◌}
use native.Mathlib.Omega.{arith}
use lib.ListN.{length}
use lib.Dec.{eqb}
use Rattle.format.specs.Lines.{Piece, onto, cut, placed}
use Rattle.format.specs.Fields.{Field, tagged, without, put, settled_on, settled}
use Rattle.format.specs.Records.{Record, others, read, line}
use Rattle.format.specs.declared.Kind.{Kind}
use Rattle.accepted.specs.Spelled as sp
use Rattle.accepted.specs.Spelled.{Good, Made, AcceptedLine}
use Rattle.lists.proofs.Pairs.{pairs-length}
use Rattle.accepted.proofs.Spelled.{line-accepted}

-- ---- fields that are left out, or settled

without-few : (a b : ℕ) (fs : List Field) → length (without a b fs) ≤ length fs
unfolding without
without-few a b [] = omega arith
without-few a b (f ∷ fs) = go (tagged a b f) (without-few a b fs)
  where
    go : (t : Bool) → length (without a b fs) ≤ length fs → length (cond t (without a b fs) (f ∷ without a b fs)) ≤ suc (length fs)
    go true ih = omega (arith, ih)
    go false ih = omega (arith, ih)

put-few : (f : Field) (gs : List Field) → length (put f gs) ≤ suc (length gs)
unfolding put
put-few f [] = omega arith
put-few f (g ∷ gs) = go (tagged f.tag₀ f.tag₁ g) (put-few f gs)
  where
    go : (t : Bool) → length (put f gs) ≤ suc (length gs) → length (cond t (f ∷ gs) (g ∷ put f gs)) ≤ suc (suc (length gs))
    go true ih = omega arith
    go false ih = omega (arith, ih)

settled_on-few : (done fs : List Field) → length (settled_on done fs) ≤ length done + length fs
unfolding settled_on
settled_on-few done [] = omega arith
settled_on-few done (f ∷ fs) = omega (arith, settled_on-few (put f done) fs, put-few f done)

settled-few : (fs : List Field) → length (settled fs) ≤ length fs
unfolding settled
settled-few fs = omega (arith, settled_on-few [] fs)

-- ---- the pieces between tabs

onto-few : (b : ℕ) (ps : List (List ℕ)) → length (onto b ps) ≤ suc (length ps)
unfolding onto
onto-few b [] = omega arith
onto-few b (p ∷ ps) = omega arith

pub cut-few : (d : ℕ) (s : List ℕ) → length (cut d s) ≤ suc (length s)
unfolding cut
cut-few d [] = omega arith
cut-few d (b ∷ s) = go (eqb b d) (cut-few d s)
  where
    go : (t : Bool) → length (cut d s) ≤ suc (length s) → length (cond t ([] ∷ cut d s) (onto b (cut d s))) ≤ suc (suc (length s))
    go true ih = omega (arith, ih)
    go false ih = omega (arith, ih, onto-few b (cut d s))

placed-length : (at : ℕ) (ps : List (List ℕ)) → length (placed at ps) ≡ length ps
unfolding placed
placed-length at [] = refl
placed-length at (p ∷ ps) = ap suc (placed-length (at + length p + 1) ps)

-- ---- a record's other fields

made-few : (fs : List Field) (k : Kind) (r : Record) → Made fs k r → length (others r) ≤ length fs
unfolding others
made-few fs k r (sp.of-header p v e g) = omega (arith, settled-few (without 86 78 fs), without-few 86 78 fs)
made-few fs k r (sp.of-reference p n e g) =
    omega (arith, settled-few (without 83 78 (without 76 78 fs)), without-few 83 78 (without 76 78 fs), without-few 76 78 fs)
made-few fs k r (sp.of-group p e) = omega (arith, settled-few (without 73 68 fs), without-few 73 68 fs)
made-few fs k r (sp.of-program p e) = omega (arith, settled-few (without 73 68 fs), without-few 73 68 fs)

accepted-few : (strict : Bool) (at : ℕ) (s : List ℕ) (r : Record) → AcceptedLine strict at s r → length (others r) ≤ length s
unfolding others
accepted-few strict at s r (sp.of-remark t) = omega arith
accepted-few strict at s r (sp.of_fields a) =
    omega (
      arith,
      made-few a.fields a.kind r a.made,
      pairs-length (λ p f. Good a.kind p.at p.bytes f) (placed (at + 4) (cut 9 a.rest)) a.fields a.each,
      placed-length (at + 4) (cut 9 a.rest),
      cut-few 9 a.rest,
      ap length a.spells,
    )

pub others-few : (strict : Bool) (p : Piece) (r : Record) → line strict p ≡ read r → length (others r) ≤ length p.bytes
others-few strict p r e = accepted-few strict p.at p.bytes r (line-accepted strict p r e)
