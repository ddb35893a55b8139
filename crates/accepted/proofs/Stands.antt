-- The pieces of an accepted record are in its line.
use Prim.Native.Nat.{ℕ, zero, suc, ◌+◌, ◌-◌, ◌≤◌}
use mathlib.Core.Path.{◌≡◌, refl, ap, subst, ◌∙◌}
use mathlib.Core.Bool.{Bool}
use mathlib.Core.List.{List, [], ◌∷◌}
use mathlib.Core.Option.{some}
use native.Mathlib.Omega.{arith}
use lib.ListN.{length, take, drop}
use lib.Seq.{take-take, take-length, drop-drop}
use Rattle.format.specs.Lines.{Piece, cut, placed}
use Rattle.format.specs.Fields.{Field, last_of, settled, without}
use Rattle.format.specs.Records.{Record, read, line}
use Rattle.format.specs.declared.Kind.{Kind}
use Rattle.byte_slices.specs.Stands.{Stands, Each}
use Rattle.byte_slices.proofs.Stands.{stands-front, stands-onward, pieces-stand}
use Rattle.accepted.specs.Pieces.{values, pieces}
use Rattle.accepted.specs.Spelled as sp
use Rattle.accepted.specs.Spelled.{Good, Made, kind₀, kind₁, Spelled, AcceptedLine}
use Rattle.lists.proofs.Pairs.{pairs-right}
use Rattle.accepted.proofs.Fields.{Of, last_of-of, each-without, each-settled, each-values}
use Rattle.accepted.proofs.Spelled.{line-accepted}

-- ---- a piece of a piece

take-drop-take : (k n m : ℕ) (l : List ℕ) → k + n ≤ m → take n (drop k (take m l)) ≡ take n (drop k l)
take-drop-take zero n m l h = take-take n m l (omega arith)
take-drop-take (suc k) n zero l h = absurd (omega arith)
take-drop-take (suc k) n (suc m) [] h = refl
take-drop-take (suc k) n (suc m) (b ∷ l) h = take-drop-take k n m l (omega arith)

-- is a piece of the whole
pub stands-within : (t : List ℕ) (base : ℕ) (p q : Piece) → Stands t base p → Stands p.bytes p.at q → Stands t base q
stands-within t base p q h k =
    let n : ℕ = length q.bytes in
    let i : ℕ = q.at - p.at in
    let j : ℕ = p.at - base in
    let e : j + i ≡ q.at - base = omega (arith, h.from, k.from) in
    record {
      from = omega (arith, h.from, k.from);
      within = omega (arith, h.from, k.from, h.within, k.within);
      bytes =
          k.bytes
          ∙ ap (λ l. take n (drop i l)) h.bytes
          ∙ take-drop-take i n (length p.bytes) (drop j t) k.within
          ∙ ap (take n) (drop-drop i j t)
          ∙ ap (λ m. take n (drop m t)) e;
    }

pub stands-whole : (s : List ℕ) (at : ℕ) → Stands s at (record { at = at; bytes = s })
stands-whole s at = subst (λ l. Stands s at (record { at = at; bytes = l })) (take-length s) (stands-front s at (length s) (omega arith))

-- ---- a field's value

value-stands : (k : Kind) (at : ℕ) (s : List ℕ) (f : Field) → Good k at s f → Stands s at f.value
value-stands k at s f g = rw g.spells (stands-onward (f.tag₀ ∷ f.tag₁ ∷ 58 ∷ f.value.bytes) at 3 (omega arith) f.value (rw (← g.place) (stands-whole f.value.bytes f.value.at)))

-- ---- a record's pieces

module _ (s : List ℕ) (at : ℕ) (fs : List Field) (each : Each (λ f. Stands s at f.value) fs) where
  one-stands : (a b : ℕ) (p : Piece) → last_of a b fs ≡ some p → Stands s at p
  one-stands a b p e = let o : Of (λ f. Stands s at f.value) a b p = last_of-of (λ f. Stands s at f.value) a b fs p each e in subst (Stands s at) o.value o.holds

  rest-stand : (a b : ℕ) → Each (Stands s at) (values (settled (without a b fs)))
  rest-stand a b = each-values (Stands s at) (settled (without a b fs)) (each-settled (λ f. Stands s at f.value) (without a b fs) (each-without (λ f. Stands s at f.value) a b fs each))

pub made-stand : (s : List ℕ) (at : ℕ) (fs : List Field) (k : Kind) (r : Record) → Each (λ f. Stands s at f.value) fs → Made fs k r → Each (Stands s at) (pieces r)
unfolding pieces Each
made-stand s at fs k r h (sp.of-header p v e g) = rest-stand s at fs h 86 78
made-stand s at fs k r h (sp.of-reference p n e g) =
    (one-stands s at fs h 83 78 p e, rest-stand s at (without 76 78 fs) (each-without (λ f. Stands s at f.value) 76 78 fs h) 83 78)
made-stand s at fs k r h (sp.of-group p e) = (one-stands s at fs h 73 68 p e, rest-stand s at fs h 73 68)
made-stand s at fs k r h (sp.of-program p e) = (one-stands s at fs h 73 68 p e, rest-stand s at fs h 73 68)

pub fields-stand : (strict : Bool) (at : ℕ) (s : List ℕ) (r : Record) (a : Spelled strict at s r) → Each (λ f. Stands s at f.value) a.fields
fields-stand strict at s r a = rw a.spells (
    pairs-right (λ p f. Good k p.at p.bytes f) (Stands a.rest (at + 4)) (λ f. Stands whole at f.value) one
    (placed (at + 4) (cut 9 a.rest)) a.fields (pieces-stand 9 (at + 4) a.rest) a.each)
  where
    k : Kind
    k = a.kind

    whole : List ℕ
    whole = 64 ∷ kind₀ k ∷ kind₁ k ∷ 9 ∷ a.rest

    one : (p : Piece) (f : Field) → Stands a.rest (at + 4) p → Good k p.at p.bytes f → Stands whole at f.value
    one p f h g = stands-onward whole at 4 (omega arith) f.value (stands-within a.rest (at + 4) p f.value h (value-stands k p.at p.bytes f g))

pub accepted-stand : (strict : Bool) (at : ℕ) (s : List ℕ) (r : Record) → AcceptedLine strict at s r → Each (Stands s at) (pieces r)
unfolding pieces Each
accepted-stand strict at s r (sp.of-remark t) = (stands-onward s at 4 (omega arith) (record { at = at + 4; bytes = t }) (stands-whole t (at + 4)), tt)
accepted-stand strict at s r (sp.of_fields a) = made-stand s at a.fields a.kind r (fields-stand strict at s r a) a.made

pub line-stand : (strict : Bool) (p : Piece) (r : Record) → line strict p ≡ read r → Each (Stands p.bytes p.at) (pieces r)
line-stand strict p r e = accepted-stand strict p.at p.bytes r (line-accepted strict p r e)
