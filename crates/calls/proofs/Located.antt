-- The line in the answer is the line of the record: that line of the text reads as this record.
use Prim.Native.Nat.{ℕ, zero, suc, ◌+◌}
use mathlib.Core.Path.{◌≡◌, refl, sym, ap, ◌∙◌}
use mathlib.Core.Bool.{Bool, true, false, cond}
use mathlib.Core.List.{List, [], ◌∷◌}
use mathlib.Core.Option.{some}
use native.Mathlib.Omega.{arith}
use lib.ListN.{get_elem?}
use lib.Dec.{eqb}
use Rattle.format.specs.Lines.{Piece, lines}
use Rattle.format.specs.Records.{Record, code, read, line}
use Rattle.format.specs.Reading.{accept, read_text, is_strict, announced, of_kind}
use Rattle.format.specs.Calls.{yes, there, lines_of, locating}
use Rattle.accepted.specs.Admits.{strictly}
use Rattle.lists.specs.Pairs.{Pairs}
use Rattle.accepted.specs.Read.{records_of}
use Rattle.lists.proofs.Bools.{never}
use Rattle.accepted.proofs.Text.{text-lines}
use Rattle.read.proofs.Fresh.{passed}
use Rattle.calls.proofs.OwnCatalogue.{there-some, located}

-- the line `l` reads as the record of kind `k` with `i` of that kind before it
pub record On (t : List ℕ) (k i l : ℕ) : Type 0 where
  pub accepted : read_text t ≡ accept (records_of t)
  pub here : Record
  pub is : get_elem? (of_kind k (records_of t)) i ≡ some here
  pub cut : Piece
  pub stands : get_elem? (lines t) l ≡ some cut
  pub reads : line (is_strict (announced (lines t))) cut ≡ read here

-- ---- records, each the reading of its line, the first on the line `l`

-- the line `m` reads as the record at `i` of `qs`
record From (strict : Bool) (ps : List Piece) (qs : List Record) (i l m : ℕ) : Type 0 where
  pub ahead : ℕ
  pub place : m ≡ l + ahead
  pub here : Record
  pub is : get_elem? qs i ≡ some here
  pub cut : Piece
  pub stands : get_elem? ps ahead ≡ some cut
  pub reads : line strict cut ≡ read here

-- one more line in front
further : (strict : Bool) (p : Piece) (ps : List Piece) (qs rs : List Record) (i j l m : ℕ) → get_elem? rs i ≡ get_elem? qs j → From strict ps qs j (l + 1) m → From strict (p ∷ ps) rs i l m
further strict p ps qs rs i j l m q x = record {
  ahead = suc x.ahead;
  place = omega (arith, x.place);
  here = x.here;
  is = q ∙ x.is;
  cut = x.cut;
  stands = x.stands;
  reads = x.reads;
}

found : (strict : Bool) (ps : List Piece) (rs : List Record) (k i l m : ℕ) → Pairs (λ p r. line strict p ≡ read r) ps rs → get_elem? (lines_of k l rs) i ≡ some m → From strict ps (of_kind k rs) i l m
unfolding Pairs lines_of of_kind
found strict [] [] k i l m h e = absurd (never cc)
found strict [] (r ∷ rs) k i l m h e = absurd h
found strict (p ∷ ps) [] k i l m h e = absurd h
found strict (p ∷ ps) (r ∷ rs) k i l m h e = go (eqb (code r) k) i (λ j. found strict ps rs k j (l + 1) m h.1) e
  where
    go : (t : Bool) (i : ℕ) → ((j : ℕ) → get_elem? (lines_of k (l + 1) rs) j ≡ some m → From strict ps (of_kind k rs) j (l + 1) m)
        → get_elem? (cond t (l ∷ lines_of k (l + 1) rs) (lines_of k (l + 1) rs)) i ≡ some m → From strict (p ∷ ps) (cond t (r ∷ of_kind k rs) (of_kind k rs)) i l m
    go true zero ih e = let z : l ≡ m = cc in record { ahead = 0; place = omega (arith, z); here = r; is = refl; cut = p; stands = refl; reads = h.0 }
    go true (suc i) ih e = further strict p ps (of_kind k rs) (r ∷ of_kind k rs) (suc i) i l m refl (ih i e)
    go false i ih e = further strict p ps (of_kind k rs) (of_kind k rs) i i l m refl (ih i e)

-- ---- whatever the text and the catalogue are

pub line_on : (t c : List ℕ) (k i l : ℕ) → locating t c k i ≡ yes l → On t k i l
unfolding locating strictly
line_on t c k i l e =
    let own = passed t c (λ rs. there (get_elem? (lines_of k 0 rs) i)) l e in
    let told : get_elem? (lines_of k 0 (records_of t)) i ≡ some l = there-some (get_elem? (lines_of k 0 (records_of t)) i) l (sym (located t c own k i) ∙ e) in
    let x = found (strictly t) (lines t) (records_of t) k i 0 l (text-lines t (records_of t) own.reads) told in
    let n : x.ahead ≡ l = omega (arith, x.place) in
    record {
      accepted = own.reads;
      here = x.here;
      is = x.is;
      cut = x.cut;
      stands = ap (get_elem? (lines t)) (sym n) ∙ x.stands;
      reads = x.reads;
    }
