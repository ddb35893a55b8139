-- Finding is the inverse of `calls::key`, and finds what the plain search of `names` finds.
use Prim.Native.Nat.{ℕ, zero, suc, ◌+◌}
use mathlib.Core.Path.{◌≡◌, refl, sym, ap, ap₂, ◌∙◌}
use mathlib.Core.Bool.{true, false, ◌&&◌}
use mathlib.Core.List.{List, [], ◌∷◌}
use mathlib.Core.Option.{Option, none, some}
use native.Mathlib.Omega.{arith}
use lib.ListN.{get_elem?}
use lib.Dec.{eqb}
use borrow.Author.Tests.{eq-eqb, eqb-true}
use Rattle.format.specs.Bytes.{any}
use Rattle.format.specs.Lines.{Piece}
use Rattle.format.specs.Records.{Record, code, key}
use Rattle.format.specs.Reading.{same_keys, clash, of_kind}
use Rattle.format.specs.Calls.{yes, there, key_if_there, keying}
use Rattle.byte_slices.specs.Stands.{Each}
use Rattle.byte_slices.proofs.Equal.{same_self}
use Rattle.accepted.specs.Admits.{KeysDiffer}
use Rattle.accepted.specs.Read.{records_of}
use Rattle.lists.proofs.Bools.{never, or_left, or_right}
use Rattle.accepted.proofs.Apart.{same-sym}
use Rattle.accepted.proofs.OfKind.{of_kind-code, apart-of_kind}
use Rattle.accepted.proofs.Text.{text-apart}
use Rattle.read.proofs.Fresh.{passed, goes_on}
use Rattle.calls.proofs.OwnCatalogue.{there-some}
use Rattle.format.specs.Finding.{equals_key, key_ordinal_from, finding}
use Rattle.find.proofs.OwnCatalogue.{finds}

-- ---- a key occurs once among the records of its kind

-- no later record of the kind has this one's key
other_key : (r : Record) (qs : List Record) (i : ℕ) (p : Piece) (k : ℕ) → eqb (code r) k ≡ true → Each (λ q. eqb (code q) k ≡ true) qs
    → any (clash r) qs ≡ false → key_if_there (get_elem? qs i) ≡ some p → equals_key p.bytes (key r) ≡ false
unfolding Each any clash key_if_there
other_key r [] i p k c h d e = absurd (never (cc))
other_key r (q ∷ qs) zero p k c h d e =
    let one : eqb (code r) (code q) ≡ true = eq-eqb (code r) (code q) (eqb-true (code r) k c ∙ sym (eqb-true (code q) k h.0)) in
    let differ : same_keys (key r) (some p) ≡ false = ap₂ (λ b o. b && same_keys (key r) o) (sym one) (sym e) ∙ or_left (eqb (code r) (code q) && same_keys (key r) (key q)) (any (clash r) qs) d in
    turned (key r) differ
  where
    turned : (o : Option Piece) → same_keys o (some p) ≡ false → equals_key p.bytes o ≡ false
    turned none s = unfold equals_key in refl
    turned (some y) s = unfold equals_key same_keys in same-sym p.bytes y.bytes ∙ s
other_key r (q ∷ qs) (suc i) p k c h d e =
    other_key r qs i p k c h.1 (or_right (clash r q) (any (clash r) qs) d) e

key-first : (n : ℕ) (qs : List Record) (i : ℕ) (p : Piece) (k : ℕ) → Each (λ q. eqb (code q) k ≡ true) qs → KeysDiffer qs → key_if_there (get_elem? qs i) ≡ some p
    → key_ordinal_from n p.bytes qs ≡ some (n + i)
unfolding Each KeysDiffer key_if_there key_ordinal_from
key-first n [] i p k h d e = absurd (never (cc))
key-first n (q ∷ qs) zero p k h d e =
    let z : equals_key p.bytes (key q) ≡ true = ap (equals_key p.bytes) e ∙ unfold equals_key in same_self p.bytes in
    let m : n ≡ n + 0 = omega arith in
    rw z (ap some m)
key-first n (q ∷ qs) (suc i) p k h d e =
    let z : equals_key p.bytes (key q) ≡ false = other_key q qs i p k h.0 h.1 d.0 e in
    let m : n + 1 + i ≡ n + suc i = omega arith in
    rw z (key-first (n + 1) qs i p k h.1 d.1 e ∙ ap some m)

-- ---- whatever the text and the catalogue are

-- what `key` answers for an ordinal is found there
pub find-key : (t c : List ℕ) (k i : ℕ) (p : Piece) → keying t c k i ≡ yes p → finding t c k p.bytes ≡ yes i
unfolding keying there
find-key t c k i p e =
    let own = passed t c (λ rs. there (key_if_there (get_elem? (of_kind k rs) i))) p e in
    let rs : List Record = records_of t in
    let told : key_if_there (get_elem? (of_kind k rs) i) ≡ some p = there-some (key_if_there (get_elem? (of_kind k rs) i)) p (sym (goes_on t c (λ rs. there (key_if_there (get_elem? (of_kind k rs) i))) own) ∙ e) in
    let z : 0 + i ≡ i = omega arith in
    finds t c own k p.bytes ∙ ap there (key-first 0 (of_kind k rs) i p k (of_kind-code k rs) (apart-of_kind k rs (text-apart t rs own.reads)) told ∙ ap some z)
