-- A piece that is judged good is a tag, a colon and a value, and LN of SQ is a number that fits.
use Prim.Native.Nat.{ℕ, zero, suc, ◌+◌, ◌^◌, ◌≤◌}
use mathlib.Core.Path.{◌≡◌, refl, ap}
use mathlib.Core.Bool.{Bool, true, false, not, ◌&&◌, cond}
use mathlib.Core.List.{List, [], ◌∷◌, ◌++◌, append-nil}
use mathlib.Core.Option.{Option, none, some}
use native.Mathlib.Omega.{arith}
use lib.Dec.{eqb, ltb, leb}
use borrow.Author.Tests.{eqb-true, eqb-false, ltb-true, leb-true, le-leb}
use Rattle.format.specs.Bytes.{digit, printable, all, none?}
use Rattle.format.specs.Decimal.{worth, span, digits}
use Rattle.format.specs.Fields.{Field, refused_piece, good, good_then, tagged, is_value, is_wide, allows, is_tag, plain, spelled, version_field, length_field, value_field, field}
use Rattle.format.specs.Version.{version}
use Rattle.format.specs.declared.Version.{Version}
use Rattle.format.specs.declared.Kind.{Kind}
use Rattle.format.specs.declared.Kind.TheVariants.{Header, ReferenceSequence, ReadGroup, Program, Comment}
use Rattle.accepted.specs.Spelled.{LengthInRange, Good}
use Rattle.lists.proofs.Bools.{never, and_left, and_right}

-- ---- digits

printable-digit : (b : ℕ) → digit b ≡ true → printable b ≡ true
unfolding digit printable
printable-digit b h =
    let l : 48 ≤ b = leb-true 48 b (and_left (leb 48 b) (leb b 57) h) in
    let u : b ≤ 57 = leb-true b 57 (and_right (leb 48 b) (leb b 57) h) in
    rw (le-leb 32 b (omega arith), le-leb b 126 (omega arith)) refl

digits-printable : (s : List ℕ) → all digit s ≡ true → all printable s ≡ true
unfolding all
digits-printable [] h = refl
digits-printable (b ∷ s) h =
    rw (printable-digit b (and_left (digit b) (all digit s) h), digits-printable s (and_right (digit b) (all digit s) h)) refl

span-digits : (s : List ℕ) → all digit (span s).0 ≡ true
unfolding span all
span-digits [] = refl
span-digits (b ∷ s) = go (digit b) refl (span-digits s)
  where
    go : (t : Bool) → digit b ≡ t → all digit (span s).0 ≡ true → all digit (cond {A = List ℕ × List ℕ} t (b ∷ (span s).0, (span s).1) ([], b ∷ s)).0 ≡ true
    go true e ih = rw (e, ih) refl
    go false e ih = refl

span-join : (s : List ℕ) → (span s).0 ++ (span s).1 ≡ s
unfolding span
span-join [] = refl
span-join (b ∷ s) = go (digit b) (span-join s)
  where
    go : (t : Bool) → (span s).0 ++ (span s).1 ≡ s → (cond {A = List ℕ × List ℕ} t (b ∷ (span s).0, (span s).1) ([], b ∷ s)).0 ++ (cond {A = List ℕ × List ℕ} t (b ∷ (span s).0, (span s).1) ([], b ∷ s)).1 ≡ b ∷ s
    go true ih = ap (λ l. b ∷ l) ih
    go false ih = refl

-- ---- values

-- the value `v` was kept as it is
record Kept (k : Kind) (a b at : ℕ) (v : List ℕ) (f : Field) : Type 0 where
  same : f ≡ record { tag₀ = a; tag₁ = b; value = record { at = at; bytes = v } }
  value : allows k a b v ≡ true
  sized : LengthInRange k f

-- the field itself
abbrev own : ℕ → ℕ → ℕ → List ℕ → Field
own a b at v = record { tag₀ = a; tag₁ = b; value = record { at = at; bytes = v } }

plain-kept : (k : Kind) (a b at : ℕ) (v : List ℕ) (f : Field) → LengthInRange k (own a b at v) → plain k a b at v ≡ good f → Kept k a b at v f
unfolding plain
plain-kept k a b at v f z e = go (allows k a b v) refl e
  where
    go : (t : Bool) → allows k a b v ≡ t → cond t (good (own a b at v)) (refused_piece 10) ≡ good f → Kept k a b at v f
    go true h e =
        let q : f ≡ own a b at v = cc in
        record { same = q; value = h; sized = rw q z }
    go false h e = absurd (never (cc))

version-kept : (at : ℕ) (v : List ℕ) (f : Field) → version_field at v ≡ good f → Kept Header 86 78 at v f
unfolding version_field spelled LengthInRange
version-kept at v f e = go (is_value v) e
  where
    inner : (o : Option Version) → spelled o (plain Header 86 78 at v) ≡ good f → Kept Header 86 78 at v f
    inner none e = absurd (never (cc))
    inner (some w) e = plain-kept Header 86 78 at v f tt e

    go : (t : Bool) → cond t (spelled (version v) (plain Header 86 78 at v)) (refused_piece 10) ≡ good f → Kept Header 86 78 at v f
    go true e = inner (version v) e
    go false e = absurd (never (cc))

-- digits, and nothing after them
length-kept : (at : ℕ) (ds rest : List ℕ) (f : Field) → all digit ds ≡ true → length_field at (ds, rest) ≡ good f → Kept ReferenceSequence 76 78 at (ds ++ rest) f
unfolding length_field none? is_value allows is_wide LengthInRange digits
length-kept at [] rest f p e = absurd (never (cc))
length-kept at (d ∷ ds) rest f p e = go (ltb n (2 ^ 64)) (eqb n 0) (ltb n (2 ^ 31)) rest refl refl e
  where
    n : ℕ
    n = worth (d ∷ ds)

    go : (t u v : Bool) (rest : List ℕ) → ltb n (2 ^ 31) ≡ v → eqb n 0 ≡ u
        → cond (not t) (refused_piece 12) (cond u (refused_piece 13) (cond (not v) (refused_piece 27) (cond (none? rest) (good (own 76 78 at (d ∷ ds))) (good_then (own 76 78 at (d ∷ ds)) 6))))
        ≡ good f
        → Kept ReferenceSequence 76 78 at (d ∷ ds ++ rest) f
    go false u v r h k e = absurd (never (cc))
    go true true v r h k e = absurd (never (cc))
    go true false false r h k e = absurd (never (cc))
    go true false true (c ∷ cs) h k e = absurd (never (cc))
    go true false true [] h k e =
        let q : f ≡ own 76 78 at (d ∷ ds) = cc in
        let j : d ∷ ds ++ [] ≡ d ∷ ds = append-nil (d ∷ ds) in
        let l : 1 ≤ n = one_up n (eqb-false n 0 k) in
        rw j (record { same = q; value = digits-printable (d ∷ ds) p; sized = rw q (λ t. (l, ltb-true n (2 ^ 31) h, p)) })
      where
        one_up : (m : ℕ) → (m ≡ 0 → ⊥) → 1 ≤ m
        one_up zero z = absurd (z refl)
        one_up (suc m) z = omega arith

value-kept : (k : Kind) (a b at : ℕ) (v : List ℕ) (f : Field) → value_field k a b at v ≡ good f → Kept k a b at v f
unfolding value_field LengthInRange tagged
value-kept Header a b at v f e = go (eqb a 86 && eqb b 78) refl e
  where
    go : (t : Bool) → eqb a 86 && eqb b 78 ≡ t → cond t (version_field at v) (plain Header a b at v) ≡ good f → Kept Header a b at v f
    go true h e = rw (eqb-true a 86 (and_left (eqb a 86) (eqb b 78) h), eqb-true b 78 (and_right (eqb a 86) (eqb b 78) h)) (version-kept at v f e)
    go false h e = plain-kept Header a b at v f tt e
value-kept ReferenceSequence a b at v f e = go (eqb a 76 && eqb b 78) refl e
  where
    go : (t : Bool) → eqb a 76 && eqb b 78 ≡ t → cond t (length_field at (span v)) (plain ReferenceSequence a b at v) ≡ good f → Kept ReferenceSequence a b at v f
    go true h e =
        rw (eqb-true a 76 (and_left (eqb a 76) (eqb b 78) h), eqb-true b 78 (and_right (eqb a 76) (eqb b 78) h), ← span-join v)
        (length-kept at (span v).0 (span v).1 f (span-digits v) e)
    go false h e = plain-kept ReferenceSequence a b at v f (λ t. absurd (never (cc))) e
value-kept ReadGroup a b at v f e = plain-kept ReadGroup a b at v f tt e
value-kept Program a b at v f e = plain-kept Program a b at v f tt e
value-kept Comment a b at v f e = plain-kept Comment a b at v f tt e

-- ---- a piece

pub good-field : (k : Kind) (at : ℕ) (s : List ℕ) (f : Field) → field k at s ≡ good f → Good k at s f
unfolding field
good-field k at [] f e = absurd (never (cc))
good-field k at (a ∷ []) f e = absurd (never (cc))
good-field k at (a ∷ b ∷ []) f e = go (is_tag a b) e
  where
    go : (t : Bool) → cond t (refused_piece 9) (refused_piece 8) ≡ good f → Good k at (a ∷ b ∷ []) f
    go true e = absurd (never (cc))
    go false e = absurd (never (cc))
good-field k at (a ∷ b ∷ c ∷ v) f e = go (is_tag a b) (eqb c 58) refl refl e
  where
    go : (t u : Bool) → is_tag a b ≡ t → eqb c 58 ≡ u → cond t (cond u (value_field k a b (at + 3) v) (refused_piece 9)) (refused_piece 8) ≡ good f → Good k at (a ∷ b ∷ c ∷ v) f
    go false u h g e = absurd (never (cc))
    go true false h g e = absurd (never (cc))
    go true true h g e =
        let w : Kept k a b (at + 3) v f = value-kept k a b (at + 3) v f e in
        record {
          place = ap (λ f. f.value.at) w.same;
          spells = rw (w.same, eqb-true c 58 g) refl;
          tag = rw w.same h;
          value = rw w.same w.value;
          sized = w.sized;
        }
