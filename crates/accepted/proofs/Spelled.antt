-- An accepted line is a comment, or fields that are all good and that make its record.
use Prim.Native.Nat.{ℕ, zero, suc, ◌+◌, ◌^◌}
use mathlib.Core.Path.{◌≡◌, refl, ap, subst, ◌∙◌}
use mathlib.Core.Bool.{Bool, true, false, not, ◌&&◌, ◌||◌, cond}
use mathlib.Core.List.{List, [], ◌∷◌}
use mathlib.Core.Option.{Option, none, some}
use native.Mathlib.Omega.{arith}
use lib.Dec.{eqb, ltb}
use borrow.Author.Tests.{eqb-true}
use Rattle.format.specs.Bytes.{any, none?}
use Rattle.format.specs.Decimal.{worth, span}
use Rattle.format.specs.Lines.{Piece, cut, placed}
use Rattle.format.specs.Fields.{Field, JudgedPiece, refused_piece, good, good_then, is_value, allows, is_tag, plain, spelled, version_field, length_field, value_field, field, Scan, onward, scan, repeats, last_of, settled, without}
use Rattle.format.specs.Records.{Record, header, reference, group, program, comment, refused_line, read, announcing, versioned, measured, keyed, made, stopped, judged, fielded, remark, body, kind_of, bodied, kinded, prefixed, breaks, line}
use Rattle.format.specs.Version.{version}
use Rattle.format.specs.declared.Version.{Version}
use Rattle.format.specs.declared.Kind.{Kind}
use Rattle.format.specs.declared.Kind.TheVariants.{Header, ReferenceSequence, ReadGroup, Program, Comment}
use Rattle.lists.specs.Pairs.{Pairs}
use Rattle.accepted.specs.Spelled as sp
use Rattle.accepted.specs.Spelled.{Good, Made, kind₀, kind₁, Spelled, AcceptedLine}
use Rattle.lists.proofs.Bools.{never, and_left, and_right}
use Rattle.accepted.proofs.Good.{good-field}

-- ---- a refusal is never 0

data Stops : JudgedPiece → Type 0 where
  at-bad : (n : ℕ) → Stops (refused_piece (suc n))
  at-good : (f : Field) → Stops (good f)
  at-then : (f : Field) (n : ℕ) → Stops (good_then f (suc n))

-- either way
either : (t : Bool) {i j : JudgedPiece} → Stops i → Stops j → Stops (cond t i j)
either true h k = h
either false h k = k

plain-stops : (k : Kind) (a b at : ℕ) (v : List ℕ) → Stops (plain k a b at v)
unfolding plain
plain-stops k a b at v = either (allows k a b v) (at-good _) (at-bad 9)

version-stops : (at : ℕ) (v : List ℕ) → Stops (version_field at v)
unfolding version_field spelled
version-stops at v = either (is_value v) (go (version v)) (at-bad 9)
  where
    go : (o : Option Version) → Stops (spelled o (plain Header 86 78 at v))
    go none = at-bad 10
    go (some w) = plain-stops Header 86 78 at v

length-stops : (at : ℕ) (s : List ℕ × List ℕ) → Stops (length_field at s)
unfolding length_field
length-stops at s =
    let f : Field = record { tag₀ = 76; tag₁ = 78; value = record { at = at; bytes = s.0 } } in
    either (none? s.0 || not (ltb (worth s.0) (2 ^ 64))) (at-bad 11)
    (either (eqb (worth s.0) 0) (at-bad 12)
    (either (not (ltb (worth s.0) (2 ^ 31))) (at-bad 26) (either (none? s.1) (at-good f) (at-then f 5))))

value-stops : (k : Kind) (a b at : ℕ) (v : List ℕ) → Stops (value_field k a b at v)
unfolding value_field
value-stops Header a b at v = either (eqb a 86 && eqb b 78) (version-stops at v) (plain-stops Header a b at v)
value-stops ReferenceSequence a b at v = either (eqb a 76 && eqb b 78) (length-stops at (span v)) (plain-stops ReferenceSequence a b at v)
value-stops ReadGroup a b at v = plain-stops ReadGroup a b at v
value-stops Program a b at v = plain-stops Program a b at v
value-stops Comment a b at v = plain-stops Comment a b at v

field-stops : (k : Kind) (at : ℕ) (s : List ℕ) → Stops (field k at s)
unfolding field
field-stops k at [] = at-bad 7
field-stops k at (a ∷ []) = at-bad 7
field-stops k at (a ∷ b ∷ []) = either (is_tag a b) (at-bad 8) (at-bad 7)
field-stops k at (a ∷ b ∷ c ∷ v) = either (is_tag a b) (either (eqb c 58) (value-stops k a b (at + 3) v) (at-bad 8)) (at-bad 7)

-- ---- the fields of a line that is read to its end

pub scan_good : (k : Kind) (ps : List Piece) → (scan k ps).stop ≡ 0 → Pairs (λ p f. Good k p.at p.bytes f) ps (scan k ps).fields
unfolding scan onward Pairs
scan_good k [] h = tt
scan_good k (p ∷ ps) h = go (field-stops k p.at p.bytes) refl (scan_good k ps) h
  where
    go : {j : JudgedPiece} → Stops j → field k p.at p.bytes ≡ j → ((scan k ps).stop ≡ 0 → Pairs (λ p f. Good k p.at p.bytes f) ps (scan k ps).fields)
        → (onward j (scan k ps)).stop ≡ 0 → Pairs (λ p f. Good k p.at p.bytes f) (p ∷ ps) (onward j (scan k ps)).fields
    go (at-bad n) e ih h = absurd (omega arith)
    go (at-good f) e ih h = (good-field k p.at p.bytes f e, ih h)
    go (at-then f n) e ih h = absurd (omega arith)

-- ---- the record that the fields make

pub made-made : (k : Kind) (fs : List Field) (r : Record) → made k fs ≡ read r → Made fs k r
unfolding made versioned announcing measured keyed
made-made Header fs r e = go (last_of 86 78 fs) refl e
  where
    gs : List Field
    gs = settled (without 86 78 fs)

    inner : (p : Piece) (o : Option Version) → last_of 86 78 fs ≡ some p → version p.bytes ≡ o → announcing gs o ≡ read r → Made fs Header r
    inner p none h g e = absurd (never (cc))
    inner p (some v) h g e = let q : header v gs ≡ r = cc in subst (Made fs Header) q (sp.of-header p v h g)

    go : (o : Option Piece) → last_of 86 78 fs ≡ o → versioned gs o ≡ read r → Made fs Header r
    go none h e = absurd (never (cc))
    go (some p) h e = inner p (version p.bytes) h refl e
made-made ReferenceSequence fs r e = go (last_of 83 78 fs) (last_of 76 78 fs) refl refl e
  where
    gs : List Field
    gs = settled (without 83 78 (without 76 78 fs))

    go : (o l : Option Piece) → last_of 83 78 fs ≡ o → last_of 76 78 fs ≡ l → measured gs o l ≡ read r → Made fs ReferenceSequence r
    go none l h g e = absurd (never (cc))
    go (some p) none h g e = absurd (never (cc))
    go (some p) (some n) h g e = let q : reference p (worth n.bytes) gs ≡ r = cc in subst (Made fs ReferenceSequence) q (sp.of-reference p n h g)
made-made ReadGroup fs r e = go (last_of 73 68 fs) refl e
  where
    gs : List Field
    gs = settled (without 73 68 fs)

    go : (o : Option Piece) → last_of 73 68 fs ≡ o → keyed (λ p. group p gs) o ≡ read r → Made fs ReadGroup r
    go none h e = absurd (never (cc))
    go (some p) h e = let q : group p gs ≡ r = cc in subst (Made fs ReadGroup) q (sp.of-group p h)
made-made Program fs r e = go (last_of 73 68 fs) refl e
  where
    gs : List Field
    gs = settled (without 73 68 fs)

    go : (o : Option Piece) → last_of 73 68 fs ≡ o → keyed (λ p. program p gs) o ≡ read r → Made fs Program r
    go none h e = absurd (never (cc))
    go (some p) h e = let q : program p gs ≡ r = cc in subst (Made fs Program) q (sp.of-program p h)
made-made Comment fs r e = absurd (never (cc))

-- ---- the kind

-- which two bytes a kind is
pub kind-bytes : (a b : ℕ) (k : Kind) → kind_of a b ≡ some k → (a ≡ kind₀ k) × (b ≡ kind₁ k)
unfolding kind_of kind₀ kind₁
kind-bytes a b k e =
    go (test 72 68) (test 83 81) (test 82 71) (test 80 71) (test 67 79) refl refl refl refl refl e
  where
    test : ℕ → ℕ → Bool
    test x y = eqb a x && eqb b y

    found : (l : Kind) → test (kind₀ l) (kind₁ l) ≡ true → some l ≡ some k → (a ≡ kind₀ k) × (b ≡ kind₁ k)
    found l h e =
        let q : l ≡ k = cc in
        let x : Bool = eqb a (kind₀ l) in
        let y : Bool = eqb b (kind₁ l) in
        (eqb-true a (kind₀ l) (and_left x y h) ∙ ap kind₀ q, eqb-true b (kind₁ l) (and_right x y h) ∙ ap kind₁ q)

    go : (t u v w x : Bool) → test 72 68 ≡ t → test 83 81 ≡ u → test 82 71 ≡ v → test 80 71 ≡ w → test 67 79 ≡ x
        → cond t (some Header) (cond u (some ReferenceSequence) (cond v (some ReadGroup) (cond w (some Program) (cond x (some Comment) none)))) ≡ some k
        → (a ≡ kind₀ k) × (b ≡ kind₁ k)
    go true u v w x ht hu hv hw hx e = found Header ht e
    go false true v w x ht hu hv hw hx e = found ReferenceSequence hu e
    go false false true w x ht hu hv hw hx e = found ReadGroup hv e
    go false false false true x ht hu hv hw hx e = found Program hw e
    go false false false false true ht hu hv hw hx e = found Comment hx e
    go false false false false false ht hu hv hw hx e = absurd (never (cc))

-- ---- the line

module _ (strict : Bool) (at : ℕ) (r : Record) where
  judged-spelled : (k : Kind) (s : List ℕ)
      → judged strict k (scan k (placed (at + 4) (cut 9 s))) ≡ read r → Spelled strict at (64 ∷ kind₀ k ∷ kind₁ k ∷ 9 ∷ s) r
  unfolding judged stopped
  judged-spelled k s e = go (strict && repeats fs) sc.stop refl refl e
    where
      sc : Scan
      sc = scan k (placed (at + 4) (cut 9 s))

      fs : List Field
      fs = sc.fields

      go : (t : Bool) (n : ℕ) → strict && repeats fs ≡ t → sc.stop ≡ n → cond t (refused_line 14) (stopped k fs n) ≡ read r → Spelled strict at (64 ∷ kind₀ k ∷ kind₁ k ∷ 9 ∷ s) r
      go true n h j e = absurd (never (cc))
      go false (suc n) h j e = absurd (never (cc))
      go false zero h j e = record {
        kind = k;
        rest = s;
        fields = fs;
        spells = refl;
        each = scan_good k (placed (at + 4) (cut 9 s)) j;
        once = h;
        made = made-made k fs r e;
      }

  fielded-spelled : (k : Kind) (s : List ℕ) → fielded strict k (at + 3) s ≡ read r → AcceptedLine strict at (64 ∷ kind₀ k ∷ kind₁ k ∷ s) r
  unfolding fielded
  fielded-spelled k [] e = absurd (never (cc))
  fielded-spelled k (c ∷ s) e = go (eqb c 9) refl e
    where
      go : (t : Bool) → eqb c 9 ≡ t → cond t (judged strict k (scan k (placed (at + 3 + 1) (cut 9 s)))) (refused_line 6) ≡ read r → AcceptedLine strict at (64 ∷ kind₀ k ∷ kind₁ k ∷ c ∷ s) r
      go true h e =
          let q : at + 3 + 1 ≡ at + 4 = omega arith in
          rw (eqb-true c 9 h) (sp.of_fields (judged-spelled k s (rw q at e)))
      go false h e = absurd (never (cc))

  remark-accepted : (s : List ℕ) → remark (at + 3) s ≡ read r → AcceptedLine strict at (64 ∷ 67 ∷ 79 ∷ s) r
  unfolding remark
  remark-accepted [] e = absurd (never (cc))
  remark-accepted (c ∷ s) e = go (eqb c 9) refl e
    where
      go : (t : Bool) → eqb c 9 ≡ t → cond t (read (comment (record { at = at + 3 + 1; bytes = s }))) (refused_line 6) ≡ read r → AcceptedLine strict at (64 ∷ 67 ∷ 79 ∷ c ∷ s) r
      go true h e =
          let p : at + 3 + 1 ≡ at + 4 = omega arith in
          let q : comment (record { at = at + 4; bytes = s }) ≡ r = cc in
          rw (eqb-true c 9 h) (subst (AcceptedLine strict at (64 ∷ 67 ∷ 79 ∷ 9 ∷ s)) q (sp.of-remark s))
      go false h e = absurd (never (cc))

  body-accepted : (k : Kind) (s : List ℕ) → body strict k (at + 3) s ≡ read r → AcceptedLine strict at (64 ∷ kind₀ k ∷ kind₁ k ∷ s) r
  unfolding body kind₀ kind₁
  body-accepted Header s e = fielded-spelled Header s e
  body-accepted ReferenceSequence s e = fielded-spelled ReferenceSequence s e
  body-accepted ReadGroup s e = fielded-spelled ReadGroup s e
  body-accepted Program s e = fielded-spelled Program s e
  body-accepted Comment s e = remark-accepted s e

  bodied-accepted : (a b : ℕ) (s : List ℕ) (o : Option Kind) → kind_of a b ≡ o → bodied strict (at + 3) s o ≡ read r → AcceptedLine strict at (64 ∷ a ∷ b ∷ s) r
  unfolding bodied
  bodied-accepted a b s none g e = absurd (never (cc))
  bodied-accepted a b s (some k) g e = let h = kind-bytes a b k g in rw (h.0, h.1) (body-accepted k s e)

  pub prefixed-accepted : (s : List ℕ) → prefixed strict at s ≡ read r → AcceptedLine strict at s r
  unfolding prefixed kinded
  prefixed-accepted [] e = absurd (never (cc))
  prefixed-accepted (c ∷ s) e = go (eqb c 64) s refl e
    where
      go : (t : Bool) (s : List ℕ) → eqb c 64 ≡ t → cond t (kinded strict (at + 1) s) (refused_line 3) ≡ read r → AcceptedLine strict at (c ∷ s) r
      go false s h e = absurd (never (cc))
      go true [] h e = absurd (never (cc))
      go true (a ∷ []) h e = absurd (never (cc))
      go true (a ∷ b ∷ s) h e =
          let q : at + 1 + 2 ≡ at + 3 = omega arith in
          rw (eqb-true c 64 h) (bodied-accepted a b s (kind_of a b) refl (rw q at e))

pub line-prefixed : (strict : Bool) (p : Piece) (r : Record) → line strict p ≡ read r → (any breaks p.bytes ≡ false) × (prefixed strict p.at p.bytes ≡ read r)
unfolding line
line-prefixed strict p r e = go (any breaks p.bytes) refl e
  where
    go : (t : Bool) → any breaks p.bytes ≡ t → cond t (refused_line 2) (prefixed strict p.at p.bytes) ≡ read r
        → (any breaks p.bytes ≡ false) × (prefixed strict p.at p.bytes ≡ read r)
    go true h e = absurd (never (cc))
    go false h e = (h, e)

pub line-accepted : (strict : Bool) (p : Piece) (r : Record) → line strict p ≡ read r → AcceptedLine strict p.at p.bytes r
line-accepted strict p r e = prefixed-accepted strict p.at r p.bytes (line-prefixed strict p r e).1
