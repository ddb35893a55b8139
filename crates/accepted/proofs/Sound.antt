-- Every record of an accepted line is sound: numbers fit, values are values, other fields are no keys and have no tag twice.
use Prim.Native.Nat.{ℕ, ◌+◌, ◌^◌, ◌≤◌, ◌<◌}
use mathlib.Core.Path.{◌≡◌, refl, sym, ap, ◌∙◌}
use mathlib.Core.Bool.{Bool, true, false, ◌&&◌, cond}
use mathlib.Core.List.{List}
use mathlib.Core.Option.{Option, none, some}
use lib.Dec.{eqb, ltb}
use borrow.Author.Tests.{eqb-true, ltb-true}
use Rattle.format.specs.Decimal.{worth, digits, number}
use Rattle.format.specs.Lines.{Piece, cut, placed}
use Rattle.format.specs.Fields.{Field, tagged, is_value, is_wide_value, is_wide, allows, is_tag, repeats, last_of, settled, without}
use Rattle.format.specs.Records.{Record, key, others, read, line}
use Rattle.format.specs.Version.{version, numbered, both, sides}
use Rattle.format.specs.declared.Version.{Version}
use Rattle.format.specs.declared.Kind.{Kind}
use Rattle.format.specs.declared.Kind.TheVariants.{Header, ReferenceSequence, ReadGroup, Program}
use Rattle.byte_slices.specs.Stands.{Each}
use Rattle.byte_slices.proofs.Stands.{each_map}
use Rattle.accepted.specs.Sound.{kind, FitsRecord, KeyIsValue, Other, Sound}
use Rattle.format.specs.Keys.{is_key}
use Rattle.accepted.specs.Spelled as sp
use Rattle.accepted.specs.Spelled.{LengthInRange, Good, Made, Spelled, AcceptedLine}
use Rattle.lists.proofs.Bools.{never, and_left, and_right}
use Rattle.lists.proofs.Pairs.{each_all, each_both, pairs-right}
use Rattle.accepted.proofs.Fields.{Of, last_of-of, each-without, each-settled, without-none, repeats-settled}
use Rattle.accepted.proofs.Spelled.{line-accepted}

-- ---- numbers

pub number-below : (limit : ℕ) (s : List ℕ) (n : ℕ) → number limit s ≡ some n → n < limit
unfolding number
number-below limit s n e = go (digits s && ltb (worth s) limit) refl e
  where
    go : (t : Bool) → digits s && ltb (worth s) limit ≡ t → cond t (some (worth s)) none ≡ some n → n < limit
    go true h e = let q : worth s ≡ n = cc in rw (← q) (ltb-true (worth s) limit (and_right (digits s) (ltb (worth s) limit) h))
    go false h e = absurd (never (cc))

pub version_below : (s : List ℕ) (v : Version) → version s ≡ some v → (v.major < 2 ^ 32) × (v.minor < 2 ^ 32)
unfolding version numbered both
version_below s v e = go (sides 46 s) e
  where
    pair : (o p : Option ℕ) → ((n : ℕ) → o ≡ some n → n < 2 ^ 32) → ((n : ℕ) → p ≡ some n → n < 2 ^ 32) → both o p ≡ some v → (v.major < 2 ^ 32) × (v.minor < 2 ^ 32)
    pair none p f g e = absurd (never (cc))
    pair (some m) none f g e = absurd (never (cc))
    pair (some m) (some n) f g e =
        let q : record { major = m; minor = n } ≡ v = cc in
        rw (← q) (f m refl, g n refl)

    go : (o : Option (List ℕ × List ℕ)) → numbered o ≡ some v → (v.major < 2 ^ 32) × (v.minor < 2 ^ 32)
    go none e = absurd (never (cc))
    go (some s) e = pair (number (2 ^ 32) s.0) (number (2 ^ 32) s.1) (number-below (2 ^ 32) s.0) (number-below (2 ^ 32) s.1) e

-- ---- the fields of a line

-- what a good piece says of its field
record Meant (k : Kind) (f : Field) : Type 0 where
  tag : is_tag f.tag₀ f.tag₁ ≡ true
  value : allows k f.tag₀ f.tag₁ f.value.bytes ≡ true
  sized : LengthInRange k f

fields-meant : (strict : Bool) (at : ℕ) (s : List ℕ) (r : Record) (a : Spelled strict at s r) → Each (Meant a.kind) a.fields
fields-meant strict at s r a =
    pairs-right (λ p f. Good a.kind p.at p.bytes f) (λ p. Unit) (Meant a.kind) (λ p f u g. record { tag = g.tag; value = g.value; sized = g.sized })
    (placed (at + 4) (cut 9 a.rest)) a.fields (each_all (λ p. Unit) (λ p. tt) (placed (at + 4) (cut 9 a.rest))) a.each

-- no key is in UTF-8
narrow : (k : Kind) (a b : ℕ) (f : Field) → is_wide k a b ≡ false → tagged a b f ≡ true → Meant k f → is_value f.value.bytes ≡ true
unfolding allows tagged
narrow k a b f n t m =
    let x : Bool = eqb f.tag₀ a in
    let y : Bool = eqb f.tag₁ b in
    let e : is_wide k f.tag₀ f.tag₁ ≡ false = rw (eqb-true f.tag₀ a (and_left x y t), eqb-true f.tag₁ b (and_right x y t)) n in
    ap (λ w. cond w (is_wide_value f.value.bytes) (is_value f.value.bytes)) (sym e) ∙ m.value

last-value : (k : Kind) (fs : List Field) (a b : ℕ) (p : Piece) → is_wide k a b ≡ false → Each (Meant k) fs → last_of a b fs ≡ some p → is_value p.bytes ≡ true
last-value k fs a b p n h e =
    let o : Of (Meant k) a b p = last_of-of (Meant k) a b fs p h e in
    rw (← o.value) (narrow k a b o.field n o.tag o.holds)

-- fields of which `Q` holds, which rules out the keys
rest-other : (k : Kind) (Q : Field → Type 0) → ((f : Field) → Q f → is_key k f.tag₀ f.tag₁ ≡ false)
    → (gs : List Field) → Each (Meant k) gs → Each Q gs → Each (Other k) (settled gs)
rest-other k Q n gs h q =
    each-settled (Other k) gs (
    each_map (λ f. Meant k f × Q f) (Other k) (λ f m. record { tag = m.0.tag; no_key = n f m.1; value = m.0.value }) gs
    (each_both (Meant k) Q gs h q))

-- one key taken out
one_out : (k : Kind) (a b : ℕ) (fs : List Field) → ((f : Field) → tagged a b f ≡ false → is_key k f.tag₀ f.tag₁ ≡ false)
    → Each (Meant k) fs → Each (Other k) (settled (without a b fs))
one_out k a b fs n h = rest-other k (λ f. tagged a b f ≡ false) n (without a b fs) (each-without (Meant k) a b fs h) (without-none a b fs)

-- SN and LN taken out
two_out : (fs : List Field) → Each (Meant ReferenceSequence) fs → Each (Other ReferenceSequence) (settled (without 83 78 (without 76 78 fs)))
unfolding is_key tagged
two_out fs h =
    let M : Field → Type 0 = Meant ReferenceSequence in
    let S : Field → Type 0 = λ f. tagged 83 78 f ≡ false in
    let L : Field → Type 0 = λ f. tagged 76 78 f ≡ false in
    let gs : List Field = without 76 78 fs in
    rest-other ReferenceSequence (λ f. S f × L f) (λ f q. rw (q.0, q.1) refl) (without 83 78 gs)
    (each-without M 83 78 gs (each-without M 76 78 fs h))
    (each_both S L (without 83 78 gs) (without-none 83 78 gs) (each-without L 83 78 gs (without-none 76 78 fs)))

-- ---- the record

last-sized : (fs : List Field) (n : Piece) → Each (Meant ReferenceSequence) fs → last_of 76 78 fs ≡ some n → (1 ≤ worth n.bytes) × (worth n.bytes < 2 ^ 31)
unfolding LengthInRange
last-sized fs n h e =
    let o : Of (Meant ReferenceSequence) 76 78 n = last_of-of (Meant ReferenceSequence) 76 78 fs n h e in
    let z = o.holds.sized o.tag in
    rw (← o.value) (z.0, z.1)

pub made-kind : (fs : List Field) (k : Kind) (r : Record) → Made fs k r → kind r ≡ k
unfolding kind
made-kind fs k r (sp.of-header p v e g) = refl
made-kind fs k r (sp.of-reference p n e g) = refl
made-kind fs k r (sp.of-group p e) = refl
made-kind fs k r (sp.of-program p e) = refl

made-sound : (fs : List Field) (k : Kind) (r : Record) → Each (Meant k) fs → Made fs k r → Sound r
unfolding FitsRecord KeyIsValue key others kind is_key tagged is_wide
made-sound fs k r h (sp.of-header p v e g) = record {
  fits = version_below p.bytes v g;
  named = tt;
  other = one_out Header 86 78 fs (λ f q. q) h;
  once = repeats-settled (without 86 78 fs);
}
made-sound fs k r h (sp.of-reference p n e g) = record {
  fits = last-sized fs n h g;
  named = last-value ReferenceSequence fs 83 78 p refl h e;
  other = two_out fs h;
  once = repeats-settled (without 83 78 (without 76 78 fs));
}
made-sound fs k r h (sp.of-group p e) = record {
  fits = tt;
  named = last-value ReadGroup fs 73 68 p refl h e;
  other = one_out ReadGroup 73 68 fs (λ f q. q) h;
  once = repeats-settled (without 73 68 fs);
}
made-sound fs k r h (sp.of-program p e) = record {
  fits = tt;
  named = last-value Program fs 73 68 p refl h e;
  other = one_out Program 73 68 fs (λ f q. q) h;
  once = repeats-settled (without 73 68 fs);
}

pub accepted-sound : (strict : Bool) (at : ℕ) (s : List ℕ) (r : Record) → AcceptedLine strict at s r → Sound r
unfolding FitsRecord KeyIsValue key others kind repeats Each
accepted-sound strict at s r (sp.of-remark t) = record { fits = tt; named = tt; other = tt; once = refl }
accepted-sound strict at s r (sp.of_fields a) = made-sound a.fields a.kind r (fields-meant strict at s r a) a.made

pub line-sound : (strict : Bool) (p : Piece) (r : Record) → line strict p ≡ read r → Sound r
line-sound strict p r e = accepted-sound strict p.at p.bytes r (line-accepted strict p r e)
