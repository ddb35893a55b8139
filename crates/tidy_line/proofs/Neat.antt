-- The record's text of an accepted line whose keys come first: the line itself, and the LF.
use Prim.Native.Nat.{ℕ, ◌+◌, ◌-◌, ◌≤◌, ◌<◌}
use mathlib.Core.Path.{◌≡◌, refl, sym, ap, subst, ◌∙◌}
use mathlib.Core.Bool.{true, false, not, ◌&&◌, ◌||◌}
use mathlib.Core.List.{List, [], ◌∷◌, ◌++◌, append_assoc}
use mathlib.Core.Option.{some}
use native.Mathlib.Omega.{arith}
use lib.ListN.{length, drop, get_or}
use lib.Seq.{get_or-drop}
use lib.Dec.{eqb, ltb}
use borrow.Author.Tests.{eqb-true, eqb-false, ltb-false, not-true}
use Rattle.format.specs.Bytes.{any, none?}
use Rattle.format.specs.Decimal.{worth, digits, written}
use Rattle.format.specs.Lines.{Piece}
use Rattle.format.specs.Fields.{Field, tagged, repeats, later, last_of}
use Rattle.format.specs.Records.{Record, reference, group, program, read, made, versioned, announcing, measured, keyed}
use Rattle.format.specs.Tidy.{field_text, fields_text, record_text}
use Rattle.format.specs.declared.Kind.{Kind}
use Rattle.format.specs.declared.Kind.TheVariants.{Header, ReferenceSequence, ReadGroup, Program, Comment}
use Rattle.byte_slices.specs.Upto.{upto}
use Rattle.accepted.specs.Spelled as sp
use Rattle.accepted.specs.Spelled.{Made, Spelled, AcceptedLine, kind₀, kind₁}
use Rattle.lists.proofs.Bools.{never, and_left, and_right, or_left, or_right}
use Rattle.accepted_line.specs.Run.{fields_from, AtField}
use Rattle.accepted_line.specs.Next.{field_length}
use Rattle.accepted_line.proofs.fields.Here.{Found, found}
use Rattle.accepted_line.proofs.fields.Start.{accepted-start, accepted-fields}
use Rattle.accepted_line.specs.Found.{kind_by}
use Rattle.accepted_line.proofs.Finds.{Number, first_byte, number}
use Rattle.tidy_laws.proofs.Once.{last-absent}
use Rattle.tidy_laws.proofs.Made.{made-reference, made-group, made-program}
use Rattle.tidy_neat.specs.Neat.{has_tag, plain_length, neat}
use Rattle.tidy_line.proofs.Plain.{written-plain}

abbrev pub of : ℕ → ℕ → Piece → Field
of a b p = record { tag₀ = a; tag₁ = b; value = p }

-- ---- from fields to text

-- the first of the fields `fs` has the tag `a`, `b`, and no other has
pub record First (a b : ℕ) (fs : List Field) : Type 0 where
  pub piece : Piece
  pub rest : List Field
  pub is : fs ≡ of a b piece ∷ rest
  pub absent : any (tagged a b) rest ≡ false
  pub once : repeats rest ≡ false

-- SN, then LN with no leading zero
record Two (fs : List Field) : Type 0 where
  pub one : First 83 78 fs
  pub two : First 76 78 one.rest
  pub plain : written (worth two.piece.bytes) ≡ two.piece.bytes

unfoldable Facts : Kind → List Field → Type 0
Facts Header fs = ⊥
Facts ReferenceSequence fs = Two fs
Facts ReadGroup fs = First 73 68 fs
Facts Program fs = First 73 68 fs
Facts Comment fs = Unit

made-is : (fs : List Field) (k : Kind) (r : Record) → Made fs k r → made k fs ≡ read r
unfolding made versioned announcing measured keyed
made-is fs k r (sp.of-header p v e g) = rw (e, g) refl
made-is fs k r (sp.of-reference p n e g) = rw (e, g) refl
made-is fs k r (sp.of-group p e) = rw e refl
made-is fs k r (sp.of-program p e) = rw e refl

read_is : (r q : Record) → read r ≡ read q → r ≡ q
read_is r q e = cc

-- the text of the line with its LF
abbrev whole : Kind → List Field → List ℕ
whole k fs = (64 ∷ kind₀ k ∷ kind₁ k ∷ fields_text fs) ++ (10 ∷ [])

reference-text : (p n : Piece) (fs : List Field) → written (worth n.bytes) ≡ n.bytes → record_text (reference p (worth n.bytes) fs) ≡ whole ReferenceSequence (of 83 78 p ∷ of 76 78 n ∷ fs)
unfolding record_text fields_text field_text kind₀ kind₁
reference-text p n fs e =
    ap (λ w. (64 ∷ 83 ∷ 81 ∷ []) ++ field_text 83 78 p.bytes ++ field_text 76 78 w ++ fields_text fs ++ (10 ∷ [])) e
    ∙ ap (λ l. 64 ∷ 83 ∷ 81 ∷ 9 ∷ 83 ∷ 78 ∷ 58 ∷ (l ++ (10 ∷ []))) (append_assoc p.bytes (field_text 76 78 n.bytes) (fields_text fs))

group-text : (p : Piece) (fs : List Field) → record_text (group p fs) ≡ whole ReadGroup (of 73 68 p ∷ fs)
unfolding record_text fields_text field_text kind₀ kind₁
group-text p fs = refl

program-text : (p : Piece) (fs : List Field) → record_text (program p fs) ≡ whole Program (of 73 68 p ∷ fs)
unfolding record_text fields_text field_text kind₀ kind₁
program-text p fs = refl

-- a comment has no fields
no-comment : (fs : List Field) (k : Kind) (r : Record) → Made fs k r → k ≡ Comment → ⊥
no-comment fs k r (sp.of-header p v e g) q = never (cc)
no-comment fs k r (sp.of-reference p n e g) q = never (cc)
no-comment fs k r (sp.of-group p e) q = never (cc)
no-comment fs k r (sp.of-program p e) q = never (cc)

made-text : (fs : List Field) (k : Kind) (r : Record) → Made fs k r → Facts k fs → record_text r ≡ whole k fs
unfolding Facts any tagged
made-text fs k r m f = go k m f
  where
    go : (k : Kind) → Made fs k r → Facts k fs → record_text r ≡ whole k fs
    go Header m f = absurd f
    go ReferenceSequence m f =
        let p = f.one.piece in
        let n = f.two.piece in
        let rest = f.two.rest in
        let is : fs ≡ of 83 78 p ∷ of 76 78 n ∷ rest = f.one.is ∙ ap (λ l. of 83 78 p ∷ l) f.two.is in
        let gone : any (tagged 83 78) rest ≡ false = or_right (tagged 83 78 (of 76 78 n)) (any (tagged 83 78) rest) (sym (ap (any (tagged 83 78)) f.two.is) ∙ f.one.absent) in
        let e = read_is r (reference p (worth n.bytes) rest) (sym (made-is fs ReferenceSequence r m) ∙ ap (made ReferenceSequence) is ∙ made-reference rest f.two.once p n gone f.two.absent) in
        ap record_text e ∙ reference-text p n rest f.plain ∙ ap (whole ReferenceSequence) (sym is)
    go ReadGroup m f =
        let e = read_is r (group f.piece f.rest) (sym (made-is fs ReadGroup r m) ∙ ap (made ReadGroup) f.is ∙ made-group f.rest f.once f.piece f.absent) in
        ap record_text e ∙ group-text f.piece f.rest ∙ ap (whole ReadGroup) (sym f.is)
    go Program m f =
        let e = read_is r (program f.piece f.rest) (sym (made-is fs Program r m) ∙ ap (made Program) f.is ∙ made-program f.rest f.once f.piece f.absent) in
        ap record_text e ∙ program-text f.piece f.rest ∙ ap (whole Program) (sym f.is)
    go Comment m f = absurd (no-comment fs Comment r m refl)

-- ---- from bytes to fields

head_byte : (v rest : List ℕ) → 0 < length v → get_or (v ++ rest) 0 0 ≡ get_or v 0 0
head_byte [] rest h = absurd (omega arith)
head_byte (b ∷ v) rest h = refl

some-digits : (v : List ℕ) → digits v ≡ true → 0 < length v
unfolding digits none?
some-digits [] h = absurd (never (cc))
some-digits (b ∷ v) h = omega arith

-- a field starts at `pos`, and its tag is `a`, `b`
module _ (at : ℕ) (s : List ℕ) (pos : ℕ) (h : AtField true at s pos) (once : repeats (fields_from at s pos) ≡ false) (a b : ℕ) (t : has_tag s pos a b ≡ true) where
  pub long : pos + 3 ≤ length s
  unfolding has_tag
  long = omega (arith, ltb-false (length s - pos) 3 (not-true (ltb (length s - pos) 3) (and_left (not (ltb (length s - pos) 3)) (eqb (get_or s (pos + 1) 0) a && eqb (get_or s (pos + 2) 0) b) t)))

  abbrev pub own : Found true at s pos
  own = found true at s pos h (omega (arith, long))

  tags : (get_or s (pos + 1) 0 ≡ a) × (get_or s (pos + 2) 0 ≡ b)
  unfolding has_tag
  tags =
      let x = eqb (get_or s (pos + 1) 0) a in
      let y = eqb (get_or s (pos + 2) 0) b in
      let both = and_right (not (ltb (length s - pos) 3)) (x && y) t in
      (eqb-true _ _ (and_left x y both), eqb-true _ _ (and_right x y both))

  field_is : own.field ≡ of a b own.field.value
  field_is =
      let f = own.field in
      ap (λ x. record { tag₀ = x; tag₁ = f.tag₁; value = f.value }) (sym own.here.tag-0 ∙ tags.0)
      ∙ ap (λ y. record { tag₀ = a; tag₁ = y; value = f.value }) (sym own.here.tag-1 ∙ tags.1)

  pub rest-is : fields_from at s pos ≡ of a b own.field.value ∷ fields_from at s (pos + field_length own.field)
  rest-is = own.here.rest ∙ ap (λ f. f ∷ fields_from at s (pos + field_length own.field)) field_is

  pub alone : any (tagged a b) (fields_from at s (pos + field_length own.field)) || repeats (fields_from at s (pos + field_length own.field)) ≡ false
  unfolding repeats
  alone = sym (ap repeats rest-is) ∙ once

  abbrev pub first : First a b (fields_from at s pos)
  first =
      let fs = fields_from at s (pos + field_length own.field) in
      record { piece = own.field.value; rest = fs; is = rest-is; absent = or_left (any (tagged a b) fs) (repeats fs) alone; once = or_right (any (tagged a b) fs) (repeats fs) alone }

  -- the first byte of its value
  value-byte : 0 < length own.field.value.bytes → get_or s (pos + 4) 0 ≡ get_or own.field.value.bytes 0 0
  unfolding fields_text field_text
  value-byte n =
      let f = own.field in
      sym (get_or-drop pos s 4 0)
      ∙ ap (λ l. get_or l 4 0) (h.rest.spells ∙ ap fields_text own.here.rest)
      ∙ head_byte f.value.bytes (fields_text (fields_from at s (pos + field_length f))) n

second-last : (p n : Piece) (fs : List Field) → any (tagged 76 78) fs ≡ false → last_of 76 78 (of 83 78 p ∷ of 76 78 n ∷ fs) ≡ some n
unfolding last_of later tagged
second-last p n fs h = rw (last-absent 76 78 fs h) refl

-- ---- a line of fields

module _ (at : ℕ) (s : List ℕ) (r : Record) (a : Spelled true at s r) where
  pub start : AtField true at s 3
  start = accepted-start true at s r a

  pub fields : fields_from at s 3 ≡ a.fields
  fields = accepted-fields true at s r a

  pub once : repeats (fields_from at s 3) ≡ false
  once = ap repeats fields ∙ a.once

  line-text : s ≡ 64 ∷ kind₀ a.kind ∷ kind₁ a.kind ∷ fields_text a.fields
  line-text =
      a.spells
      ∙ ap (λ l. 64 ∷ kind₀ a.kind ∷ kind₁ a.kind ∷ l) (sym (ap (drop 3) a.spells) ∙ start.rest.spells ∙ ap fields_text fields)

  module _ (k : a.kind ≡ ReferenceSequence) (h : neat ReferenceSequence s ≡ true) where
    sn : has_tag s 3 83 78 ≡ true
    unfolding neat
    sn = and_left (has_tag s 3 83 78) (plain_length s (4 + upto 9 (drop 4 s))) h

    abbrev name : Found true at s 3
    name = own at s 3 start once 83 78 sn

    ln : plain_length s (3 + field_length name.field) ≡ true
    unfolding neat
    ln = ap (plain_length s) (sym name.here.end) ∙ and_right (has_tag s 3 83 78) (plain_length s (4 + upto 9 (drop 4 s))) h

    ln-tag : has_tag s (3 + field_length name.field) 76 78 ≡ true
    unfolding plain_length
    ln-tag =
        let i = 3 + field_length name.field in
        and_left (has_tag s i 76 78) (not (ltb (length s - i) 5) && not (eqb (get_or s (i + 4) 0) 48)) ln

    no_zero : eqb (get_or s (3 + field_length name.field + 4) 0) 48 ≡ false
    unfolding plain_length
    no_zero =
        let i = 3 + field_length name.field in
        let z = not (eqb (get_or s (i + 4) 0) 48) in
        let l = not (ltb (length s - i) 5) in
        not-true (eqb (get_or s (i + 4) 0) 48) (and_right l z (and_right (has_tag s i 76 78) (l && z) ln))

    abbrev one : First 83 78 (fields_from at s 3)
    one = first at s 3 start once 83 78 sn

    later-once : repeats (fields_from at s (3 + field_length name.field)) ≡ false
    later-once = one.once

    abbrev two : First 76 78 (fields_from at s (3 + field_length name.field))
    two = first at s (3 + field_length name.field) name.here.next later-once 76 78 ln-tag

    last-is : last_of 76 78 a.fields ≡ some two.piece
    last-is = sym (ap (last_of 76 78) fields) ∙ ap (last_of 76 78) (one.is ∙ ap (λ l. of 83 78 one.piece ∷ l) two.is) ∙ second-last one.piece two.piece two.rest two.absent

    plain : written (worth two.piece.bytes) ≡ two.piece.bytes
    unfolding Number
    plain =
        let v = two.piece.bytes in
        let n = number true at s r a k two.piece last-is in
        let b = value-byte at s (3 + field_length name.field) name.here.next later-once 76 78 ln-tag (some-digits v n.1) in
        written-plain v n.1 (omega (arith, n.0)) (λ e. eqb-false (get_or s (3 + field_length name.field + 4) 0) 48 no_zero (b ∙ e))

  facts : (k : Kind) → a.kind ≡ k → neat k s ≡ true → Facts k a.fields
  unfolding Facts neat
  facts Header e h = absurd (never (cc))
  facts ReferenceSequence e h = subst Two fields (record { one = one e h; two = two e h; plain = plain e h })
  facts ReadGroup e h = subst (First 73 68) fields (first at s 3 start once 73 68 h)
  facts Program e h = subst (First 73 68) fields (first at s 3 start once 73 68 h)
  facts Comment e h = tt

  fields-text : neat a.kind s ≡ true → record_text r ≡ s ++ (10 ∷ [])
  fields-text h = made-text a.fields a.kind r a.made (facts a.kind refl h) ∙ ap (λ l. l ++ (10 ∷ [])) (sym line-text)

-- ---- any accepted line

pub neat-text : (at : ℕ) (s : List ℕ) (r : Record) → AcceptedLine true at s r → neat (kind_by (get_or s 1 0)) s ≡ true → record_text r ≡ s ++ (10 ∷ [])
unfolding record_text
neat-text at s r (sp.of-remark t) h = refl
neat-text at s r (sp.of_fields a) h = fields-text at s r a (ap (λ k. neat k s) (sym (ap (λ l. kind_by (get_or l 1 0)) a.spells ∙ first_byte a.kind)) ∙ h)
