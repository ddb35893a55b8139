-- What an accepted line of each kind holds: the fields that its head is made from, and where they are.
use Prim.Native.Nat.{ℕ, ◌+◌, ◌-◌, ◌≤◌, ◌<◌, ◌^◌}
use mathlib.Core.Path.{◌≡◌, refl, sym, ap, subst, ◌∙◌}
use mathlib.Core.Bool.{Bool, true, false, not}
use mathlib.Core.List.{List}
use mathlib.Core.Option.{some}
use native.Mathlib.Omega.{arith}
use lib.ListN.{length, take, drop, get_or}
use Rattle.format.specs.Decimal.{worth, digits}
use Rattle.format.specs.Lines.{Piece, cut, placed}
use Rattle.format.specs.Fields.{Field, last_of}
use Rattle.format.specs.Records.{Record, Line, refused_line, read, line}
use Rattle.format.specs.Version.{version}
use Rattle.format.specs.declared.Version.{Version}
use Rattle.format.specs.declared.Kind.{Kind}
use Rattle.format.specs.declared.Kind.TheVariants.{Header, ReferenceSequence, ReadGroup, Program, Comment}
use Rattle.byte_slices.specs.Stands.{Stands, Each}
use Rattle.accepted.specs.Sound.{kind}
use Rattle.accepted.specs.Spelled as sp
use Rattle.accepted.specs.Spelled.{LengthInRange, Good, Made, Spelled, AcceptedLine, kind₀, kind₁}
use Rattle.accepted.specs.Read.{is_read}
use Rattle.lists.proofs.Bools.{never, and_left, and_right}
use Rattle.accepted.proofs.Fields.{last_of-of}
use Rattle.lists.proofs.Pairs.{pairs-right}
use Rattle.accepted.proofs.Sound.{made-kind}
use Rattle.accepted.proofs.Spelled.{line-accepted}
use Rattle.accepted.proofs.Stands.{fields-stand}
use Rattle.byte_slices.proofs.Stands.{pieces-stand}
use Rattle.record.specs.Head.{stretch_of, record_head, head_of}
use Rattle.record.specs.declared.Stretch.{Stretch}
use Rattle.record.specs.declared.Head.{Head}
use Rattle.record.specs.declared.Head.TheVariants as head
use Rattle.accepted_line.specs.Run.{AtField, fields_from}
use Rattle.accepted_line.specs.Next.{value_of_piece, or_value, no_value}
use Rattle.accepted_line.specs.Tables.{HasTag}
use Rattle.accepted_line.proofs.fields.Start.{accepted-start, accepted-fields, accepted-tags}
use borrow.Author.Tests.{lt-ltb, not-true}
use Rattle.format.specs.Bytes.{digit, all, none?}
use Rattle.std.specs.Prelude.{Ok}
use Rattle.decimal.specs.Number.{number_of, digits_number, number_at_front}
use Rattle.decimal.proofs.Whole.{span-all}
use Rattle.accepted_line.specs.Found.{kind_by, is_comment, uncounted}

pub first_byte : (k : Kind) → kind_by (kind₀ k) ≡ k
unfolding kind_by kind₀
first_byte Header = refl
first_byte ReferenceSequence = refl
first_byte ReadGroup = refl
first_byte Program = refl
first_byte Comment = refl

pub comment-is : (k : Kind) → is_comment k ≡ true → k ≡ Comment
comment-is Header e = absurd (never (cc))
comment-is ReferenceSequence e = absurd (never (cc))
comment-is ReadGroup e = absurd (never (cc))
comment-is Program e = absurd (never (cc))
comment-is Comment e = refl

-- ---- by kind

-- the line `s` has a last field with the tag `a`, `b`, whose value is `p`
pub record Has (at : ℕ) (s : List ℕ) (a b : ℕ) (p : Piece) : Type 0 where
  pub last : last_of a b (fields_from at s 3) ≡ some p
  pub stands : Stands s at p

-- the head `h` of a line is that of an HD, by its VN
pub record OfHeader (at : ℕ) (s : List ℕ) (h : Head) : Type 0 where
  pub piece : Piece
  pub number : Version
  pub has : Has at s 86 78 piece
  pub spells : version piece.bytes ≡ some number
  pub is : h ≡ head.Header number 0

-- of an SQ, by its SN and its LN
pub record OfReference (at : ℕ) (s : List ℕ) (h : Head) : Type 0 where
  pub name : Piece
  pub size : Piece
  pub has-name : Has at s 83 78 name
  pub has-size : Has at s 76 78 size
  pub fits : worth size.bytes < 2 ^ 64
  pub spells : digits size.bytes ≡ true
  pub is : h ≡ head.ReferenceSequence (stretch_of name) (worth size.bytes) 0

-- of an RG or PG, by its ID
pub record OfMap (at : ℕ) (s : List ℕ) (make : Stretch → Head) (h : Head) : Type 0 where
  pub piece : Piece
  pub has : Has at s 73 68 piece
  pub is : h ≡ make (stretch_of piece)

unfoldable pub Held : Bool → Kind → ℕ → List ℕ → Head → Type 0
Held strict Header at s h = AtField strict at s 3 × OfHeader at s h
Held strict ReferenceSequence at s h = AtField strict at s 3 × OfReference at s h
Held strict ReadGroup at s h = AtField strict at s 3 × OfMap at s (λ p. head.ReadGroup p 0) h
Held strict Program at s h = AtField strict at s 3 × OfMap at s (λ p. head.Program p 0) h
Held strict Comment at s h = (4 ≤ length s) × (h ≡ head.Comment (record { at = at + 4; len = length s - 4 }))

-- ---- a line of fields

-- what a length is
unfoldable pub Number : Piece → Type 0
Number p = (worth p.bytes < 2 ^ 64) × (digits p.bytes ≡ true)

module _ (strict : Bool) (at : ℕ) (s : List ℕ) where
  made_held : (fs : List Field) (k : Kind) (r : Record) → AtField strict at s 3 → ((x y : ℕ) (p : Piece) → last_of x y fs ≡ some p → Has at s x y p)
      → (k ≡ ReferenceSequence → (p : Piece) → last_of 76 78 fs ≡ some p → Number p) → Made fs k r → Held strict k at s (uncounted (record_head r))
  unfolding Held uncounted record_head Number
  made_held fs k r start has number (sp.of-header p v e g) = (start, record { piece = p; number = v; has = has 86 78 p e; spells = g; is = refl })
  made_held fs k r start has number (sp.of-reference p n e g) =
      let l = number refl n g in
      (start, record { name = p; size = n; has-name = has 83 78 p e; has-size = has 76 78 n g; fits = l.0; spells = l.1; is = refl })
  made_held fs k r start has number (sp.of-group p e) = (start, record { piece = p; has = has 73 68 p e; is = refl })
  made_held fs k r start has number (sp.of-program p e) = (start, record { piece = p; has = has 73 68 p e; is = refl })

  module _ (r : Record) (a : Spelled strict at s r) where
    has : (x y : ℕ) (p : Piece) → last_of x y a.fields ≡ some p → Has at s x y p
    has x y p e =
        let o = last_of-of (λ f. Stands s at f.value) x y a.fields p (fields-stand strict at s r a) e in
        record { last = ap (last_of x y) (accepted-fields strict at s r a) ∙ e; stands = subst (Stands s at) o.value o.holds }

    sized : Each (LengthInRange a.kind) a.fields
    sized =
        pairs-right (λ p f. Good a.kind p.at p.bytes f) (Stands a.rest (at + 4)) (LengthInRange a.kind) (λ p f h g. g.sized)
        (placed (at + 4) (cut 9 a.rest)) a.fields (pieces-stand 9 (at + 4) a.rest) a.each

    pub number : a.kind ≡ ReferenceSequence → (p : Piece) → last_of 76 78 a.fields ≡ some p → Number p
    unfolding LengthInRange Number
    number k p e =
        let o = last_of-of (LengthInRange ReferenceSequence) 76 78 a.fields p (subst (λ k. Each (LengthInRange k) a.fields) k sized) e in
        let n = o.holds o.tag in
        subst Number o.value (omega (arith, n.1), n.2)

accepted-held : (strict : Bool) (at : ℕ) (s : List ℕ) (r : Record) → AcceptedLine strict at s r → Held strict (kind r) at s (uncounted (record_head r))
unfolding Held uncounted record_head kind stretch_of
accepted-held strict at s r (sp.of-remark t) = (omega arith, ap (λ n. head.Comment (record { at = at + 4; len = n })) (omega arith))
accepted-held strict at s r (sp.of_fields a) =
    subst (λ k. Held strict k at s (uncounted (record_head r))) (sym (made-kind a.fields a.kind r a.made))
    (made_held strict at s a.fields a.kind r (accepted-start strict at s r a) (has strict at s r a) (number strict at s r a) a.made)

-- its second byte
pub accepted-byte : (strict : Bool) (at : ℕ) (s : List ℕ) (r : Record) → AcceptedLine strict at s r → (3 ≤ length s) × (kind_by (get_or s 1 0) ≡ kind r)
unfolding kind kind₀
accepted-byte strict at s r (sp.of-remark t) = (omega arith, first_byte Comment)
accepted-byte strict at s r (sp.of_fields a) = (
  omega (arith, ap length a.spells),
  ap (λ l. kind_by (get_or l 1 0)) a.spells ∙ first_byte a.kind ∙ sym (made-kind a.fields a.kind r a.made),
)

-- fields
accepted-fielded : (strict : Bool) (at : ℕ) (s : List ℕ) (r : Record) → AcceptedLine strict at s r → is_comment (kind r) ≡ false → AtField strict at s 3 × Each HasTag (fields_from at s 3)
unfolding kind
accepted-fielded strict at s r (sp.of-remark t) n = absurd (never (cc))
accepted-fielded strict at s r (sp.of_fields a) n = (accepted-start strict at s r a, accepted-tags strict at s r a)

-- ---- an accepted line

module _ (strict : Bool) (at : ℕ) (s : List ℕ) (h : is_read (line strict (record { at = at; bytes = s })) ≡ true) where
  pub by-record : (P : Line → Type 0) → ((r : Record) → line strict (record { at = at; bytes = s }) ≡ read r → P (read r)) → P (line strict (record { at = at; bytes = s }))
  unfolding is_read
  by-record P f = go (line strict (record { at = at; bytes = s })) refl h
    where
      go : (l : Line) → line strict (record { at = at; bytes = s }) ≡ l → is_read l ≡ true → P l
      go (refused_line n) e q = absurd (never (cc))
      go (read r) e q = f r e

  by-accepted : (P : Line → Type 0) → ((r : Record) → AcceptedLine strict at s r → P (read r)) → P (line strict (record { at = at; bytes = s }))
  by-accepted P f = by-record P (λ r e. f r (line-accepted strict (record { at = at; bytes = s }) r e))

  pub three : 3 ≤ length s
  three = by-accepted (λ l. 3 ≤ length s) (λ r a. (accepted-byte strict at s r a).0)

  -- the head by the kind that the second byte gives
  pub held : (k : Kind) → kind_by (get_or s 1 0) ≡ k → Held strict k at s (uncounted (head_of (line strict (record { at = at; bytes = s }))))
  unfolding head_of
  held k e =
      by-accepted (λ l. Held strict k at s (uncounted (head_of l)))
      (λ r a. subst (λ k. Held strict k at s (uncounted (record_head r))) (sym (accepted-byte strict at s r a).1 ∙ e) (accepted-held strict at s r a))

  -- a line of fields can be walked
  pub fielded : is_comment (kind_by (get_or s 1 0)) ≡ false → AtField strict at s 3 × Each HasTag (fields_from at s 3)
  fielded n = by-accepted (λ l. AtField strict at s 3 × Each HasTag (fields_from at s 3)) (λ r a. accepted-fielded strict at s r a (sym (ap is_comment (accepted-byte strict at s r a).1) ∙ n))

-- ---- a piece by its place

module _ (at : ℕ) (s : List ℕ) (a b : ℕ) (p : Piece) (h : Has at s a b p) (v : Stretch) (e : v ≡ or_value no_value (last_of a b (fields_from at s 3))) where
  -- the value that is found
  found : v ≡ value_of_piece p
  unfolding or_value
  found = e ∙ ap (or_value no_value) h.last

  pub found-place : ◌≡◌ {A = Stretch} (record { at = v.at; len = v.len }) (stretch_of p)
  unfolding stretch_of
  found-place = ap (λ v. record { at = v.at; len = v.len }) found

  pub value-within : (at ≤ v.at) × (v.at - at + v.len ≤ length s)
  value-within = rw found (h.stands.from, h.stands.within)

  -- and the bytes that are lent by it
  pub value-bytes : take (v.at - at + v.len - (v.at - at)) (drop (v.at - at) s) ≡ p.bytes
  value-bytes =
      let n : v.at - at + v.len - (v.at - at) ≡ v.len = omega arith in
      ap (λ n. take n (drop (v.at - at) s)) n ∙ ap (λ v. take v.len (drop (v.at - at) s)) found ∙ sym h.stands.bytes

-- ---- what they say

pub front-digits : (limit : ℕ) (ds : List ℕ) → digits ds ≡ true → worth ds < limit → number_at_front limit ds ≡ Ok (number_of (worth ds) (length ds))
unfolding number_at_front digits_number digits
front-digits limit ds h l =
    let n = and_left (not (none? ds)) (all digit ds) h in
    rw (span-all ds (and_right (not (none? ds)) (all digit ds) h), not-true (none? ds) n, lt-ltb (worth ds) limit l) refl
