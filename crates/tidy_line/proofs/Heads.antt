-- The head of an accepted line of fields determines the record's text.
use Prim.Native.Nat.{ℕ}
use mathlib.Core.Path.{◌≡◌, refl, sym, ap, subst, ◌∙◌}
use mathlib.Core.Bool.{true, false}
use mathlib.Core.List.{List, [], ◌∷◌, ◌++◌, append_assoc}
use lib.ListN.{get_or}
use Rattle.format.specs.Decimal.{written}
use Rattle.format.specs.Lines.{Piece}
use Rattle.format.specs.Records.{Record, header, reference, group, program, comment, others, read, line}
use Rattle.format.specs.Tidy.{field_text, fields_text, record_text, is_writable, is_name}
use Rattle.format.specs.declared.Kind.{Kind}
use Rattle.format.specs.declared.Kind.TheVariants as kinds
use Rattle.byte_slices.specs.Stands.{Stands, Each}
use Rattle.accepted.specs.Pieces.{pieces}
use Rattle.accepted.specs.Sound.{kind}
use Rattle.accepted.specs.Spelled as sp
use Rattle.accepted.specs.Spelled.{Spelled, AcceptedLine, kind₀, kind₁}
use Rattle.accepted.specs.Read.{is_read}
use Rattle.lists.proofs.Bools.{never}
use Rattle.accepted.proofs.Spelled.{line-accepted}
use Rattle.accepted.proofs.Stands.{line-stand}
use Rattle.record.specs.Head.{stretch_of, record_head, head_of}
use Rattle.record.specs.declared.Head.{Head}
use Rattle.accepted_line.proofs.fields.Start.{accepted-others}
use Rattle.accepted_line.specs.Found.{kind_by, is_comment, uncounted}
use Rattle.accepted_line.proofs.Finds.{accepted-byte, by-record}
use Rattle.tidy_line.specs.Line.{line_text, line_writable}
use Rattle.tidy_parts.specs.Parts.{prefix_text, version_text}
use Rattle.tidy_fields.specs.Others.{others_text}
use Rattle.tidy_line.specs.Texts.{InsideLine, place_text, header_text, sequence_text, map_text}
use Rattle.tidy_line.specs.Heads.{head_text, head_writable, KeyInLine}
use Rattle.tidy_line.proofs.Sizes.{kind_of_head}

-- an accepted line with the head `d`
pub record Told (at : ℕ) (s : List ℕ) (k : Kind) (d : Head) : Type 0 where
  pub holds : KeyInLine at s d
  pub kind-is : kind_of_head d ≡ k
  pub text : line_text (line false (record { at = at; bytes = s })) ≡ head_text at s d
  pub writable : line_writable (line false (record { at = at; bytes = s })) ≡ head_writable at s d

-- ---- a piece of the line

inside : (at : ℕ) (s : List ℕ) (p : Piece) → Stands s at p → InsideLine at s (stretch_of p)
unfolding stretch_of
inside at s p h = record { from = h.from; within = h.within }

pub place-bytes : (at : ℕ) (s : List ℕ) (p : Piece) → Stands s at p → place_text at s (stretch_of p) ≡ p.bytes
unfolding stretch_of place_text
place-bytes at s p h = sym h.bytes

-- ---- a line of fields

pub spelled : (at : ℕ) (s : List ℕ) (r : Record) → is_comment (kind r) ≡ false → AcceptedLine false at s r → Spelled false at s r
unfolding kind
spelled at s r n (sp.of-remark t) = absurd (never (cc))
spelled at s r n (sp.of_fields a) = a

module _ (at : ℕ) (s : List ℕ) where
  module _ (r : Record) (e : line false (record { at = at; bytes = s }) ≡ read r) where
    stand : Each (Stands s at) (pieces r)
    stand = line-stand false (record { at = at; bytes = s }) r e

    -- the rest of a record's text, after any front
    behind : is_comment (kind r) ≡ false → (front : List ℕ) → front ++ fields_text (others r) ++ (10 ∷ []) ≡ front ++ (others_text (kind r) at s ++ (10 ∷ []))
    unfolding others_text
    behind n front =
        append_assoc front (fields_text (others r)) (10 ∷ [])
        ∙ ap (λ l. front ++ (fields_text l ++ (10 ∷ []))) (sym (accepted-others false at s r (spelled at s r n (line-accepted false (record { at = at; bytes = s }) r e))))

  -- ---- by record

  record-holds : (r : Record) → line false (record { at = at; bytes = s }) ≡ read r → is_comment (kind r) ≡ false → KeyInLine at s (uncounted (record_head r))
  unfolding KeyInLine uncounted record_head pieces Each kind
  record-holds (header v fs) e n = tt
  record-holds (reference p l fs) e n = inside at s p (stand (reference p l fs) e).0
  record-holds (group p fs) e n = inside at s p (stand (group p fs) e).0
  record-holds (program p fs) e n = inside at s p (stand (program p fs) e).0
  record-holds (comment p) e n = absurd (never (cc))

  record-kind : (r : Record) → kind_of_head (uncounted (record_head r)) ≡ kind r
  unfolding kind_of_head uncounted record_head kind
  record-kind (header v fs) = refl
  record-kind (reference p n fs) = refl
  record-kind (group p fs) = refl
  record-kind (program p fs) = refl
  record-kind (comment p) = refl

  record-text : (r : Record) → line false (record { at = at; bytes = s }) ≡ read r → is_comment (kind r) ≡ false → record_text r ≡ head_text at s (uncounted (record_head r))
  unfolding record_text head_text uncounted record_head header_text sequence_text map_text prefix_text version_text field_text kind₀ kind₁ kind others pieces Each
  record-text (header v fs) e n = behind (header v fs) e n (prefix_text kinds.Header ++ field_text 86 78 (version_text v))
  record-text (reference p l fs) e n =
      ap (λ x. prefix_text kinds.ReferenceSequence ++ field_text 83 78 x ++ field_text 76 78 (written l) ++ fields_text fs ++ (10 ∷ [])) (sym (place-bytes at s p (stand (reference p l fs) e).0))
      ∙ behind (reference p l fs) e n (prefix_text kinds.ReferenceSequence ++ field_text 83 78 (place_text at s (stretch_of p)) ++ field_text 76 78 (written l))
  record-text (group p fs) e n =
      ap (λ x. prefix_text kinds.ReadGroup ++ field_text 73 68 x ++ fields_text fs ++ (10 ∷ [])) (sym (place-bytes at s p (stand (group p fs) e).0))
      ∙ behind (group p fs) e n (prefix_text kinds.ReadGroup ++ field_text 73 68 (place_text at s (stretch_of p)))
  record-text (program p fs) e n =
      ap (λ x. prefix_text kinds.Program ++ field_text 73 68 x ++ fields_text fs ++ (10 ∷ [])) (sym (place-bytes at s p (stand (program p fs) e).0))
      ∙ behind (program p fs) e n (prefix_text kinds.Program ++ field_text 73 68 (place_text at s (stretch_of p)))
  record-text (comment p) e n = absurd (never (cc))

  record-writable : (r : Record) → line false (record { at = at; bytes = s }) ≡ read r → is_writable r ≡ head_writable at s (uncounted (record_head r))
  unfolding is_writable head_writable uncounted record_head pieces Each
  record-writable (header v fs) e = refl
  record-writable (reference p n fs) e = ap is_name (sym (place-bytes at s p (stand (reference p n fs) e).0))
  record-writable (group p fs) e = refl
  record-writable (program p fs) e = refl
  record-writable (comment p) e = refl

  -- ---- by line

  module _ (h : is_read (line false (record { at = at; bytes = s })) ≡ true) (k : Kind) (q : kind_by (get_or s 1 0) ≡ k) (n : is_comment k ≡ false) where
    -- what is known once the head is known
    pub told : (h d : Head) → h ≡ uncounted (head_of (line false (record { at = at; bytes = s }))) → h ≡ d → Told at s k d
    unfolding line_text line_writable head_of
    told g d e c =
        subst (Told at s k) (sym e ∙ c)
        (record {
          holds = by-record false at s h (λ l. KeyInLine at s (uncounted (head_of l))) (λ r e. record-holds r e (fields r e));
          kind-is = by-record false at s h (λ l. kind_of_head (uncounted (head_of l)) ≡ k) (λ r e. record-kind r ∙ byte r e);
          text = by-record false at s h (λ l. line_text l ≡ head_text at s (uncounted (head_of l))) (λ r e. record-text r e (fields r e));
          writable = by-record false at s h (λ l. line_writable l ≡ head_writable at s (uncounted (head_of l))) record-writable;
        })
      where
        byte : (r : Record) → line false (record { at = at; bytes = s }) ≡ read r → kind r ≡ k
        byte r e = sym (accepted-byte false at s r (line-accepted false (record { at = at; bytes = s }) r e)).1 ∙ q

        fields : (r : Record) → line false (record { at = at; bytes = s }) ≡ read r → is_comment (kind r) ≡ false
        fields r e = ap is_comment (byte r e) ∙ n
