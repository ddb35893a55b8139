-- A record's line in the tidy text is read as this record.
use Prim.Native.Nat.{ℕ, ◌+◌}
use mathlib.Core.Path.{◌≡◌, refl, ap, ◌∙◌}
use mathlib.Core.Bool.{Bool, false, ◌&&◌, and-false}
use mathlib.Core.List.{List, [], ◌∷◌, ◌++◌, append_assoc}
use mathlib.Core.Option.{some}
use native.Mathlib.Omega.{arith}
use lib.ListN.{length}
use lib.Dec.{eqb}
use Rattle.format.specs.Bytes.{any}
use Rattle.format.specs.Decimal.{written}
use Rattle.format.specs.Lines.{Piece}
use Rattle.format.specs.Fields.{Field, tagged, is_wide, allows, is_tag, value_field, repeats}
use Rattle.format.specs.Records.{Record, header, reference, group, program, comment, key, others, read, made, stopped, judged, fielded, remark, body, kind_of, bodied, kinded, prefixed, breaks, line}
use Rattle.format.specs.Tidy.{field_text, fields_text, record_text}
use Rattle.format.specs.declared.Version.{Version}
use Rattle.format.specs.declared.Kind.{Kind}
use Rattle.format.specs.declared.Kind.TheVariants.{Header, ReferenceSequence, ReadGroup, Program, Comment}
use Rattle.byte_slices.specs.Stands.{Each}
use Rattle.byte_slices.proofs.Stands.{each_map}
use Rattle.decimal.proofs.ReadBack.{reads-back}
use Rattle.accepted.specs.Sound.{kind, FitsRecord, KeyIsValue, Other, Sound}
use Rattle.format.specs.Keys.{is_key}
use Rattle.lists.proofs.Bools.{or_left, or_right}
use Rattle.tidy_laws.specs.Bare.{bare_bytes, bare}
use Rattle.tidy_laws.specs.Line.{own, keys, record_line, piece_text, put-at, located, Unbroken}
use Rattle.tidy_laws.proofs.Once.{tags-located, repeats-located, bare-located}
use Rattle.tidy_laws.proofs.Pieces.{Fine, scan-fields, fields-unbroken}
use Rattle.tidy_laws.proofs.Fine.{fine-other, fine-key, fine-length, fine-version, version-back}
use Rattle.tidy_laws.proofs.Made.{made-header, made-reference, made-group, made-program}

-- the record's text is this line and its LF
pub record-line : (r : Record) → record_text r ≡ record_line r ++ (10 ∷ [])
unfolding record_text record_line keys own fields_text bare_bytes
record-line (header v fs) = refl
record-line (reference p n fs) = ap (λ l. 64 ∷ 83 ∷ 81 ∷ 9 ∷ 83 ∷ 78 ∷ 58 ∷ (l ++ (10 ∷ []))) (append_assoc p.bytes (field_text 76 78 (written n)) (fields_text fs))
record-line (group p fs) = refl
record-line (program p fs) = refl
record-line (comment p) = refl

-- ---- the fields of the line

-- no other field has a key's tag
no-tag : (k : Kind) (a b : ℕ) → ((x y : ℕ) → is_key k x y ≡ false → (eqb x a && eqb y b) ≡ false) → (fs : List Field) → Each (Other k) fs → any (tagged a b) fs ≡ false
unfolding any Each tagged
no-tag k a b e [] h = refl
no-tag k a b e (f ∷ fs) h = rw (e f.tag₀ f.tag₁ h.0.no_key, no-tag k a b e fs h.1) refl

fine-others : (k : Kind) (fs : List Field) → Each (Other k) fs → Each (Fine k) fs
fine-others k fs h = each_map (Other k) (Fine k) (fine-other k) fs h

fine-all : (r : Record) → Sound r → Each (Fine (kind r)) (keys r ++ others r)
unfolding kind keys others Each FitsRecord KeyIsValue key is_tag value_field allows is_wide
fine-all (header v fs) s = (fine-version v s.fits.0 s.fits.1, fine-others Header fs s.other)
fine-all (reference p n fs) s =
    (fine-key ReferenceSequence 83 78 p.bytes refl (λ at. refl) s.named, (fine-length n s.fits.0 s.fits.1, fine-others ReferenceSequence fs s.other))
fine-all (group p fs) s = (fine-key ReadGroup 73 68 p.bytes refl (λ at. refl) s.named, fine-others ReadGroup fs s.other)
fine-all (program p fs) s = (fine-key Program 73 68 p.bytes refl (λ at. refl) s.named, fine-others Program fs s.other)
fine-all (comment p) s = tt

-- it holds neither LF nor CR
pub line-unbroken : (r : Record) → Sound r → Unbroken r → any breaks (record_line r) ≡ false
unfolding record_line any breaks Unbroken kind others
line-unbroken (header v fs) s u = fields-unbroken Header (keys (header v fs) ++ fs) (fine-all (header v fs) s)
line-unbroken (reference p n fs) s u = fields-unbroken ReferenceSequence (keys (reference p n fs) ++ fs) (fine-all (reference p n fs) s)
line-unbroken (group p fs) s u = fields-unbroken ReadGroup (keys (group p fs) ++ fs) (fine-all (group p fs) s)
line-unbroken (program p fs) s u = fields-unbroken Program (keys (program p fs) ++ fs) (fine-all (program p fs) s)
line-unbroken (comment p) s u = u

-- a line's fields are read, whatever the rule for repeated tags
fielded-made : (strict : Bool) (k : Kind) (at : ℕ) (f : Field) (fs : List Field) → Each (Fine k) (f ∷ fs) → repeats (f ∷ fs) ≡ false
    → fielded strict k at (fields_text (f ∷ fs)) ≡ made k (located (at + 1) (f ∷ fs))
unfolding fielded fields_text judged stopped piece_text
fielded-made strict k at f fs e once = rw (scan-fields k (at + 1) f fs e, repeats-located (at + 1) (f ∷ fs), once, and-false strict) refl

-- ---- the line

-- a line that is read as `r`, up to offsets
pub record Reads (strict : Bool) (at : ℕ) (s : List ℕ) (r : Record) : Type 0 where
  pub found : Record
  pub reads : line strict (record { at = at; bytes = s }) ≡ read found
  pub same : bare found ≡ bare r

-- `@` and two kind bytes
line-open : (strict : Bool) (at a b : ℕ) (k : Kind) (t : List ℕ) → any breaks (64 ∷ a ∷ b ∷ t) ≡ false → kind_of a b ≡ some k
    → line strict (record { at = at; bytes = 64 ∷ a ∷ b ∷ t }) ≡ body strict k (at + 1 + 2) t
unfolding line prefixed kinded bodied
line-open strict at a b k t u e = rw (u, e) refl

module _ (strict : Bool) (at : ℕ) where
  line-header : (v : Version) (fs : List Field) → Sound (header v fs) → Reads strict at (record_line (header v fs)) (header v fs)
  unfolding kind_of body record_line keys own bare_bytes kind others located put-at bare FitsRecord repeats is_key Unbroken
  line-header v fs s =
      let w : List ℕ = written v.major ++ (46 ∷ written v.minor) in
      let to : ℕ = at + 1 + 2 + 1 + length (piece_text (own 86 78 w)) + 1 in
      let n : any (tagged 86 78) fs ≡ false = no-tag Header 86 78 (λ x y e. e) fs s.other in
      record {
        found = header v (located to fs);
        reads = line-open strict at 72 68 Header (fields_text (own 86 78 w ∷ fs)) (line-unbroken (header v fs) s tt) refl
            ∙ fielded-made strict Header (at + 1 + 2) (own 86 78 w) fs (fine-all (header v fs) s) (rw (n, s.once) refl)
            ∙ made-header (located to fs) (repeats-located to fs ∙ s.once) _ v (tags-located 86 78 to fs ∙ n) (version-back v s.fits.0 s.fits.1);
        same = rw (bare-located to fs) refl;
      }

  line-reference : (p : Piece) (n : ℕ) (fs : List Field) → Sound (reference p n fs) → Reads strict at (record_line (reference p n fs)) (reference p n fs)
  unfolding kind_of body record_line keys own bare_bytes kind others located put-at bare FitsRecord repeats any is_key Unbroken
  line-reference p n fs s =
      let w : List ℕ = written n in
      let to : ℕ = at + 1 + 2 + 1 + length (piece_text (own 83 78 p.bytes)) + 1 + length (piece_text (own 76 78 w)) + 1 in
      let x : any (tagged 83 78) fs ≡ false = no-tag ReferenceSequence 83 78 (λ x y e. or_left (eqb x 83 && eqb y 78) (eqb x 76 && eqb y 78) e) fs s.other in
      let y : any (tagged 76 78) fs ≡ false = no-tag ReferenceSequence 76 78 (λ x y e. or_right (eqb x 83 && eqb y 78) (eqb x 76 && eqb y 78) e) fs s.other in
      record {
        found = reference (record { at = at + 1 + 2 + 1 + 3; bytes = p.bytes }) n (located to fs);
        reads = line-open strict at 83 81 ReferenceSequence (fields_text (own 83 78 p.bytes ∷ own 76 78 w ∷ fs)) (line-unbroken (reference p n fs) s tt) refl
            ∙ fielded-made strict ReferenceSequence (at + 1 + 2) (own 83 78 p.bytes) (own 76 78 w ∷ fs) (fine-all (reference p n fs) s) (rw (x, y, s.once) refl)
            ∙ made-reference (located to fs) (repeats-located to fs ∙ s.once) _ _ (tags-located 83 78 to fs ∙ x) (tags-located 76 78 to fs ∙ y)
            ∙ ap (λ m. read (reference (record { at = at + 1 + 2 + 1 + 3; bytes = p.bytes }) m (located to fs))) (reads-back n (omega (arith, s.fits.1)));
        same = rw (bare-located to fs) refl;
      }

  line-group : (p : Piece) (fs : List Field) → Sound (group p fs) → Reads strict at (record_line (group p fs)) (group p fs)
  unfolding kind_of body record_line keys own bare_bytes kind others located put-at bare FitsRecord repeats is_key Unbroken
  line-group p fs s =
      let to : ℕ = at + 1 + 2 + 1 + length (piece_text (own 73 68 p.bytes)) + 1 in
      let n : any (tagged 73 68) fs ≡ false = no-tag ReadGroup 73 68 (λ x y e. e) fs s.other in
      record {
        found = group (record { at = at + 1 + 2 + 1 + 3; bytes = p.bytes }) (located to fs);
        reads = line-open strict at 82 71 ReadGroup (fields_text (own 73 68 p.bytes ∷ fs)) (line-unbroken (group p fs) s tt) refl
            ∙ fielded-made strict ReadGroup (at + 1 + 2) (own 73 68 p.bytes) fs (fine-all (group p fs) s) (rw (n, s.once) refl)
            ∙ made-group (located to fs) (repeats-located to fs ∙ s.once) _ (tags-located 73 68 to fs ∙ n);
        same = rw (bare-located to fs) refl;
      }

  line-program : (p : Piece) (fs : List Field) → Sound (program p fs) → Reads strict at (record_line (program p fs)) (program p fs)
  unfolding kind_of body record_line keys own bare_bytes kind others located put-at bare FitsRecord repeats is_key Unbroken
  line-program p fs s =
      let to : ℕ = at + 1 + 2 + 1 + length (piece_text (own 73 68 p.bytes)) + 1 in
      let n : any (tagged 73 68) fs ≡ false = no-tag Program 73 68 (λ x y e. e) fs s.other in
      record {
        found = program (record { at = at + 1 + 2 + 1 + 3; bytes = p.bytes }) (located to fs);
        reads = line-open strict at 80 71 Program (fields_text (own 73 68 p.bytes ∷ fs)) (line-unbroken (program p fs) s tt) refl
            ∙ fielded-made strict Program (at + 1 + 2) (own 73 68 p.bytes) fs (fine-all (program p fs) s) (rw (n, s.once) refl)
            ∙ made-program (located to fs) (repeats-located to fs ∙ s.once) _ (tags-located 73 68 to fs ∙ n);
        same = rw (bare-located to fs) refl;
      }

  line-comment : (p : Piece) → Unbroken (comment p) → Reads strict at (record_line (comment p)) (comment p)
  unfolding kind_of body remark record_line bare Unbroken any breaks
  line-comment p u =
      record {
        found = comment (record { at = at + 1 + 2 + 1; bytes = p.bytes });
        reads = line-open strict at 67 79 Comment (9 ∷ p.bytes) u refl;
        same = refl;
      }

-- whatever the rule for repeated tags, and wherever the line is
pub line-back : (strict : Bool) (at : ℕ) (r : Record) → Sound r → Unbroken r → Reads strict at (record_line r) r
line-back strict at (header v fs) s u = line-header strict at v fs s
line-back strict at (reference p n fs) s u = line-reference strict at p n fs s
line-back strict at (group p fs) s u = line-group strict at p fs s
line-back strict at (program p fs) s u = line-program strict at p fs s
line-back strict at (comment p) s u = line-comment strict at p u
