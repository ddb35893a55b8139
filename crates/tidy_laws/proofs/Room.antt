-- How much room outputs need: the catalogue of an accepted text is at most three times as long as the text plus one byte.
use Prim.Native.Nat.{ℕ, ◌+◌, ◌*◌, ◌≤◌}
use mathlib.Core.Path.{◌≡◌}
use mathlib.Core.Bool.{Bool, true, false, cond, false≢true}
use mathlib.Core.List.{List, [], ◌∷◌, ◌++◌}
use native.Mathlib.Omega.{arith}
use lib.ListN.{length, length-append}
use Rattle.format.specs.Fields.{Field, is_value, is_wide, is_wide_value, allows}
use Rattle.format.specs.Records.{Record, header, reference, group, program, comment, others}
use Rattle.format.specs.Reading.{accept, read_text}
use Rattle.format.specs.Decimal.{written}
use Rattle.format.specs.Catalogue.{little, place, head, tails, catalogue_from, catalogue}
use Rattle.format.specs.Tidy.{fields_text, record_text, text, tidy}
use Rattle.format.specs.declared.Kind.{Kind}
use Rattle.format.specs.declared.Kind.TheVariants.{Header, ReferenceSequence, ReadGroup, Program}
use Rattle.byte_slices.specs.Stands.{Each}
use Rattle.accepted.specs.Sound.{kind, Other, Sound}
use Rattle.accepted.proofs.Text.{text-sound}
use Rattle.tidy_laws.specs.Line.{own, keys, record_line}
use Rattle.tidy_laws.proofs.Length.{one_more}
use Rattle.tidy_laws.proofs.Total.{record-length, order-length, tidy-length}

-- a value has a byte
value-some : (k : Kind) (a b : ℕ) (v : List ℕ) → allows k a b v ≡ true → 1 ≤ length v
unfolding allows is_wide_value is_value
value-some k a b [] h = absurd (go (is_wide k a b) h)
  where
    go : (t : Bool) → cond t false false ≡ true → ⊥
    go true e = false≢true e
    go false e = false≢true e
value-some k a b (c ∷ v) h = omega arith

-- an entry of 11 bytes for each field, which takes at least 5
fields-room : (k : Kind) (fs : List Field) → Each (Other k) fs → 5 * length (tails fs) ≤ 11 * length (fields_text fs)
unfolding Each tails
fields-room k [] h = omega arith
fields-room k (f ∷ fs) h = omega (arith, one_more f fs, value-some k f.tag₀ f.tag₁ f.value.bytes h.0.value, fields-room k fs h.1)

-- a record's entries, four bytes of them its line, and its text: a comment without a byte has 13 for 5
record-room : (r : Record) → Sound r → 5 * (length (head r) + 4 + length (tails (others r))) ≤ 13 * length (record_text r)
unfolding head place little others tails record_line keys own kind
record-room (header v fs) h =
    omega (arith, record-length (header v fs), one_more (own 86 78 (written v.major ++ (46 ∷ written v.minor))) fs, fields-room Header fs h.other)
record-room (reference p n fs) h =
    omega (
      arith,
      record-length (reference p n fs),
      one_more (own 83 78 p.bytes) (own 76 78 (written n) ∷ fs),
      one_more (own 76 78 (written n)) fs,
      fields-room ReferenceSequence fs h.other,
    )
record-room (group p fs) h = omega (arith, record-length (group p fs), one_more (own 73 68 p.bytes) fs, fields-room ReadGroup fs h.other)
record-room (program p fs) h = omega (arith, record-length (program p fs), one_more (own 73 68 p.bytes) fs, fields-room Program fs h.other)
record-room (comment p) h = omega (arith, record-length (comment p))

-- no entry is shorter than nine bytes and its line
head-some : (r : Record) → 9 ≤ length (head r)
unfolding head place little
head-some (header v fs) = omega arith
head-some (reference p n fs) = omega arith
head-some (group p fs) = omega arith
head-some (program p fs) = omega arith
head-some (comment p) = omega arith

records-room : (l : ℕ) (rs : List Record) → Each Sound rs → 5 * length (catalogue_from l rs) ≤ 13 * length (text rs)
unfolding Each catalogue_from little text
records-room l [] h = omega arith
records-room l (r ∷ rs) h =
    omega (
      arith,
      length-append (head r ++ little 4 l ++ tails (others r)) (catalogue_from (l + 1) rs),
      length-append (head r ++ little 4 l) (tails (others r)),
      length-append (head r) (little 4 l),
      length-append (record_text r) (text rs),
      record-room r h.0,
      records-room (l + 1) rs h.1,
    )

pub catalogue-room : (t : List ℕ) (rs : List Record) → read_text t ≡ accept rs → length (catalogue rs) ≤ 3 * length t + 1
unfolding Each catalogue text tidy
catalogue-room t rs e = go rs (text-sound t rs e) (omega (arith, tidy-length t rs e, order-length rs))
  where
    go : (rs : List Record) → Each Sound rs → length (text rs) ≤ length t + 1 → length (catalogue rs) ≤ 3 * length t + 1
    go [] h l = omega arith
    go (r ∷ rs) h l =
        omega (
          arith,
          l,
          records-room 0 (r ∷ rs) h,
          head-some r,
          record-room r h.0,
          length-append (record_text r) (text rs),
        )
