-- The line of SN and LN alone: what is answered of it is what the fields of the line make.
use Rattle.std.specs.Prelude.{ℕ, ◌+◌, ◌≤◌, ◌≡◌, Bool, List, Option, Some, None, Ok, ⊤, length, drop, get_or}
use Rattle.format.specs.Decimal.{span}
use Rattle.format.specs.Fields.{length_field}
use Rattle.format.specs.Records.{fielded}
use Rattle.format.specs.declared.Kind.TheVariants.{ReferenceSequence}
use Rattle.byte_slices.specs.Upto.{before}
use Rattle.field_length.specs.Parsed.{parsed_length_of}
use Rattle.decimal.specs.Number.{number_of}
use Rattle.record.specs.declared.Head.{Head}
use Rattle.record.specs.declared.Head.TheVariants as head
use Rattle.record.specs.Head.{head_of}
use Rattle.record_parser.specs.declared.plain.Plain.{Plain}

-- a tab, the tag of `a` and N, and a colon are at the place `at`
pub record TagAt (src : List ℕ) (at a : ℕ) : Type 0 where
  pub room : at + 4 ≤ length src
  pub tab : get_or src at 0 ≡ 9
  pub first : get_or src (at + 1) 0 ≡ a
  pub second : get_or src (at + 2) 0 ≡ 78
  pub colon : get_or src (at + 3) 0 ≡ 58

-- LN of SQ whose value is all of `s` has the length that is told, if one is
abbrev pub LengthTold : List ℕ → Option ℕ → Type 0
LengthTold s None = ⊤
LengthTold s (Some n) = Ok (number_of n (length s)) ≡ parsed_length_of (length_field 0 (span (before 9 s)))

-- the head of a line at the offset `at`: of another line it is `h`
unfoldable pub plain_head : ℕ → Head → Option Plain → Head
plain_head at h None = h
plain_head at h (Some p) = head.ReferenceSequence (record { at = at + 7; len = p.name_len }) p.length 0

-- the answer `r` of the line `src` is right wherever the line is, whether tags may be repeated or not
abbrev pub PlainTold : List ℕ → Option Plain → Type 0
PlainTold src r =
    (at : ℕ) (strict : Bool)
    → plain_head at (head_of (fielded strict ReferenceSequence (at + 3) (drop 3 src))) r ≡ head_of (fielded strict ReferenceSequence (at + 3) (drop 3 src))
