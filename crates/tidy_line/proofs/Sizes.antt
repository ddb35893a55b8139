-- How long a record's text and its parts are.
use Prim.Native.Nat.{ℕ, ◌+◌, ◌-◌, ◌≤◌}
use mathlib.Core.Path.{◌≡◌}
use mathlib.Core.List.{List, [], ◌∷◌, ◌++◌}
use native.Mathlib.Omega.{arith}
use lib.ListN.{length, drop, length-append, length-drop}
use lib.Seq.{length-take-le}
use Rattle.format.specs.Decimal.{written}
use Rattle.format.specs.Tidy.{field_text}
use Rattle.format.specs.declared.Version.{Version}
use Rattle.format.specs.declared.Kind.{Kind}
use Rattle.format.specs.declared.Kind.TheVariants as kind
use Rattle.format.specs.declared.Kind.TheVariants.{Header, ReferenceSequence}
use Rattle.record.specs.declared.Stretch.{Stretch}
use Rattle.record.specs.declared.Head.{Head}
use Rattle.record.specs.declared.Head.TheVariants as head
use Rattle.record.specs.declared.Head.TheVariants.{Refused, ReadGroup, Program, Comment}
use Rattle.tidy_line.specs.Heads.{head_text, KeyInLine, place_length, head_length}
use Rattle.tidy_parts.specs.Parts.{prefix_text, version_text}
use Rattle.tidy_fields.specs.Others.{others_text}
use Rattle.tidy_line.specs.Texts.{InsideLine, place_text, header_text, sequence_text, map_text}

-- the kind of a head's fields
unfoldable pub kind_of_head : Head → Kind
kind_of_head (Refused n) = kind.Comment
kind_of_head (head.Header v n) = Header
kind_of_head (head.ReferenceSequence p l n) = ReferenceSequence
kind_of_head (ReadGroup p n) = kind.ReadGroup
kind_of_head (Program p n) = kind.Program
kind_of_head (Comment p) = kind.Comment

-- two runs after a front, the last of them the end of a record
ends : (xs ys zs : List ℕ) → length (xs ++ ys ++ (zs ++ (10 ∷ []))) ≡ length xs + length ys + length zs + 1
ends xs ys zs = omega (arith, length-append (xs ++ ys) (zs ++ (10 ∷ [])), length-append xs ys, length-append zs (10 ∷ []))

pub header-size : (v : Version) (at : ℕ) (s : List ℕ) → length (header_text v at s) ≡ 8 + length (version_text v) + length (others_text Header at s)
unfolding header_text prefix_text field_text
header-size v at s = omega (arith, ends (prefix_text Header) (field_text 86 78 (version_text v)) (others_text Header at s))

module _ (at : ℕ) (s : List ℕ) (p : Stretch) (i : InsideLine at s p) where
  pub place-size : length (place_text at s p) ≡ p.len
  unfolding place_text
  place-size = length-take-le p.len (drop (p.at - at) s) (omega (arith, length-drop (p.at - at) s, i.within))

  pub sequence-size : (n : ℕ) → length (sequence_text p n at s) ≡ 12 + p.len + length (written n) + length (others_text ReferenceSequence at s)
  unfolding sequence_text prefix_text field_text
  sequence-size n =
      let name : List ℕ = field_text 83 78 (place_text at s p) in
      omega (
        arith,
        place-size,
        ends (prefix_text ReferenceSequence ++ name) (field_text 76 78 (written n)) (others_text ReferenceSequence at s),
        length-append (prefix_text ReferenceSequence) name,
      )

  pub map-size : (k : Kind) → length (map_text k p at s) ≡ 8 + p.len + length (others_text k at s)
  unfolding map_text prefix_text field_text
  map-size k = omega (arith, place-size, ends (prefix_text k) (field_text 73 68 (place_text at s p)) (others_text k at s))

-- by the head
pub head-size : (at : ℕ) (s : List ℕ) (k : Kind) (d : Head) → KeyInLine at s d → kind_of_head d ≡ k → length (head_text at s d) ≡ head_length d (length (others_text k at s))
unfolding KeyInLine head_text head_length kind_of_head
head-size at s k (Refused n) h e = absurd h
head-size at s k (head.Header v n) h e = rw (← e) (header-size v at s)
head-size at s k (head.ReferenceSequence p l n) h e = rw (← e) (sequence-size at s p h l)
head-size at s k (ReadGroup p n) h e = rw (← e) (map-size at s p h kind.ReadGroup)
head-size at s k (Program p n) h e = rw (← e) (map-size at s p h kind.Program)
head-size at s k (Comment p) h e = absurd h

-- a key is no longer than its line
pub place_short : (at : ℕ) (s : List ℕ) (d : Head) → KeyInLine at s d → place_length d ≤ length s
unfolding KeyInLine
place_short at s (Refused n) h = absurd h
place_short at s (head.Header v n) h = omega arith
place_short at s (head.ReferenceSequence p l n) h = omega (arith, h.within)
place_short at s (ReadGroup p n) h = omega (arith, h.within)
place_short at s (Program p n) h = omega (arith, h.within)
place_short at s (Comment p) h = absurd h
