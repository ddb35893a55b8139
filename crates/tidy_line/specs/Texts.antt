-- The text of a record, from its head and its accepted line `s`, which is at the offset `at`.
use Rattle.std.specs.Prelude.{ℕ, ◌+◌, ◌-◌, ◌≤◌, List, [], ◌∷◌, ◌++◌, length, take, drop}
use Rattle.format.specs.Decimal.{written}
use Rattle.format.specs.Tidy.{field_text}
use Rattle.format.specs.declared.Version.{Version}
use Rattle.format.specs.declared.Kind.{Kind}
use Rattle.format.specs.declared.Kind.TheVariants.{Header, ReferenceSequence}
use Rattle.record.specs.declared.Stretch.{Stretch}
use Rattle.tidy_parts.specs.Parts.{prefix_text, version_text}
use Rattle.tidy_fields.specs.Others.{others_text}

-- `p` lies within the line
pub record InsideLine (at : ℕ) (s : List ℕ) (p : Stretch) : Type 0 where
  pub from : at ≤ p.at
  pub within : p.at - at + p.len ≤ length s

-- those bytes
unfoldable pub place_text : ℕ → List ℕ → Stretch → List ℕ
place_text at s p = take p.len (drop (p.at - at) s)

unfoldable pub header_text : Version → ℕ → List ℕ → List ℕ
unfolding prefix_text field_text version_text others_text
header_text v at s = prefix_text Header ++ field_text 86 78 (version_text v) ++ (others_text Header at s ++ (10 ∷ []))

unfoldable pub sequence_text : Stretch → ℕ → ℕ → List ℕ → List ℕ
unfolding prefix_text field_text place_text written others_text
sequence_text p n at s =
    prefix_text ReferenceSequence ++ field_text 83 78 (place_text at s p) ++ field_text 76 78 (written n) ++ (others_text ReferenceSequence at s ++ (10 ∷ []))

unfoldable pub map_text : Kind → Stretch → ℕ → List ℕ → List ℕ
unfolding prefix_text field_text place_text others_text
map_text k p at s = prefix_text k ++ field_text 73 68 (place_text at s p) ++ (others_text k at s ++ (10 ∷ []))
