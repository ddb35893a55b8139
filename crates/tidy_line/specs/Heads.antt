-- What an accepted line `s` of fields at the offset `at` says through its head: the text of the record, its length, and where its key is.
use Rattle.std.specs.Prelude.{ℕ, ◌+◌, Bool, true, List, [], length}
use Rattle.format.specs.Decimal.{written}
use Rattle.format.specs.Tidy.{is_name}
use Rattle.format.specs.declared.Kind.{Kind}
use Rattle.format.specs.declared.Kind.TheVariants as kind
use Rattle.record.specs.declared.Head.{Head}
use Rattle.record.specs.declared.Head.TheVariants.{Refused, Header, ReferenceSequence, ReadGroup, Program, Comment}
use Rattle.accepted_line.specs.declared.KeyValues.{KeyValues}
use Rattle.tidy_parts.specs.Parts.{version_text}
use Rattle.tidy_line.specs.Texts.{InsideLine, place_text, header_text, sequence_text, map_text}

-- the text of the record; a refusal or a comment is never written part by part
unfoldable pub head_text : ℕ → List ℕ → Head → List ℕ
unfolding header_text sequence_text map_text
head_text at s (Refused n) = []
head_text at s (Header v n) = header_text v at s
head_text at s (ReferenceSequence p l n) = sequence_text p l at s
head_text at s (ReadGroup p n) = map_text kind.ReadGroup p at s
head_text at s (Program p n) = map_text kind.Program p at s
head_text at s (Comment p) = []

unfoldable pub head_writable : ℕ → List ℕ → Head → Bool
unfolding is_name place_text
head_writable at s (Refused n) = true
head_writable at s (Header v n) = true
head_writable at s (ReferenceSequence p l n) = is_name (place_text at s p)
head_writable at s (ReadGroup p n) = true
head_writable at s (Program p n) = true
head_writable at s (Comment p) = true

-- its key lies within the line
unfoldable pub KeyInLine : ℕ → List ℕ → Head → Type 0
KeyInLine at s (Refused n) = ⊥
KeyInLine at s (Header v n) = Unit
KeyInLine at s (ReferenceSequence p l n) = InsideLine at s p
KeyInLine at s (ReadGroup p n) = InsideLine at s p
KeyInLine at s (Program p n) = InsideLine at s p
KeyInLine at s (Comment p) = ⊥

-- how long its key is
abbrev pub place_length : Head → ℕ
place_length (Refused n) = 0
place_length (Header v n) = 0
place_length (ReferenceSequence p l n) = p.len
place_length (ReadGroup p n) = p.len
place_length (Program p n) = p.len
place_length (Comment p) = 0

-- how long the text is if the other fields take `others` bytes
unfoldable pub head_length : Head → ℕ → ℕ
unfolding version_text written
head_length (Refused n) others = 0
head_length (Header v n) others = 8 + length (version_text v) + others
head_length (ReferenceSequence p l n) others = 12 + p.len + length (written l) + others
head_length (ReadGroup p n) others = 8 + p.len + others
head_length (Program p n) others = 8 + p.len + others
head_length (Comment p) others = 0

-- how long the key fields of a line of this kind are
abbrev pub keys_length : Kind → KeyValues → ℕ
keys_length kind.Header ks = 4 + ks.key.len
keys_length kind.ReferenceSequence ks = 8 + ks.key.len + ks.number.len
keys_length kind.ReadGroup ks = 4 + ks.key.len
keys_length kind.Program ks = 4 + ks.key.len
keys_length kind.Comment ks = 0
