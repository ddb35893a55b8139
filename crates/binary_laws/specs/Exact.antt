-- Which bytes are a binary header, and what `binary_in` answers for them.
use Rattle.std.specs.Prelude.{ℕ, ◌^◌, ◌<◌, ◌≡◌, List, length}
use Rattle.std.proofs.Math.Option.{none, some}
use Rattle.format.specs.Records.{Record}
use Rattle.format.specs.Reading.{read_text, accept}
use Rattle.format.specs.References.{Reference, sq_list}
use Rattle.format.specs.Calls.{refused, tidying}
use Rattle.byte_slices.specs.Stands.{Each}
use Rattle.format.specs.Binary.{binary, binary_parts, unpadded, binary_in}
use Rattle.binary_bytes.proofs.Parts.{AllSmall}

-- each of these numbers is a byte
unfoldable pub AllBytes : List ℕ → Type 0
unfolding Each
AllBytes s = Each (λ b. b < 256) s

-- these bytes are the binary header of a text and a reference list, and their lengths fit in four bytes
pub record IsBinary (s t : List ℕ) (list : List Reference) : Type 0 where
  pub bytes : s ≡ binary t list
  pub text : length t < 256 ^ 4
  pub count : length list < 256 ^ 4
  pub names : AllSmall list

-- bytes that can be taken apart are the binary header of their parts
unfoldable pub PartsAreBinary : Type 0
unfolding AllBytes binary_parts
PartsAreBinary = (s t : List ℕ) (list : List Reference) → AllBytes s → binary_parts s ≡ some (t, list) → IsBinary s t list

-- the binary header of a text and a list can be taken apart into these
unfoldable pub BinaryIsTakenApart : Type 0
unfolding binary_parts
BinaryIsTakenApart = (s t : List ℕ) (list : List Reference) → IsBinary s t list → binary_parts s ≡ some (t, list)

-- `binary_in` answers 28 for bytes that are not a binary header
unfoldable pub NoneIs28 : Type 0
unfolding AllBytes binary_in
NoneIs28 = (s : List ℕ) (room : ℕ) → AllBytes s → ((t : List ℕ) (list : List Reference) → IsBinary s t list → ⊥) → binary_in s room ≡ refused 28 0

-- it answers 28 for no other bytes
unfoldable pub BinaryIsNot28 : Type 0
unfolding binary_in
BinaryIsNot28 = (s t : List ℕ) (list : List Reference) (room l : ℕ) → IsBinary s t list → binary_in s room ≡ refused 28 l → ⊥

-- where reading accepts the text without the zero bytes at its end, this is its SQ list
unfoldable pub Agrees : List ℕ → List Reference → Type 0
unfolding unpadded sq_list
Agrees t list = (rs : List Record) → read_text (unpadded t) ≡ accept rs → sq_list rs ≡ list

-- `binary_in` tidies that text if the lists agree
unfoldable pub InIsTidying : Type 0
unfolding Agrees unpadded binary_in tidying
InIsTidying = (s t : List ℕ) (list : List Reference) (room : ℕ) → IsBinary s t list → Agrees t list → binary_in s room ≡ tidying (unpadded t) room
