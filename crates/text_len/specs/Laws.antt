-- The laws of the length of a header at the front of a file.
use Rattle.std.specs.Prelude.{ℕ, ◌≤◌, ◌≡◌, true, false, List, ◌++◌, length}
use Rattle.format.specs.Lines.{lines}
use Rattle.format.specs.Records.{Record}
use Rattle.format.specs.Reading.{read_text, accept}
use Rattle.format.specs.Programs.{last_or}
use Rattle.byte_slices.specs.Stands.{Each}
use Rattle.format.specs.TextLen.{headed, text_len}

-- a text that reading accepts is a header as a whole
unfoldable pub AcceptedIsHeader : Type 0
AcceptedIsHeader = (t : List ℕ) (rs : List Record) → read_text t ≡ accept rs → text_len t ≡ length t

-- every line of `t` starts with `@`
unfoldable pub AllHeaded : List ℕ → Type 0
unfolding Each headed lines
AllHeaded t = Each (λ p. headed p.bytes ≡ true) (lines t)

-- lines that all start with `@`, the last with its LF, before bytes that do not start with `@`: the header ends where they end
unfoldable pub CutBehind : Type 0
unfolding AllHeaded last_or headed
CutBehind = (t rest : List ℕ) → AllHeaded t → last_or 10 t ≡ 10 → headed rest ≡ false → text_len (t ++ rest) ≡ length t

-- the same holds for an accepted text that ends with LF
unfoldable pub AcceptedIsCut : Type 0
unfolding last_or headed
AcceptedIsCut = (t rest : List ℕ) (rs : List Record) → read_text t ≡ accept rs → last_or 10 t ≡ 10 → headed rest ≡ false → text_len (t ++ rest) ≡ length t

-- the length is never greater than that of the file
unfoldable pub Within : Type 0
Within = (s : List ℕ) → text_len s ≤ length s
