-- The rules for repeated tags that give a text's own reading.
use Rattle.std.specs.Prelude.{ℕ, ◌≡◌, Bool, true, List, []}
use Rattle.format.specs.Lines.{lines}
use Rattle.format.specs.Reading.{read_from, read_text}
use Rattle.accepted.specs.Read.{is_accepted}

-- the lines of the text, read by this rule for repeated tags, are what reading the text gives
unfoldable pub ReadsBy : Bool → List ℕ → Type 0
unfolding lines read_from read_text
ReadsBy strict t = read_from strict 0 [] (lines t) ≡ read_text t

-- are the lines accepted where repeated tags are forbidden? Then no tag is repeated in any of them
unfoldable pub is_once : List ℕ → Bool
unfolding is_accepted lines read_from
is_once t = is_accepted (read_from true 0 [] (lines t))
