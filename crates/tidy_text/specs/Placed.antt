-- Texts at their places in a lent slice, and the text of each kind at the kind's place.
use Rattle.std.specs.Prelude.{ℕ, ◌+◌, ◌≤◌, List, [], ◌∷◌, length}
use Rattle.format.specs.Records.{Record}
use Rattle.format.specs.declared.Kind.{Kind}
use Rattle.format.specs.declared.Kind.TheVariants.{Header, ReferenceSequence, ReadGroup, Program, Comment}
use Rattle.byte_slices.specs.Over.{over}
use Rattle.tidy_text.specs.Kinds.{text_of_kind, front_text}
use Rattle.tidy_sizes.specs.Numbers.{get}
use Rattle.tidy_sizes.specs.declared.PerKind.{PerKind}

pub record Part : Type 0 where
  pub at : ℕ
  pub bytes : List ℕ

-- each part written over `out` at its place
unfoldable pub with_parts : List ℕ → List Part → List ℕ
unfolding over
with_parts out [] = out
with_parts out (p ∷ ps) = with_parts (over out p.at p.bytes) ps

-- where the first part starts, or `n`
unfoldable pub begins : List Part → ℕ → ℕ
begins [] n = n
begins (p ∷ ps) n = p.at

-- each part ends before the next starts, and the last within `n`
unfoldable pub Apart : List Part → ℕ → Type 0
unfolding begins
Apart [] n = Unit
Apart (p ∷ ps) n = (p.at + length p.bytes ≤ begins ps n) × Apart ps n

-- the records of each kind at the kind's place
unfoldable pub parts : PerKind → List Record → List Part
unfolding get text_of_kind
parts c rs =
    let part : Kind → Part = λ k. record { at = get k c; bytes = text_of_kind k rs } in
    part Header ∷ part ReferenceSequence ∷ part ReadGroup ∷ part Program ∷ part Comment ∷ []

-- the tidy text of records written over `out`, with `gap` bytes before the comments left as they were
abbrev pub with_gap : List ℕ → ℕ → List Record → List ℕ
with_gap out gap rs = over (over out 0 (front_text rs)) (length (front_text rs) + gap) (text_of_kind Comment rs)
