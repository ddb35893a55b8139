-- What a step says of the records kept: a line that is kept is read, and its record comes before those of the lines after it.
use Prim.Native.Nat.{ℕ, ◌+◌, ◌<◌}
use mathlib.Core.Path.{◌≡◌, refl, sym, ap, ◌∙◌}
use mathlib.Core.Bool.{Bool, true}
use mathlib.Core.List.{List, ◌∷◌}
use lib.ListN.{drop}
use Rattle.format.specs.Records.{Line, refused_line, read, line}
use Rattle.format.specs.declared.Kind.{Kind}
use Rattle.accepted.specs.Read.{is_read}
use Rattle.tidy_line.specs.Line.{line_text}
use Rattle.tidy_text.specs.Accepted.{with_record}
use Rattle.tidy_text.specs.Kinds.{line_kind, kind_text}
use Rattle.tidy_text.proofs.OfKind.{only, line-kind}
use Rattle.format.specs.Carrying.{kept_of}
use Rattle.carry_lines.specs.Going.{judged_lines}
use Rattle.carry_lines.specs.declared.Cursor.{Cursor}
use Rattle.carry_passes.specs.NextLine.{lent_to, Turn}

kept-onto : (l : Line) (ls : List Line) → kept_of (l ∷ ls) ≡ with_record l (kept_of ls)
unfolding kept_of with_record
kept-onto (refused_line n) ls = refl
kept-onto (read r) ls = refl

module _ (strict : Bool) (t : List ℕ) (from : ℕ) (c : Cursor) (end : ℕ) where
  -- the line of the step
  abbrev pub line_at : Line
  line_at = line strict (record { at = c.at; bytes = lent_to t c.at end })

  abbrev pub kind_at : Kind
  kind_at = line_kind (lent_to t c.at end)

  -- the lines from it on, and those after it
  abbrev pub left : List Line
  left = drop c.line (judged_lines strict t from)

  abbrev pub rest : List Line
  rest = drop (c.line + 1) (judged_lines strict t from)

  module _ (n : ℕ) (u : Turn strict t from c end n) where
    -- it is kept
    module _ (z : n ≡ 0) where
      pub turn-read : is_read line_at ≡ true
      turn-read = ap is_read (sym (u.kept z).0) ∙ (u.kept z).1

      pub goes : (k : Kind) → kind_text k line_at ≡ only kind_at (line_text line_at) k
      goes = line-kind strict c.at (lent_to t c.at end) turn-read

      pub left-kept : left ≡ line_at ∷ rest
      left-kept = u.more ∙ ap (λ l. l ∷ rest) (u.kept z).0

      pub records-kept : kept_of left ≡ with_record line_at (kept_of rest)
      records-kept = ap kept_of left-kept ∙ kept-onto line_at rest

    -- it is skipped
    module _ (z : 0 < n) where
      pub left-skipped : left ≡ refused_line n ∷ rest
      left-skipped = u.more ∙ ap (λ l. l ∷ rest) (u.skipped z)

      pub records-skipped : kept_of left ≡ kept_of rest
      unfolding kept_of
      records-skipped = ap kept_of left-skipped
