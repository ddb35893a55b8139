-- An accepted line of a text, with its kind and its form: a comment, fields that repeat no tag, or fields that may repeat one.
use Rattle.std.specs.Prelude.{ℕ, ◌+◌, ◌≤◌, ◌≡◌, Bool, true, false, ◌||◌, cond, List, length, get_or, replicate}
use Rattle.format.specs.Records.{line}
use Rattle.format.specs.declared.Kind.{Kind}
use Rattle.format.specs.declared.Kind.TheVariants as kind
use Rattle.accepted.specs.Read.{is_read}
use Rattle.accepted_line.specs.Run.{AtField, fields_from}
use Rattle.accepted_line.specs.Tables.{spread}
use Rattle.accepted_line.specs.Found.{kind_by, is_comment}
use Rattle.accepted_line.specs.declared.Form.{Form}
use Rattle.accepted_line.specs.declared.Form.TheVariants.{Comment, Once, Repeating}

-- the line `s` at the offset `at` of a text is accepted where repeated tags are allowed, and its kind is `k`
pub record LineOf (k : Kind) (at : ℕ) (s : List ℕ) : Type 0 where
  pub accepted : is_read (line false (record { at = at; bytes = s })) ≡ true
  pub kind : kind_by (get_or s 1 0) ≡ k
  pub short : at + length s ≤ 16777216

-- the form is right
unfoldable pub IsForm : ℕ → List ℕ → Form → Type 0
IsForm at s Comment = LineOf kind.Comment at s
IsForm at s (Once k) = LineOf k at s × (is_comment k ≡ false) × AtField true at s 3
IsForm at s (Repeating k) = LineOf k at s × (is_comment k ≡ false)

-- which form is answered: `Once` if repeated tags are forbidden or all tags have different marks out of 112
unfoldable pub form_of : Bool → ℕ → List ℕ → Form
unfolding kind_by spread
form_of strict at s =
    let k : Kind = kind_by (get_or s 1 0) in
    cond (is_comment k) Comment (cond (strict || spread (replicate 112 false) (fields_from at s 3)) (Once k) (Repeating k))
