-- The tidy text with new programs, and the reasons to add nothing once the leaves are known.
use Rattle.std.specs.Prelude.{ℕ, ◌+◌, Bool, true, false, not, cond, Option, Some, None, List, ◌++◌, length, ltb, Result, Ok, Err}
use Rattle.std.proofs.Math.Option as maybe
use Rattle.std.proofs.Math.Option.{none, some}
use Rattle.format.specs.Lines.{Piece}
use Rattle.format.specs.Fields.{Field}
use Rattle.format.specs.Records.{Record}
use Rattle.format.specs.Programs.{Program, programs, links, leaves}
use Rattle.format.specs.Tidy.{tidy, unwritable}
use Rattle.format.specs.Adding.{added, used}
use Rattle.format.specs.Calls.{Answer, refused, yes, then, untangled, writing}
use Rattle.format.specs.declared.Kind.TheVariants.{Comment}
use Rattle.accepted.specs.Read.{records_of}
use Rattle.tidy_text.specs.Kinds.{text_of_kind, front_text}
use Rattle.tidy_text.specs.Sizes.{sizes_of}
use Rattle.add_ids.specs.Taken.{is_among}
use Rattle.add_lines.specs.Lines.{new_text}
use Rattle.add_lines.specs.declared.Shape.{Shape}
use Rattle.record.specs.declared.Stretch.{Stretch}
use Rattle.add.specs.declared.Ways.{Ways}
use Rattle.add.specs.declared.Plan.{Plan}
use Rattle.format.specs.declared.Refusal.{Refusal}

-- the new programs come after the old ones, and the comments last
unfoldable pub with_added : List Record → List ℕ → List ℕ
unfolding front_text text_of_kind
with_added rs new = front_text rs ++ new ++ text_of_kind Comment rs

-- the tidy text of `t` with new programs, after the leaves `ks` of those whose IDs are in a list
abbrev pub grown_text : List ℕ → List ℕ → Shape → List ℕ → List ℕ → List ℕ → List ℕ
grown_text t ids shape prefix fields ks = with_added (records_of t) (new_text t ids shape prefix fields ks)

-- it is written, or the refusal: 24, 1, 20
abbrev pub writing_grown : List ℕ → List ℕ → Shape → List ℕ → List ℕ → List ℕ → ℕ → Answer (List ℕ)
writing_grown t ids shape prefix fields ks room = writing room (unwritable 0 (records_of t)) (grown_text t ids shape prefix fields ks)

-- what was measured, or a refusal and its line
unfoldable pub planned_of : Plan → Answer (List ℕ) → Result Plan Refusal
planned_of p (refused n l) = Err (record { number = n; line = record { 0 = l } })
planned_of p (yes t) = Ok p

-- what is known before a byte of it is written
abbrev pub planning : List ℕ → List ℕ → Ways → List ℕ → List ℕ → List ℕ → ℕ → Result Plan Refusal
planning t ids ways prefix fields ks room =
    planned_of
    (record { ways = ways; sizes = sizes_of (records_of t); more = length (new_text t ids ways.shape prefix fields ks) })
    (writing_grown t ids ways.shape prefix fields ks room)

-- is no PP given?
unfoldable pub is_none : maybe.Option Piece → Bool
is_none none = true
is_none (some p) = false

-- the same, from where a given PP is
unfoldable pub is_nothing : Option Stretch → Bool
is_nothing None = true
is_nothing (Some p) = false

-- a PP is given that equals no ID
unfoldable pub stray : List (List ℕ) → maybe.Option Piece → Bool
unfolding is_among
stray ids none = false
stray ids (some p) = not (is_among p.bytes ids)

-- the leaves of the programs that are there
unfoldable pub leaves_of : List Record → List ℕ
unfolding leaves links programs
leaves_of rs = leaves (links (programs rs))

-- 0, or 18, or 19
unfoldable pub crowded : List Program → List Record → ℕ
unfolding used programs
crowded ps new = cond (used ps (programs new)) 18 (cond (ltb 1024 (length ps + length new)) 19 0)

-- the answer of adding if the chains of the old programs are in order: 18, 19, 24, 1, 20, or the text
unfoldable pub adding_on : List Record → List ℕ → List Field → ℕ → Answer (List ℕ)
unfolding then untangled crowded added programs writing unwritable tidy
adding_on rs prefix fs room =
    then (untangled rs (crowded (programs rs) (added prefix fs (programs rs))))
    (λ rs. writing room (unwritable 0 rs) (tidy (rs ++ added prefix fs (programs rs))))
