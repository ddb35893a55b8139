-- One program of a text: its line and its parent.
use Rattle.std.specs.Prelude.{ℕ, ◌+◌, ◌≤◌, Bool, List, length, take, drop, get_or}
use Rattle.format.specs.Merge.{ProgramShape}
use Rattle.program_chains.specs.Parents.{link_of}
use Rattle.program_lines.specs.Line.{FieldsOf}
use Rattle.merge_fields.specs.Kept.{kept_from}
use Rattle.merge_programs.specs.declared.Member.{Member}

-- the program `i`, from the arrays of all
unfoldable pub member_of : Bool → List ℕ → List ℕ → List ℕ → ℕ → Member
member_of strict ats lens parents i = record { strict = strict; at = get_or ats i 0; len = get_or lens i 0; parent = get_or parents i 0 }

-- its line
abbrev pub line_at : List ℕ → Member → List ℕ
line_at t p = take p.len (drop p.at t)

-- what an image keeps of it
unfoldable pub shape_at : List ℕ → Member → ProgramShape
unfolding kept_from link_of
shape_at t p = record { fields = kept_from p.at (line_at t p) 3; parent = link_of p.parent }

-- its line is an accepted line of the text
pub record IsMember (t : List ℕ) (p : Member) : Type 0 where
  pub inside : p.at + p.len ≤ length t
  pub fits : length t ≤ 16777216
  pub line : FieldsOf p.strict p.at (line_at t p)
