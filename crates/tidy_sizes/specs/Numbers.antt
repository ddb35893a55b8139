-- A number for each kind, and one number per kind: how many bytes its records take, or where they start.
use Rattle.std.specs.Prelude.{ℕ, ◌+◌, cond, eqb}
use Rattle.format.specs.declared.Kind.{Kind}
use Rattle.format.specs.declared.Kind.TheVariants.{Header, ReferenceSequence, ReadGroup, Program, Comment}
use Rattle.tidy_sizes.specs.declared.PerKind.{PerKind}

-- the number that `code` gives the records of the kind
unfoldable pub kind_number : Kind → ℕ
kind_number Header = 1
kind_number ReferenceSequence = 2
kind_number ReadGroup = 3
kind_number Program = 4
kind_number Comment = 5

-- the values of a function on the kinds
abbrev pub each : (Kind → ℕ) → PerKind
each f = record { hd = f Header; sq = f ReferenceSequence; rg = f ReadGroup; pg = f Program; co = f Comment }

unfoldable pub get : Kind → PerKind → ℕ
get Header s = s.hd
get ReferenceSequence s = s.sq
get ReadGroup s = s.rg
get Program s = s.pg
get Comment s = s.co

unfoldable pub no_bytes : PerKind
no_bytes = each (λ k. 0)

-- with `n` added for the kind `j`
unfoldable pub plus : Kind → ℕ → PerKind → PerKind
unfolding get kind_number
plus j n s = each (λ k. cond (eqb (kind_number j) (kind_number k)) (get k s + n) (get k s))

unfoldable pub front : PerKind → ℕ
front s = s.hd + s.sq + s.rg + s.pg

unfoldable pub total : PerKind → ℕ
unfolding front
total s = front s + s.co

-- each kind starts after the one before it, with `gap` bytes before the comments
unfoldable pub kind_starts : ℕ → PerKind → PerKind
unfolding front
kind_starts gap s = record { hd = 0; sq = s.hd; rg = s.hd + s.sq; pg = s.hd + s.sq + s.rg; co = front s + gap }
