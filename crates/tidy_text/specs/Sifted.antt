-- The records of a text without the programs whose mark is false, and what happens to a line according to its kind.
use Rattle.std.specs.Prelude.{ℕ, ◌+◌, Bool, true, cond, List, Option, Some, [], ◌∷◌, length, get_or, eqb}
use Rattle.format.specs.Records.{Record, code, Line}
use Rattle.format.specs.declared.Kind.{Kind}
use Rattle.byte_slices.specs.Over.{over}
use Rattle.tidy_sizes.specs.Numbers.{get, plus}
use Rattle.tidy_sizes.specs.declared.PerKind.{PerKind}
use Rattle.tidy_text.specs.Sizes.{grown_by}
use Rattle.tidy_text.specs.declared.Stay.{Stay}

-- is the program `k` marked? A program after the last mark is
unfoldable pub is_marked : List Bool → ℕ → Bool
is_marked marks k = get_or marks k true

-- all records but the programs whose ordinals, counted from `k`, are dropped
unfoldable pub sifted : (ℕ → Bool) → ℕ → List Record → List Record
unfolding code
sifted p k [] = []
sifted p k (r ∷ rs) =
    cond (eqb (code r) 4)
    (cond (p k) (r ∷ sifted p (k + 1) rs) (sifted p (k + 1) rs))
    (r ∷ sifted p k rs)

-- does the record of a line stay, and which ordinal has the next program? `pg` says whether the line is a program
unfoldable pub stay_by : Bool → List Bool → ℕ → Stay
unfolding is_marked
stay_by pg marks k = cond pg (record { stays = is_marked marks k; next = k + 1 }) (record { stays = true; next = k })

-- the same, from the second byte of an accepted line
abbrev pub is_program_line : List ℕ → Bool
is_program_line s = eqb (get_or s 1 0) 80

-- the sizes with a line of the kind `j`, if it stays
unfoldable pub grown_if : Bool → Kind → Line → PerKind → Option PerKind
unfolding grown_by
grown_if stays j l s = cond stays (grown_by j l s) (Some s)

-- the places after a text of the kind `j`, and what is written, if the line stays
unfoldable pub places_if : Bool → Kind → List ℕ → PerKind → PerKind
unfolding plus
places_if stays j xs c = cond stays (plus j (length xs) c) c

unfoldable pub written_if : Bool → Kind → List ℕ → PerKind → List ℕ → List ℕ
unfolding over get
written_if stays j xs c out = cond stays (over out (get j c) xs) out
