-- The program with an ID.
use Rattle.std.specs.Prelude.{ℕ, ◌+◌, cond, Option, Some, None, List, [], ◌∷◌, map}
use Rattle.std.proofs.Math.Option as maybe
use Rattle.std.proofs.Math.Option.{none, some}
use Rattle.format.specs.Bytes.{same}
use Rattle.format.specs.Programs.{Program}
use Rattle.format.specs.declared.ProgramNo.{ProgramNo}

-- the IDs of programs
abbrev pub ids_of : List Program → List (List ℕ)
ids_of ps = map (λ p. p.id) ps

-- the ordinal of the first ID that is `id`, counted from `k`
unfoldable pub id_ordinal_from : List ℕ → ℕ → List (List ℕ) → maybe.Option ℕ
unfolding same
id_ordinal_from id k [] = none
id_ordinal_from id k (x ∷ xs) = cond (same id x) (some k) (id_ordinal_from id (k + 1) xs)

-- the program with an ordinal, if there is one
unfoldable pub named_of : maybe.Option ℕ → Option ProgramNo
named_of none = None
named_of (some k) = Some (record { 0 = k })
