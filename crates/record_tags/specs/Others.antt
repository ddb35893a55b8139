-- The other fields of a record, in their order in the line: each tag at its first place, with its last value.
use Rattle.std.specs.Prelude.{◌||◌, cond, List, [], ◌∷◌, ◌++◌}
use Rattle.std.proofs.Math.Option.{Option, none, some}
use Rattle.format.specs.Bytes.{any}
use Rattle.format.specs.Lines.{Piece}
use Rattle.format.specs.Fields.{Field, tagged, last_of}
use Rattle.format.specs.declared.Kind.{Kind}
use Rattle.format.specs.Keys.{is_key}

-- the fields that are not keys
unfoldable pub unkeyed : Kind → List Field → List Field
unfolding is_key
unkeyed k [] = []
unkeyed k (f ∷ fs) = cond (is_key k f.tag₀ f.tag₁) (unkeyed k fs) (f ∷ unkeyed k fs)

unfoldable pub or_last : Piece → Option Piece → Piece
or_last p none = p
or_last p (some q) = q

-- a field with the last value of its tag in `fs`, if there is one
unfoldable pub latest : List Field → Field → Field
unfolding or_last last_of
latest fs f = record { tag₀ = f.tag₀; tag₁ = f.tag₁; value = or_last f.value (last_of f.tag₀ f.tag₁ fs) }

-- of the fields after `done`: those that are not keys and whose tag is not in `done`, each with the last value of its tag
unfoldable pub firsts : Kind → List Field → List Field → List Field
unfolding is_key any tagged latest
firsts k done [] = []
firsts k done (f ∷ fs) =
    cond (is_key k f.tag₀ f.tag₁ || any (tagged f.tag₀ f.tag₁) done)
    (firsts k (done ++ (f ∷ [])) fs)
    (latest fs f ∷ firsts k (done ++ (f ∷ [])) fs)
