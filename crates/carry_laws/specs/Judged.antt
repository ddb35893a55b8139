-- Once a line is kept, the rule no longer changes, so each line is judged under one rule.
use Rattle.std.specs.Prelude.{Bool, List, [], ◌∷◌, ◌++◌}
use Rattle.format.specs.Lines.{Piece}
use Rattle.format.specs.Records.{Record, Line}
use Rattle.format.specs.Reading.{admitted}
use Rattle.format.specs.Carrying.{kept_of}

-- each line judged after the records `before`; `strict` forbids repeated tags
unfoldable pub judged_from : Bool → List Record → List Piece → List Line
unfolding admitted kept_of
judged_from strict before [] = []
judged_from strict before (p ∷ ps) =
    let l : Line = admitted strict before p in
    l ∷ judged_from strict (before ++ kept_of (l ∷ [])) ps
