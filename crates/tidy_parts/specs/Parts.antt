-- The parts of a record's line that the text does not have as they are.
use Rattle.std.specs.Prelude.{List, [], ◌∷◌, ◌++◌, ℕ}
use Rattle.format.specs.Decimal.{written}
use Rattle.format.specs.declared.Version.{Version}
use Rattle.format.specs.declared.Kind.{Kind}
use Rattle.accepted.specs.Spelled.{kind₀, kind₁}

-- `@` and the two kind bytes
unfoldable pub prefix_text : Kind → List ℕ
unfolding kind₀ kind₁
prefix_text k = 64 ∷ kind₀ k ∷ kind₁ k ∷ []

-- two numbers and a dot
unfoldable pub version_text : Version → List ℕ
unfolding written
version_text v = written v.major ++ (46 ∷ written v.minor)
