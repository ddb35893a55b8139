-- The line of a new program. Its ID is the prefix, by itself or with `-` and the ID of a leaf; then come the fields as they are given; then a PP with
-- the ID of the leaf, if none is given.
use Rattle.std.specs.Prelude.{ℕ, Bool, cond, List, [], ◌∷◌, ◌++◌}
use Rattle.format.specs.Tidy.{field_text}
use Rattle.format.specs.declared.Kind.TheVariants.{Program}
use Rattle.tidy_parts.specs.Parts.{prefix_text}

-- what follows the prefix in an ID
unfoldable pub joining : Bool → List ℕ → List ℕ
joining alone id = cond alone [] (45 ∷ id)

-- PP with the leaf's ID
unfoldable pub linking : Bool → List ℕ → List ℕ
unfolding field_text
linking linked id = cond linked (field_text 80 80 id) []

-- what follows the ID
unfoldable pub ending : Bool → List ℕ → List ℕ → List ℕ
unfolding linking
ending linked fields id = fields ++ linking linked id ++ (10 ∷ [])

unfoldable pub new_line : Bool → Bool → List ℕ → List ℕ → List ℕ → List ℕ
unfolding prefix_text joining ending
new_line alone linked prefix fields id = prefix_text Program ++ (9 ∷ 73 ∷ 68 ∷ 58 ∷ []) ++ prefix ++ joining alone id ++ ending linked fields id
