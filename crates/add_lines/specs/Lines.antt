-- The lines of the new programs, one after each leaf. Only the first ID may be the prefix by itself.
use Rattle.std.specs.Prelude.{ℕ, Bool, true, false, cond, List, [], ◌∷◌, ◌++◌}
use Rattle.program_ids.specs.Ids.{ids_at}
use Rattle.add_ids.specs.Taken.{id_in}
use Rattle.add_lines.specs.declared.Shape.{Shape}
use Rattle.add_lines.specs.Line.{new_line}

unfoldable pub new_lines : List (List ℕ) → Bool → Bool → List ℕ → List ℕ → List ℕ → List ℕ
unfolding new_line id_in
new_lines ids alone linked prefix fields [] = []
new_lines ids alone linked prefix fields (k ∷ ks) = new_line alone linked prefix fields (id_in ids k) ++ new_lines ids false linked prefix fields ks

-- all of them: if there are no programs, one is added, whose ID is the prefix and which gets no PP
unfoldable pub added_text : List (List ℕ) → Bool → Bool → Bool → List ℕ → List ℕ → List ℕ → List ℕ
unfolding new_line new_lines
added_text ids empty alone linked prefix fields ks = cond empty (new_line true false prefix fields []) (new_lines ids alone linked prefix fields ks)

-- the same, by the list of the IDs in the text `t`
abbrev pub new_text : List ℕ → List ℕ → Shape → List ℕ → List ℕ → List ℕ → List ℕ
new_text t ids shape prefix fields ks = added_text (ids_at t ids) shape.empty shape.alone shape.linked prefix fields ks
