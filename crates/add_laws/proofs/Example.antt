-- Document 01's chains: what adding writes, and the links before and after.
use Prim.Native.Nat.{ℕ}
use mathlib.Core.Path.{◌≡◌, refl}
use mathlib.Core.List.{List, [], ◌∷◌}
use Rattle.format.specs.Programs.{root, child, leaves}
use Rattle.format.specs.Catalogue.{catalogue}
use Rattle.format.specs.Calls.{yes, adding}
use Rattle.accepted.specs.Read.{records_of}
use Rattle.format.proofs.Ascii.{ascii}
use Rattle.add_laws.specs.Grown.{links_in}

unfoldable old : List ℕ
unfolding ascii
old = ascii "@PG\tID:pg0\n@PG\tID:pg1\tPP:pg0\n@PG\tID:pg2\tPP:pg1\n@PG\tID:pg3\n"

unfoldable new : List ℕ
unfolding ascii
new = ascii "@PG\tID:pg0\n@PG\tID:pg1\tPP:pg0\n@PG\tID:pg2\tPP:pg1\n@PG\tID:pg3\n@PG\tID:x\tPP:pg3\n@PG\tID:x-pg2\tPP:pg2\n"

example-added : adding old (catalogue (records_of old)) (ascii "x") [] 1000 ≡ yes new
unfolding ascii old new adding catalogue records_of
example-added = refl

example-before : links_in old ≡ root ∷ child 0 ∷ child 1 ∷ root ∷ []
unfolding ascii old links_in
example-before = refl

example-after : links_in new ≡ root ∷ child 0 ∷ child 1 ∷ root ∷ child 3 ∷ child 2 ∷ []
unfolding ascii new links_in
example-after = refl

example-leaves : leaves (links_in new) ≡ 5 ∷ 4 ∷ []
unfolding ascii new links_in leaves
example-leaves = refl

-- ---- with a PP that names the program above the only leaf, that leaf stays one

unfoldable chain : List ℕ
unfolding ascii
chain = ascii "@PG\tID:a\n@PG\tID:b\tPP:a\n"

unfoldable branched : List ℕ
unfolding ascii
branched = ascii "@PG\tID:a\n@PG\tID:b\tPP:a\n@PG\tID:x\tPP:a\n"

example-given : adding chain (catalogue (records_of chain)) (ascii "x") (ascii "\tPP:a") 1000 ≡ yes branched
unfolding ascii chain branched adding catalogue records_of
example-given = refl

example-two-leaves : leaves (links_in branched) ≡ 2 ∷ 1 ∷ []
unfolding ascii branched links_in leaves
example-two-leaves = refl
