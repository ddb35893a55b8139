-- A chain of three and a program by itself: what pruning writes for some of them, for none, and for one that is not there.
use Prim.Native.Nat.{ℕ}
use mathlib.Core.Path.{◌≡◌, refl}
use mathlib.Core.List.{List, [], ◌∷◌}
use Rattle.format.specs.Catalogue.{catalogue}
use Rattle.format.specs.Calls.{refused, yes}
use Rattle.accepted.specs.Read.{records_of}
use Rattle.format.proofs.Ascii.{ascii}
use Rattle.format.specs.Prune.{pruning}

-- not tidy: the comment comes first, a child before its parent
unfoldable old : List ℕ
unfolding ascii
old = ascii "@CO\tx\n@PG\tPP:b\tID:c\n@PG\tID:d\n@PG\tID:b\tPP:a\n@PG\tID:a\n"

-- by `b`, twice: its ancestor `a` stays too
unfoldable new : List ℕ
unfolding ascii
new = ascii "@PG\tID:b\tPP:a\n@PG\tID:a\n@CO\tx\n"

example-middle : pruning old (catalogue (records_of old)) (2 ∷ 2 ∷ []) 1000 ≡ yes new
unfolding ascii old new pruning catalogue records_of
example-middle = refl

-- the same programs have other ordinals now
example-again : pruning new (catalogue (records_of new)) (0 ∷ 0 ∷ []) 29 ≡ yes new
unfolding ascii new pruning catalogue records_of
example-again = refl

example-none : pruning old (catalogue (records_of old)) [] 1000 ≡ yes (ascii "@CO\tx\n")
unfolding ascii old pruning catalogue records_of
example-none = refl

example-high : pruning old (catalogue (records_of old)) (0 ∷ 4 ∷ []) 1000 ≡ refused 25 0
unfolding ascii old pruning catalogue records_of
example-high = refl
