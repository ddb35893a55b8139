-- How far a name that can be written goes.
use Rattle.std.specs.Prelude.{ℕ, suc, cond, List, [], ◌∷◌}
use Rattle.format.specs.Tidy.{name_first, name_later}

-- how many bytes at the front may come later in a name
unfoldable pub later_run : List ℕ → ℕ
unfolding name_later
later_run [] = 0
later_run (b ∷ s) = cond (name_later b) (suc (later_run s)) 0

-- how many make a name: 0 if the first can't start one
unfoldable pub name_run : List ℕ → ℕ
unfolding name_first later_run
name_run [] = 0
name_run (b ∷ s) = cond (name_first b) (suc (later_run s)) 0
