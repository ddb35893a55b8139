-- Whether a text that has been measured can be written.
use Rattle.std.specs.Prelude.{ℕ, ◌+◌, cond, ltb}
use Rattle.format.specs.Reading.{longest}

-- the refusal of a text of `n` bytes that is written with `besides` others to an output of `room` bytes: 1, then 20; or 0
unfoldable pub unfit : ℕ → ℕ → ℕ → ℕ
unfolding longest
unfit n besides room = cond (ltb longest n) 1 (cond (ltb room (n + besides)) 20 0)
