-- What `names` answers for a name that is found and for one that is not.
use Rattle.std.specs.Prelude.{ℕ}
use Rattle.format.specs.Calls.{Answer, refused, yes}
use Rattle.format.specs.NameIndex.{absent}

-- the ordinal in the answer, or 4,294,967,295
unfoldable pub or_absent : Answer ℕ → ℕ
unfolding absent
or_absent (refused n l) = absent
or_absent (yes i) = i
