-- The fields of an accepted line other than its keys, as the tidy text has them.
use Rattle.std.specs.Prelude.{ℕ, List, []}
use Rattle.format.specs.Tidy.{fields_text}
use Rattle.format.specs.declared.Kind.{Kind}
use Rattle.record_tags.specs.Others.{firsts}
use Rattle.accepted_line.specs.Run.{fields_from}

-- the other fields of the accepted line `s` at the offset `at`
unfoldable pub others_text : Kind → ℕ → List ℕ → List ℕ
unfolding fields_text firsts
others_text k at s = fields_text (firsts k [] (fields_from at s 3))
