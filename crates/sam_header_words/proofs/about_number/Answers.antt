-- `sam_header_words::about_number` meets its contract. Assumes nothing.
use mathlib.Core.Path.{sym, ap}
use Rattle.sam_header_words.specs.Words.{about_number}
use Rattle.sam_header_words.proofs.about_number.Goals as goal

pub returns-in-A : goal.returns-in-A
unfolding about_number
returns-in-A c = sym (ap about_number c.in-A.is)

pub returns-in-B : goal.returns-in-B
unfolding about_number
returns-in-B c = sym (ap about_number c.in-B.is)

pub returns-in-Merged : goal.returns-in-Merged
unfolding about_number
returns-in-Merged c = sym (ap about_number c.in-Merged.is)
