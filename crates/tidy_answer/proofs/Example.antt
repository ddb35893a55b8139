-- What the program writes, computed: document 01's example, a refusal by reading, and one by writing.
use mathlib.Core.Path.{◌≡◌, refl}
use Rattle.tidy_laws.proofs.Example.{given}
use Rattle.format.proofs.Ascii.{ascii}
use Rattle.format.specs.Program.{program}

pub example-tidy : program given ≡ ascii "@HD\tVN:1.6\tSO:unsorted\n@SQ\tSN:s1\tLN:8\n@PG\tID:a\n@CO\tx\n"
unfolding ascii given program
example-tidy = refl

pub example-refused : program (ascii "@CO\tx\n@HD\tVN:1.6") ≡ ascii "refused 17 line 1\n"
unfolding ascii program
example-refused = refl

pub example-unwritable : program (ascii "@SQ\tSN:*\tLN:1") ≡ ascii "refused 24 line 0\n"
unfolding ascii program
example-unwritable = refl
