-- Binary in tidies the text where the lists agree.
use Prim.Native.Nat.{ℕ}
use mathlib.Core.Path.{◌≡◌, refl, sym, ap, ◌∙◌}
use mathlib.Core.Bool.{true, ◌&&◌}
use mathlib.Core.List.{List, [], ◌∷◌}
use borrow.Author.Tests.{eq-eqb}
use Rattle.format.specs.Records.{Record}
use Rattle.format.specs.Reading.{Reading, refused_text, accept, read_text}
use Rattle.format.specs.Tidy.{tidy, unwritable}
use Rattle.format.specs.References.{Reference, sq_list, same_reference, same_references}
use Rattle.format.specs.Calls.{then, read_answer, records, writing, tidying}
use Rattle.byte_slices.proofs.Equal.{same_self}
use Rattle.format.specs.Binary.{unpadded, well_formed, listed_alike, binary_in}
use Rattle.binary_laws.specs.Exact.{Agrees, BinaryIsTakenApart, InIsTidying}
use Rattle.binary_laws.proofs.Apart.{binary-is-taken-apart}

same-list : (rs : List Reference) → same_references rs rs ≡ true
unfolding same_references same_reference
same-list [] = refl
same-list (r ∷ rs) = rw (same_self r.name, eq-eqb r.size r.size refl, same-list rs) refl

-- after the parts
alike : (list : List Reference) (room : ℕ) (r : Reading) → ((rs : List Record) → r ≡ accept rs → sq_list rs ≡ list)
    → then (read_answer r) (λ rs. then (listed_alike list rs) (λ rs. writing room (unwritable 0 rs) (tidy rs))) ≡ then (read_answer r) (λ rs. writing room (unwritable 0 rs) (tidy rs))
unfolding then read_answer listed_alike
alike list room (refused_text n l) h = refl
alike list room (accept rs) h = rw (h rs refl, same-list list) refl

pub in-is-tidying : InIsTidying
unfolding InIsTidying Agrees BinaryIsTakenApart binary_in tidying then well_formed records
in-is-tidying s t list room b h = rw (binary-is-taken-apart s t list b) (alike list room (read_text (unpadded t)) h)
