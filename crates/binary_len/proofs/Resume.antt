-- Going on with more bytes.
use Prim.Native.Nat.{ℕ, ◌+◌, ◌-◌, ◌≤◌, ◌<◌}
use mathlib.Core.Path.{◌≡◌, refl, sym, ap, ◌∙◌}
use mathlib.Core.Bool.{true, false}
use mathlib.Core.List.{List, ◌++◌}
use native.Mathlib.Omega.{arith}
use lib.ListN.{length}
use Rattle.std.specs.Prelude.{Result, Ok, Err}
use Rattle.format.specs.Bytes.{starts}
use Rattle.format.specs.Binary.{magic}
use Rattle.binary_len.specs.BinaryLen.{BinaryLen}
use Rattle.binary_len.specs.declared.Len.TheVariants as len
use Rattle.binary_len.specs.BinaryLen.{onward, number_at, reference_at, references_at, binary_len}
use Rattle.binary_len.proofs.PartByPart.{part-there, part_cut, references-on, list_at}
use Rattle.binary_len.proofs.Grown.{Grown, starts_more, number_same, grown-reference, longer}
use Rattle.binary_len.specs.declared.Cursor.{Cursor}
use Rattle.binary_len.specs.declared.Step.{Step}
use Rattle.binary_len.specs.declared.Step.TheVariants.{Whole, More}
use Rattle.binary_len.specs.Step.{len_from, Resumes}

-- a reference that is there stays
reference-longer : (s rest : List ℕ) (at n : ℕ) → reference_at s at ≡ Ok (len.Whole n) → reference_at (s ++ rest) at ≡ Ok (len.Whole n)
unfolding Grown
reference-longer s rest at n e = rw e at (grown-reference s rest at)

-- and is passed in the longer bytes too
pub passed-longer : (s : List ℕ) (at left n : ℕ) → 0 < left → reference_at s at ≡ Ok (len.Whole n)
    → (rest : List ℕ) → references_at (s ++ rest) at left ≡ references_at (s ++ rest) n (left - 1)
unfolding onward
passed-longer s at left n h e rest = references-on (s ++ rest) at left h ∙ rw (reference-longer s rest at n e) refl

module _ (c : Cursor) (s : List ℕ) where
  pub from_start : c.begun ≡ false → len_from c s ≡ binary_len s
  unfolding len_from
  from_start e = rw e refl

  pub from_cut : c.begun ≡ true → length s < c.at → len_from c s ≡ Ok (len.More c.at)
  unfolding len_from onward
  from_cut e h = rw (e, part_cut s c.at h) refl

  pub from_at : c.begun ≡ true → c.at ≤ length s → len_from c s ≡ references_at s c.at c.left
  unfolding len_from onward
  from_at e h = rw (e, part-there s c.at h) refl

-- the cursor that is handed out
pub from-here : (at left : ℕ) (s rest : List ℕ) → at ≤ length s
    → len_from (record { begun = true; at = at; left = left }) (s ++ rest) ≡ references_at (s ++ rest) at left
from-here at left s rest h = from_at (record { begun = true; at = at; left = left }) (s ++ rest) refl (omega (arith, longer s rest))

-- the references after the count, in longer bytes
pub list-longer : (s : List ℕ) (n : ℕ) → starts magic s ≡ true → n ≡ number_at s 4 → 8 + n + 4 ≤ length s
    → (rest : List ℕ) → binary_len (s ++ rest) ≡ references_at (s ++ rest) (8 + n + 4) (number_at s (8 + n))
list-longer s n t e h rest =
    list_at (s ++ rest) (starts_more magic s rest t) (omega (arith, longer s rest)) n (e ∙ sym (number_same s rest 4 (omega arith))) (omega (arith, longer s rest))
    (omega (arith, longer s rest))
    ∙ ap (references_at (s ++ rest) (8 + n + 4)) (number_same s rest (8 + n) h)

-- an answer goes on as another that is equal on longer bytes
pub resumes-as : (s : List ℕ) (r : Result Step ℕ) (f g : List ℕ → BinaryLen) → ((rest : List ℕ) → f (s ++ rest) ≡ g (s ++ rest)) → Resumes s r f → Resumes s r g
unfolding Resumes
resumes-as s (Ok (Whole n)) f g h k = tt
resumes-as s (Ok (More n c)) f g h k = λ rest. k rest ∙ h rest
resumes-as s (Err n) f g h k = tt
