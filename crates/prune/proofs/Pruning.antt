-- What pruning answers over a catalogue that is the text's own, refusal by refusal.
use Prim.Native.Nat.{ℕ, zero, suc, ◌≤◌}
use mathlib.Core.Path.{◌≡◌, refl, sym, ap, ◌∙◌}
use mathlib.Core.Bool.{Bool, true, false, cond}
use mathlib.Core.List.{List}
use native.Mathlib.Omega.{arith}
use lib.ListN.{length, length-map}
use lib.Dec.{leb}
use Rattle.format.specs.Bytes.{any}
use Rattle.format.specs.Records.{Record}
use Rattle.format.specs.Reading.{of_kind}
use Rattle.format.specs.Programs.{programs, program_of, links, tangled}
use Rattle.format.specs.Tidy.{tidy, unwritable}
use Rattle.format.specs.Calls.{Answer, refused, then, fresh, untangled, writing}
use Rattle.accepted.specs.Read.{records_of}
use Rattle.read.proofs.Fresh.{Current, goes_on, stops}
use Rattle.format.specs.Prune.{is_needed, pruned, pruning}
use Rattle.prune_marks.specs.Marks.{needed_marks}
use Rattle.prune_marks.proofs.Marked.{marks-at}
use Rattle.tidy_text.specs.Sifted.{is_marked, sifted}
use Rattle.tidy.specs.Written.{writing_marked}
use Rattle.prune.proofs.Chosen.{chosen-same, sifted-tidy}

-- ---- the text

module _ (rs : List Record) (us : List ℕ) (few : length (programs rs) ≤ 1024) (marks : List Bool) (is : marks ≡ needed_marks (links (programs rs)) us) where
  many : length (programs rs) ≡ length (of_kind 4 rs)
  unfolding programs
  many = length-map (of_kind 4 rs) program_of

  pub marked-text : tidy (sifted (is_marked marks) 0 rs) ≡ tidy (pruned us rs)
  unfolding is_marked
  marked-text =
      sifted-tidy (is_marked marks) rs us (chosen-same (is_marked marks) (is_needed (links (programs rs)) us) 0 (of_kind 4 rs)
      (λ i a b. ap (λ m. is_marked m i) is ∙ marks-at (links (programs rs)) us i true (omega (arith, few, many))))

-- ---- the answer

abbrev ending : List ℕ → ℕ → List Record → Answer (List ℕ)
ending us room rs = writing room (unwritable 0 rs) (tidy (pruned us rs))

abbrev going : List ℕ → ℕ → List Record → Answer (List ℕ)
going us room rs = cond (any (leb (length (links (programs rs)))) us) (refused 25 0) (then (untangled rs (tangled (links (programs rs)))) (ending us room))

-- a refusal of the check
pub prune-refused : (t c us : List ℕ) (room n l : ℕ) → fresh t c ≡ refused n l → pruning t c us room ≡ refused n l
unfolding pruning
prune-refused t c us room n l e = stops t c (going us room) n l e

module _ (t c us : List ℕ) (room : ℕ) (k : Current t c) where
  abbrev rs : List Record
  rs = records_of t

  pruning-is : pruning t c us room ≡ going us room rs
  unfolding pruning
  pruning-is = goes_on t c (going us room) k

  pub prune-high : any (leb (length (links (programs rs)))) us ≡ true → pruning t c us room ≡ refused 25 0
  prune-high e = pruning-is ∙ ap (λ b. cond b (refused 25 0) (then (untangled rs (tangled (links (programs rs)))) (ending us room))) e

  module _ (low : any (leb (length (links (programs rs)))) us ≡ false) where
    lowly : (n : ℕ) → tangled (links (programs rs)) ≡ n → pruning t c us room ≡ then (untangled rs n) (ending us room)
    lowly n e = pruning-is ∙ ap (λ b. cond b (refused 25 0) (then (untangled rs (tangled (links (programs rs)))) (ending us room))) low ∙ ap (λ n. then (untangled rs n) (ending us room)) e

    -- 22 or 23
    pub prune-tangled : (n : ℕ) → n ≡ tangled (links (programs rs)) → (n ≡ 0 → ⊥) → pruning t c us room ≡ refused n 0
    unfolding then untangled
    prune-tangled zero e z = absurd (z refl)
    prune-tangled (suc n) e z = lowly (suc n) (sym e)

    pub prune-on : tangled (links (programs rs)) ≡ 0 → length (programs rs) ≤ 1024 → (marks : List Bool) → marks ≡ needed_marks (links (programs rs)) us → pruning t c us room ≡ writing_marked t marks room
    unfolding then untangled
    prune-on z few marks is = lowly 0 z ∙ ap (writing room (unwritable 0 rs)) (sym (marked-text rs us few marks is))
