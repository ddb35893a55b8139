-- What taking apart, judging and comparing say of the answer.
use Prim.Native.Nat.{ℕ}
use mathlib.Core.Path.{◌≡◌, refl}
use mathlib.Core.Bool.{true, false}
use mathlib.Core.List.{List}
use lib.ListN.{take, drop}
use Rattle.format.specs.Reading.{refused_text, accept, read_text}
use Rattle.format.specs.Calls.{refused, then, read_answer, records}
use Rattle.accepted.specs.Read.{records_of}
use Rattle.tidy.specs.Written.{writing_tidy}
use Rattle.format.specs.References.{sq_list, same_references}
use Rattle.format.specs.Binary.{take_list, binary_parts, unpadded, well_formed, listed_alike, binary_in}
use Rattle.binary_parts.specs.declared.PartsAt.{PartsAt}
use Rattle.binary_parts.specs.Parts.{listed, parts_from}
use Rattle.std.specs.Prelude.{None, Some}

module _ (s : List ℕ) (room : ℕ) where
  -- 28
  pub in-none : binary_parts s ≡ parts_from s None → binary_in s room ≡ refused 28 0
  unfolding binary_in then well_formed parts_from
  in-none e = rw e refl

  module _ (p : PartsAt) (e : binary_parts s ≡ parts_from s (Some p)) (t : List ℕ) (u : t ≡ unpadded (take p.len (drop p.text s))) where
    -- reading's
    pub in-refused : (n l : ℕ) → read_text t ≡ refused_text n l → binary_in s room ≡ refused n l
    unfolding binary_in then well_formed parts_from records read_answer
    in-refused n l q = rw (e, ← u, q) refl

    module _ (a : read_text t ≡ accept (records_of t)) where
      -- 29
      pub in-other : same_references (listed (take_list p.count (drop p.list s))) (sq_list (records_of t)) ≡ false → binary_in s room ≡ refused 29 0
      unfolding binary_in then well_formed parts_from records read_answer listed_alike
      in-other d = rw (e, ← u, a, d) refl

      -- 24, 1, 20, or the tidy text
      pub in-same : same_references (listed (take_list p.count (drop p.list s))) (sq_list (records_of t)) ≡ true → binary_in s room ≡ writing_tidy t room
      unfolding binary_in then well_formed parts_from records read_answer listed_alike
      in-same d = rw (e, ← u, a, d) refl
