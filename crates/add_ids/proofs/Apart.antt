-- The IDs of an accepted text's programs: no two are equal.
use Prim.Native.Nat.{ℕ, ◌<◌}
use mathlib.Core.Path.{◌≡◌, refl, ◌∙◌}
use mathlib.Core.Bool.{true, false}
use mathlib.Core.List.{List, []}
use native.Mathlib.Omega.{arith}
use lib.ListN.{length, get_or, length-map}
use lib.Dec.{eqb, ltb}
use borrow.Author.Tests.{ltb-true, ltb-false}
use Rattle.format.specs.Bytes.{same}
use Rattle.format.specs.Lines.{Piece}
use Rattle.format.specs.Fields.{Field}
use Rattle.format.specs.Records.{Record, header, reference, group, program, comment, code, key}
use Rattle.format.specs.Reading.{read_text, accept, clash, same_keys, of_kind}
use Rattle.format.specs.Programs.{bytes_of, program_of, programs}
use Rattle.format.specs.Adding.{no_program, unplaced}
use Rattle.accepted.specs.Admits.{KeysDiffer}
use Rattle.lists.proofs.Bools.{never, split}
use Rattle.lists.proofs.Pairs.{each_at}
use Rattle.accepted.proofs.OfKind.{of_kind-code, apart-of_kind}
use Rattle.accepted.proofs.Apart.{clash-sym, apart-at}
use Rattle.accepted.proofs.Text.{text-apart}
use Rattle.program_chains.proofs.Walks.{map_at}

-- ---- two programs

-- of two programs, equal IDs are what clashes
id-clash : (r q : Record) → eqb (code r) 4 ≡ true → eqb (code q) 4 ≡ true → same (program_of r).id (program_of q).id ≡ clash r q
unfolding code
id-clash r q h g = is r h (λ p fs e. is q g (λ p' fs' e'. rw (e, e') (two p p' fs fs')))
  where
    is : {C : Type 0} (r : Record) → eqb (code r) 4 ≡ true → ((p : Piece) (fs : List Field) → r ≡ program p fs → C) → C
    is (header v fs) h f = absurd (never (cc))
    is (reference p n fs) h f = absurd (never (cc))
    is (group p fs) h f = absurd (never (cc))
    is (program p fs) h f = f p fs refl
    is (comment p) h f = absurd (never (cc))

    two : (p p' : Piece) (fs fs' : List Field) → same (program_of (program p fs)).id (program_of (program p' fs')).id ≡ clash (program p fs) (program p' fs')
    two p p' fs fs' = unfold program_of bytes_of key clash same_keys code in refl

-- ---- an accepted text

module _ (t : List ℕ) (rs : List Record) (h : read_text t ≡ accept rs) where
  -- no two programs have one ID
  pub ids-apart : (j k : ℕ) → j < length (programs rs) → k < length (programs rs) → (j ≡ k → ⊥)
      → same (get_or (programs rs) j no_program).id (get_or (programs rs) k no_program).id ≡ false
  unfolding programs
  ids-apart j k l m n = rw (map_at program_of qs j d no_program lj, map_at program_of qs k d no_program lk) (id-clash (get_or qs j d) (get_or qs k d) (of j lj) (of k lk) ∙ clashes)
    where
      qs : List Record
      qs = of_kind 4 rs

      d : Record
      d = comment (unplaced [])

      lj : j < length qs
      lj = rw (length-map qs program_of) at l

      lk : k < length qs
      lk = rw (length-map qs program_of) at m

      of : (i : ℕ) → i < length qs → eqb (code (get_or qs i d)) 4 ≡ true
      of i b = each_at (λ r. eqb (code r) 4 ≡ true) qs i d (of_kind-code 4 rs) b

      apart : KeysDiffer qs
      apart = apart-of_kind 4 rs (text-apart t rs h)

      clashes : clash (get_or qs j d) (get_or qs k d) ≡ false
      clashes =
          split (ltb j k) (λ q. apart-at qs j k d apart (ltb-true j k q) lk)
          (λ q. clash-sym (get_or qs j d) (get_or qs k d) ∙ apart-at qs k j d apart (omega (arith, ltb-false j k q, n)) lj)
