-- What roots and leaves answer over a catalogue that is the text's own, by the links of its programs.
use Prim.Native.Nat.{ℕ, zero, suc}
use mathlib.Core.Path.{◌≡◌, refl, sym, ap, ◌∙◌}
use mathlib.Core.List.{List}
use Rattle.std.specs.Prelude.{Err}
use Rattle.format.specs.Records.{Record}
use Rattle.format.specs.Programs.{Program, programs, links, roots, leaves, hops, tangled}
use Rattle.format.specs.Calls.{Answer, refused, yes, then, fitting, untangled, fresh, rooting, leafing}
use Rattle.format.specs.declared.Refusal.{Refusal}
use Rattle.accepted.specs.Read.{records_of}
use Rattle.read.specs.Answers.{answer_of, output_of}
use Rattle.read.proofs.AnswerCases.{refused-answer}
use Rattle.programs.specs.Answers.{leaves_answer_of, list_of, with_hops}
use Rattle.read.proofs.Fresh.{Current, goes_on, stops}

-- ---- a refusal of the check

module _ (t c : List ℕ) (n l : ℕ) (e : fresh t c ≡ refused n l) (room : ℕ) where
  pub roots-refused : rooting t c room ≡ refused n l
  unfolding rooting
  roots-refused = stops t c (λ rs. fitting room (roots (links (programs rs)))) n l e

  pub leaves-refused : leafing t c room ≡ refused n l
  unfolding leafing
  leaves-refused = stops t c (λ rs. then (untangled rs (tangled (links (programs rs)))) (λ rs. then (fitting room (leaves (links (programs rs)))) (λ xs. yes (xs, hops (links (programs rs)))))) n l e

-- ---- over the text's own catalogue

module _ (t c : List ℕ) (own : Current t c) where
  abbrev rs : List Record
  rs = records_of t

  abbrev ps : List Program
  ps = programs rs

  pub rooted : (room : ℕ) → rooting t c room ≡ fitting room (roots (links ps))
  unfolding rooting
  rooted room = goes_on t c (λ rs. fitting room (roots (links (programs rs)))) own

  -- ---- leaves

  module _ (room : ℕ) where
    leaved : (n : ℕ) → tangled (links ps) ≡ n → leafing t c room ≡ then (untangled rs n) (λ rs. then (fitting room (leaves (links (programs rs)))) (λ xs. yes (xs, hops (links (programs rs)))))
    unfolding leafing
    leaved n e =
        goes_on t c (λ rs. then (untangled rs (tangled (links (programs rs)))) (λ rs. then (fitting room (leaves (links (programs rs)))) (λ xs. yes (xs, hops (links (programs rs)))))) own
        ∙ ap (λ n. then (untangled rs n) (λ rs. then (fitting room (leaves (links (programs rs)))) (λ xs. yes (xs, hops (links (programs rs)))))) e

    -- 22 or 23
    pub leaves-tangled : (n : ℕ) → n ≡ tangled (links ps) → (n ≡ 0 → ⊥) → leafing t c room ≡ refused n 0
    unfolding untangled then
    leaves-tangled zero e z = absurd (z refl)
    leaves-tangled (suc n) e z = leaved (suc n) (sym e)

    -- where nothing is tangled
    pub leaves-own : tangled (links ps) ≡ 0 → leafing t c room ≡ then (fitting room (leaves (links ps))) (λ xs. yes (xs, hops (links ps)))
    unfolding untangled then
    leaves-own e = leaved 0 e

-- ---- the answer of leaves in the code's numbers

module _ (a : Answer (List ℕ × ℕ)) (out : List ℕ) where
  pub refused-leaves : (r : Refusal) → a ≡ refused r.number r.line.0 → (Err r ≡ leaves_answer_of a) × (out ≡ output_of (list_of a) out)
  unfolding leaves_answer_of list_of
  refused-leaves r e = (sym (ap leaves_answer_of e), (refused-answer (list_of a) out r (ap list_of e)).1)

module _ (h : ℕ) where
  hops-told : (a : Answer (List ℕ)) → with_hops (answer_of a) h ≡ leaves_answer_of (then a (λ xs. yes (xs, h)))
  unfolding with_hops answer_of leaves_answer_of then
  hops-told (refused n l) = refl
  hops-told (yes xs) = refl

  list-told : (a : Answer (List ℕ)) → a ≡ list_of (then a (λ xs. yes (xs, h)))
  unfolding list_of then
  list-told (refused n l) = refl
  list-told (yes xs) = refl

  -- what is fitted into the output is the list of the answer with the hops
  pub written-leaves : (a : Answer (List ℕ × ℕ)) (room : ℕ) (xs out : List ℕ) → a ≡ then (fitting room xs) (λ xs. yes (xs, h))
      → (with_hops (answer_of (fitting room xs)) h ≡ leaves_answer_of a) × (output_of (fitting room xs) out ≡ output_of (list_of a) out)
  written-leaves a room xs out e = (
    hops-told (fitting room xs) ∙ ap leaves_answer_of (sym e),
    ap (λ b. output_of b out) (list-told (fitting room xs) ∙ ap list_of (sym e)),
  )
