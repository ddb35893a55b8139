-- A text that reading accepts: carrying on is tidying, no line is listed, and the table stays as it is.
use Prim.Native.Nat.{ℕ}
use mathlib.Core.Path.{◌≡◌, refl, ap, ◌∙◌}
use mathlib.Core.Bool.{true}
use mathlib.Core.List.{List, []}
use native.Mathlib.Omega.{arith}
use lib.ListN.{length}
use Rattle.format.specs.Reading.{read_text}
use Rattle.format.specs.Calls.{Answer, refused, yes, then}
use Rattle.format.specs.Carrying.{carrying}
use Rattle.accepted.specs.Read.{is_accepted}
use Rattle.read.specs.Answers.{answer_of, output_of}
use Rattle.tidy.specs.Written.{writing_tidy}
use Rattle.tidy.proofs.Writing.{tidy-accepted}
use Rattle.carry_laws.proofs.Faithful.{accepted-tidies}
use Rattle.carry_on.specs.Answers.{carried_of, text_of, table_of}
use Rattle.std.specs.Prelude.{Result, Ok, Err}
use Rattle.format.specs.declared.Refusal.{Refusal}
use Rattle.carry_on.specs.declared.Written.{Written}

-- what tidying writes, with an empty table
unfoldable pub unlisted : Answer (List ℕ) → Answer (List ℕ × List ℕ)
unlisted a = then a (λ out. yes (out, []))

-- what a call leaves: its answer, the output and the table
unfoldable pub Leaves : Answer (List ℕ × List ℕ) → List ℕ → List ℕ → Result Written Refusal → List ℕ → Type 0
Leaves a out table r out' = (r ≡ carried_of a) × ((out' ≡ output_of (text_of a) out) × (table ≡ output_of (table_of a) table))

module _ (out table out' : List ℕ) where
  refused-leaves : (w : Answer (List ℕ)) (r : Refusal) → Err r ≡ answer_of w → out' ≡ output_of w out → Leaves (unlisted w) out table (Err r) out'
  unfolding answer_of output_of carried_of text_of table_of then unlisted Leaves
  refused-leaves (refused m k) r e o =
      let x : ◌≡◌ {A = Refusal} r (record { number = m; line = record { 0 = k } }) = cc in
      (rw x refl, (o, refl))
  refused-leaves (yes xs) r e o = absurd (let z : ◌≡◌ {A = ℕ} 0 1 = cc in omega arith)

  written-leaves : (w : Answer (List ℕ)) (n : ℕ) → Ok n ≡ answer_of w → out' ≡ output_of w out → Leaves (unlisted w) out table (Ok (record { size = n; skipped = 0 })) out'
  unfolding answer_of output_of carried_of text_of table_of then unlisted Leaves
  written-leaves (refused m k) n e o = absurd (let z : ◌≡◌ {A = ℕ} 0 1 = cc in omega arith)
  written-leaves (yes xs) n e o =
      let x : n ≡ length xs = cc in
      (rw x refl, (o, refl))

module _ (t out table out' : List ℕ) (a : is_accepted (read_text t) ≡ true) where
  tidied : carrying t (length out) (length table) ≡ unlisted (writing_tidy t (length out))
  unfolding unlisted
  tidied = accepted-tidies t (length out) (length table) a ∙ ap (λ w. then w (λ o. yes (o, []))) (tidy-accepted t (length out) a)

  pub refused-accepted : (r : Refusal) → Err r ≡ answer_of (writing_tidy t (length out)) → out' ≡ output_of (writing_tidy t (length out)) out
      → Leaves (carrying t (length out) (length table)) out table (Err r) out'
  refused-accepted r e o = rw tidied (refused-leaves out table out' (writing_tidy t (length out)) r e o)

  pub written-accepted : (n : ℕ) → Ok n ≡ answer_of (writing_tidy t (length out)) → out' ≡ output_of (writing_tidy t (length out)) out
      → Leaves (carrying t (length out) (length table)) out table (Ok (record { size = n; skipped = 0 })) out'
  written-accepted n e o = rw tidied (written-leaves out table out' (writing_tidy t (length out)) n e o)
