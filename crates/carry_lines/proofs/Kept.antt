-- The cursor after a line and at the beginning of a block, for each outcome of the tests.
use Prim.Native.Nat.{ℕ, zero, suc, ◌+◌, ◌*◌, ◌/◌}
use mathlib.Core.Path.{◌≡◌, refl, ap, ◌∙◌}
use mathlib.Core.Bool.{Bool, true, cond}
use mathlib.Core.List.{List, [], ◌∷◌}
use native.Mathlib.Omega.{arith}
use lib.ListN.{length, drop, replicate, length-replicate}
use borrow.Author.Tests.{eq-eqb, ne_eqb}
use Rattle.format.specs.Lines.{Piece, lines_from}
use Rattle.format.specs.Records.{line}
use Rattle.record.specs.Head.{head_of}
use Rattle.record.specs.declared.Head.{Head}
use Rattle.read_admission.specs.Admission.{programs_of}
use Rattle.key_index.specs.KeySlots.{after_entering, after_pointing}
use Rattle.key_index.proofs.HeldKeys.{entering-length, pointing-length}
use Rattle.carry_keys.specs.Blocks.{keyed_front, after_keyed, earlier, entered, pointed_back, filled_for}
use Rattle.carry_lines.specs.Kept.{until_at, filled_at, advanced}
use Rattle.key_look.specs.declared.Seed.{Seed}
use Rattle.carry_lines.specs.declared.Cursor.{Cursor}

module _ (c : Cursor) (next until : ℕ) (seed : Seed) (x : Head) where
  pub advanced-kept : (n : ℕ) → n ≡ 0 → advanced c next until seed x n ≡ record { at = next; line = c.line + 1; until = until; seed = seed; kept = c.kept + 1; programs = c.programs + programs_of x }
  unfolding advanced
  advanced-kept zero e = refl
  advanced-kept (suc n) e = absurd (omega arith)

  pub advanced-skipped : (n : ℕ) → (n ≡ 0 → ⊥) → advanced c next until seed x n ≡ record { at = next; line = c.line + 1; until = until; seed = seed; kept = c.kept; programs = c.programs }
  unfolding advanced
  advanced-skipped zero h = absurd (h refl)
  advanced-skipped (suc n) h = refl

  -- kept or skipped
  pub advanced-to : (n : ℕ) → ((advanced c next until seed x n).at ≡ next) × ((advanced c next until seed x n).line ≡ c.line + 1) × ((advanced c next until seed x n).seed ≡ seed)
  unfolding advanced
  advanced-to zero = (refl, refl, refl)
  advanced-to (suc n) = (refl, refl, refl)

module _ (strict : Bool) (t : List ℕ) (at until : ℕ) where
  pub until-same : (n : ℕ) → (at ≡ until → ⊥) → until_at strict t n at until ≡ until
  unfolding until_at
  until-same n h = ap (λ b. cond b (after_keyed strict (n / 4 * 3) at t) until) (ne_eqb at until h)

  pub until-next : (n : ℕ) → at ≡ until → until_at strict t n at until ≡ after_keyed strict (n / 4 * 3) at t
  unfolding until_at
  until-next n e = ap (λ b. cond b (after_keyed strict (n / 4 * 3) at t) until) (eq-eqb at until e)

module _ (seed : Seed) (strict : Bool) (t : List ℕ) (at until : ℕ) where
  pub filled-same : (from : ℕ) (area : List ℕ) → (at ≡ until → ⊥) → filled_at seed strict t from area at until ≡ area
  unfolding filled_at
  filled-same from area h = ap (λ b. cond b (filled_for seed strict t (length area) from at) area) (ne_eqb at until h)

  pub filled_next : (from : ℕ) (area : List ℕ) → at ≡ until → filled_at seed strict t from area at until ≡ filled_for seed strict t (length area) from at
  unfolding filled_at
  filled_next from area e = ap (λ b. cond b (filled_for seed strict t (length area) from at) area) (eq-eqb at until e)

-- filling an area leaves its length
module _ (seed : Seed) (strict : Bool) (t : List ℕ) where
  entered-length : (slots : List ℕ) (ps : List Piece) → length (entered seed strict t slots ps) ≡ length slots
  unfolding entered
  entered-length slots [] = refl
  entered-length slots (p ∷ ps) =
      let x = head_of (line strict p) in
      entered-length (after_entering seed true t slots x) ps ∙ entering-length seed true t slots x

  pointed-length : (slots : List ℕ) (ps : List Piece) → length (pointed_back seed strict t slots ps) ≡ length slots
  unfolding pointed_back
  pointed-length slots [] = refl
  pointed-length slots (p ∷ ps) =
      let x = head_of (line strict p) in
      pointed-length (after_pointing seed t slots x) ps ∙ pointing-length seed t slots x

  pub filled-length : (n from at : ℕ) → length (filled_for seed strict t n from at) ≡ n
  unfolding filled_for
  filled-length n from at =
      let block = keyed_front strict (n / 4 * 3) (lines_from at (drop at t)) in
      pointed-length (entered seed strict t (replicate n 0) block) (earlier at (lines_from from (drop from t)))
      ∙ entered-length (replicate n 0) block
      ∙ length-replicate n 0
