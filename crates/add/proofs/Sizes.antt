-- How long the tidy text is with new programs.
use Prim.Native.Nat.{ℕ, ◌+◌, ◌≤◌, ◌<◌}
use mathlib.Core.Path.{◌≡◌, refl, ap, ◌∙◌}
use mathlib.Core.Bool.{Bool, true, false, ◌||◌}
use mathlib.Core.List.{List, [], ◌∷◌, ◌++◌}
use native.Mathlib.Omega.{arith}
use lib.ListN.{length, length-append}
use lib.Dec.{ltb}
use borrow.Author.Tests.{ltb-true, ltb-false}
use Rattle.format.specs.Records.{Record}
use Rattle.format.specs.Tidy.{tidy}
use Rattle.format.specs.declared.Kind.TheVariants.{Comment}
use Rattle.tidy_text.specs.Kinds.{text_of_kind, front_text}
use Rattle.tidy_text.proofs.Total.{tidy-kinds}
use Rattle.add_ids.specs.Taken.{id_in}
use Rattle.add_lines.specs.Line.{new_line}
use Rattle.add_lines.specs.Lines.{new_lines, added_text}
use Rattle.add_lines.proofs.Lines.{line-size}
use Rattle.add.specs.Added.{with_added}

-- part by part
pub with-parts : (rs : List Record) (new : List ℕ) → length (with_added rs new) ≡ length (front_text rs) + length new + length (text_of_kind Comment rs)
unfolding with_added
with-parts rs new = length-append (front_text rs ++ new) (text_of_kind Comment rs) ∙ ap (λ n. n + length (text_of_kind Comment rs)) (length-append (front_text rs) new)

-- the tidy text, and the new programs
pub with_size : (rs : List Record) (new : List ℕ) → length (with_added rs new) ≡ length (tidy rs) + length new
with_size rs new = omega (arith, with-parts rs new, ap length (tidy-kinds rs), length-append (front_text rs) (text_of_kind Comment rs))

-- ---- what is given is written

module _ (ids : List (List ℕ)) (linked : Bool) (prefix fields : List ℕ) where
  line-holds : (alone l : Bool) (id : List ℕ) → (length prefix ≤ length (new_line alone l prefix fields id)) × (length fields ≤ length (new_line alone l prefix fields id))
  line-holds alone l id = (omega (arith, line-size alone l prefix fields id), omega (arith, line-size alone l prefix fields id))

  lines-hold : (alone : Bool) (ks : List ℕ) → 0 < length ks
      → (length prefix ≤ length (new_lines ids alone linked prefix fields ks)) × (length fields ≤ length (new_lines ids alone linked prefix fields ks))
  unfolding new_lines
  lines-hold alone [] h = absurd (omega arith)
  lines-hold alone (k ∷ ks) h =
      let l = line-holds alone linked (id_in ids k) in
      let a = length-append (new_line alone linked prefix fields (id_in ids k)) (new_lines ids false linked prefix fields ks) in
      (omega (arith, l.0, a), omega (arith, l.1, a))

  added-holds : (empty alone : Bool) (ks : List ℕ) → (empty ≡ false → 0 < length ks)
      → (length prefix ≤ length (added_text ids empty alone linked prefix fields ks)) × (length fields ≤ length (added_text ids empty alone linked prefix fields ks))
  unfolding added_text
  added-holds true alone ks h = line-holds true false []
  added-holds false alone ks h = lines-hold alone ks (h refl)

  -- so what is too long by itself is too long with all the rest
  pub added-long : (empty alone : Bool) (ks : List ℕ) → (empty ≡ false → 0 < length ks)
      → ltb 16777216 (length prefix) || ltb 16777216 (length fields) ≡ true → 16777216 < length (added_text ids empty alone linked prefix fields ks)
  added-long empty alone ks h e = go (ltb 16777216 (length prefix)) refl e
    where
      go : (b : Bool) → ltb 16777216 (length prefix) ≡ b → b || ltb 16777216 (length fields) ≡ true → 16777216 < length (added_text ids empty alone linked prefix fields ks)
      go true q f = omega (arith, ltb-true 16777216 (length prefix) q, (added-holds empty alone ks h).0)
      go false q f = omega (arith, ltb-true 16777216 (length fields) f, (added-holds empty alone ks h).1)

-- neither is too long
pub both-short : (prefix fields : List ℕ) → ltb 16777216 (length prefix) || ltb 16777216 (length fields) ≡ false → (length prefix ≤ 16777216) × (length fields ≤ 16777216)
both-short prefix fields e = go (ltb 16777216 (length prefix)) refl e
  where
    go : (b : Bool) → ltb 16777216 (length prefix) ≡ b → b || ltb 16777216 (length fields) ≡ false → (length prefix ≤ 16777216) × (length fields ≤ 16777216)
    go true q f = absurd (let z : ◌≡◌ {A = ℕ} 0 1 = cc in omega arith)
    go false q f = (ltb-false _ _ q, ltb-false _ _ f)
