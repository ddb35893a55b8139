-- A text that has been measured: where it is unfit the definitions refuse with that number, and otherwise it is written and fits.
use Prim.Native.Nat.{ℕ, zero, suc, ◌+◌, ◌≤◌, ◌<◌}
use mathlib.Core.Path.{◌≡◌, refl, sym, ap, ◌∙◌}
use mathlib.Core.Bool.{Bool, true, false, cond}
use mathlib.Core.List.{List}
use mathlib.Core.Option.{Option, none, some}
use native.Mathlib.Omega.{arith}
use lib.ListN.{length}
use lib.Dec.{ltb}
use borrow.Author.Tests.{lt-ltb, le-ltb, ltb-false}
use Rattle.format.specs.Reading.{longest}
use Rattle.format.specs.Calls.{Answer, refused, yes, fitting, writing}
use Rattle.tidy_sizes.specs.Plan.{unfit}

-- ---- test by test

module _ (n besides room : ℕ) where
  pub unfit-long : 16777216 < n → 1 ≡ unfit n besides room
  unfolding unfit longest
  unfit-long h = rw (lt-ltb 16777216 n h) refl

  pub unfit-short : n ≤ 16777216 → room < n + besides → 20 ≡ unfit n besides room
  unfolding unfit longest
  unfit-short h s = rw (le-ltb 16777216 n h, lt-ltb room (n + besides) s) refl

  pub unfit-none : n ≤ 16777216 → n + besides ≤ room → 0 ≡ unfit n besides room
  unfolding unfit longest
  unfit-none h s = rw (le-ltb 16777216 n h, le-ltb room (n + besides) s) refl

-- ---- the plan and the answer

-- the answer for a text of `n` bytes that is written as the bytes `xs`: 1, then 20, or these
unfoldable pub fitted : ℕ → ℕ → List ℕ → Answer (List ℕ)
unfolding longest fitting
fitted n room xs = cond (ltb longest n) (refused 1 0) (fitting room xs)

-- it is refused, or `xs`, by what was found
unfoldable told : ℕ → List ℕ → Answer (List ℕ)
told zero xs = yes xs
told (suc u) xs = refused (suc u) 0

told-not-0 : (u : ℕ) (xs : List ℕ) → (u ≡ 0 → ⊥) → told u xs ≡ refused u 0
unfolding told
told-not-0 zero xs h = absurd (h refl)
told-not-0 (suc u) xs h = refl

module _ (n besides room u : ℕ) (e : u ≡ unfit n besides room) where
  -- 0 says that it fits
  pub unfit-not : u ≡ 0 → (n ≤ 16777216) × (n + besides ≤ room)
  unfolding unfit longest
  unfit-not z = go (ltb 16777216 n) refl (ltb room (n + besides)) refl (sym e ∙ z)
    where
      go : (a : Bool) → ltb 16777216 n ≡ a → (b : Bool) → ltb room (n + besides) ≡ b → ◌≡◌ {A = ℕ} (cond a 1 (cond b 20 0)) 0 → (n ≤ 16777216) × (n + besides ≤ room)
      go true x b y q = absurd (omega (arith, q))
      go false x true y q = absurd (omega (arith, q))
      go false x false y q = (ltb-false 16777216 n x, ltb-false room (n + besides) y)

  module _ (xs : List ℕ) (size : length xs ≡ n + besides) where
    fitted-told : fitted n room xs ≡ told u xs
    unfolding fitted fitting unfit longest told
    fitted-told = rw (e, size) (go (ltb 16777216 n) (ltb room (n + besides)))
      where
        go : (a b : Bool) → cond a (refused 1 0) (cond b (refused 20 0) (yes xs)) ≡ told (cond a 1 (cond b 20 0)) xs
        go true b = refl
        go false true = refl
        go false false = refl

    pub fitted-unfit : (u ≡ 0 → ⊥) → fitted n room xs ≡ refused u 0
    fitted-unfit h = fitted-told ∙ told-not-0 u xs h

    pub fitted-fits : u ≡ 0 → fitted n room xs ≡ yes xs
    unfolding told
    fitted-fits z = fitted-told ∙ ap (λ u. told u xs) z

-- ---- 24, then that answer

module _ (room : ℕ) (o : Option ℕ) (t : List ℕ) where
  pub write-bad : (l : ℕ) → o ≡ some l → writing room o t ≡ refused 24 l
  unfolding writing
  write-bad l e = rw e refl

  module _ (e : o ≡ none) where
    writes : writing room o t ≡ fitted (length t) room t
    unfolding writing fitted
    writes = rw e refl

    module _ (n u : ℕ) (size : length t ≡ n) (p : u ≡ unfit n 0 room) where
      pub write-unfit : (u ≡ 0 → ⊥) → writing room o t ≡ refused u 0
      write-unfit h = writes ∙ ap (λ k. fitted k room t) size ∙ fitted-unfit n 0 room u p t (omega (arith, size)) h

      pub write-fits : u ≡ 0 → writing room o t ≡ yes t
      write-fits z = writes ∙ ap (λ k. fitted k room t) size ∙ fitted-fits n 0 room u p t (omega (arith, size)) z
