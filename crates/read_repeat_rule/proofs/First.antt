-- The laws of `first_version` over the pieces between tabs: the first piece decides if it starts `VN:`, else what follows the next tab does.
use Prim.Native.Nat.{ℕ, suc, ◌≤◌, ◌<◌}
use mathlib.Core.Path.{◌≡◌, refl}
use mathlib.Core.Bool.{Bool, true, false}
use mathlib.Core.List.{List, [], ◌∷◌}
use mathlib.Core.Logic.{⊎_elim}
use mathlib.Core.Option.{none}
use native.Mathlib.Omega.{arith}
use lib.ListN.{length, take, drop}
use lib.Seq.{take-nil}
use lib.Dec.{ltb}
use borrow.Author.Tests.{ltb-true, ltb-false}
use Rattle.format.specs.Bytes.{starts}
use Rattle.format.specs.Lines.{lines, cut}
use Rattle.format.specs.Reading.{first_version, announced}
use Rattle.format.specs.Version.{version}
use Rattle.byte_slices.specs.Upto.{upto, before}
use Rattle.byte_slices.specs.First.{first_line}
use Rattle.byte_slices.proofs.Before.{upto-cases}
use Rattle.byte_slices.proofs.Equal.{starts-short}
use Rattle.byte_slices.proofs.First.{lines-first}
use Rattle.byte_slices.proofs.Pieces.{cut-last, cut-more}

-- what starts with `p` is as long
pub starts-long : (p s : List ℕ) → starts p s ≡ true → length p ≤ length s
starts-long p s e = go (ltb (length s) (length p)) refl
  where
    go : (t : Bool) → ltb (length s) (length p) ≡ t → length p ≤ length s
    go true q = absurd (let h = starts-short p s (ltb-true _ _ q) in let z : ◌≡◌ {A = ℕ} 0 1 = cc in omega arith)
    go false q = ltb-false _ _ q

module _ (s : List ℕ) where
  pub first-here : starts (86 ∷ 78 ∷ 58 ∷ []) (before 9 s) ≡ true → first_version (cut 9 s) ≡ version (drop 3 (before 9 s))
  unfolding first_version
  first-here e = ⊎_elim (λ h. rw (cut-more 9 s h, e) refl) (λ h. rw (cut-last 9 s h, e) refl) (upto-cases 9 s)

  pub first_next : starts (86 ∷ 78 ∷ 58 ∷ []) (before 9 s) ≡ false → upto 9 s < length s
      → first_version (cut 9 s) ≡ first_version (cut 9 (drop (suc (upto 9 s)) s))
  unfolding first_version
  first_next e h = rw (cut-more 9 s h, e) refl

  pub first-none : starts (86 ∷ 78 ∷ 58 ∷ []) (before 9 s) ≡ false → upto 9 s ≡ length s → first_version (cut 9 s) ≡ none
  unfolding first_version
  first-none e h = rw (cut-last 9 s h, e) refl

-- only line 0 decides; a text without lines announces nothing, like an empty line
pub announced-first : (s : List ℕ) → announced (lines s) ≡ announced (record { at = 0; bytes = take (first_line s).len s } ∷ [])
unfolding announced lines
announced-first [] = rw (take-nil (first_line []).len) refl
announced-first (b ∷ s) = rw (lines-first 0 (b ∷ s) (omega arith)) refl
