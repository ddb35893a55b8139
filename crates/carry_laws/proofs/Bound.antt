-- What is written and what is skipped is small: both counts are at most 16,777,216.
use Prim.Native.Nat.{ℕ, ◌/◌, ◌≤◌}
use mathlib.Core.Path.{◌≡◌, refl, ap, subst, ◌∙◌}
use mathlib.Core.Bool.{Bool, true, false, cond}
use mathlib.Core.List.{List, []}
use mathlib.Core.Option.{Option, none, some}
use native.Mathlib.Omega.{arith}
use lib.ListN.{length}
use lib.Dec.{ltb}
use borrow.Author.Tests.{ltb-false}
use Rattle.format.specs.Reading.{longest}
use Rattle.format.specs.Tidy.{tidy}
use Rattle.format.specs.Calls.{Answer, refused, yes, then, fitting, writing}
use Rattle.lists.proofs.Bools.{never}
use Rattle.format.specs.Carrying.{kept_of, carried_lines, skips, rows, unwritable_line, carrying}
use Rattle.carry_laws.proofs.Count.{rows_few}

-- a text that is written is not too long
written-few : (room : ℕ) (o : Option ℕ) (t xs : List ℕ) → writing room o t ≡ yes xs → length xs ≤ 16777216
unfolding writing fitting longest
written-few room (some l) t xs e = absurd (never cc)
written-few room none t xs e = go (ltb 16777216 (length t)) refl (ltb room (length t)) e
  where
    go : (b : Bool) → ltb 16777216 (length t) ≡ b → (d : Bool) → cond b (refused 1 0) (cond d (refused 20 0) (yes t)) ≡ yes xs → length xs ≤ 16777216
    go true q d e = absurd (never cc)
    go false q true e = absurd (never cc)
    go false q false e =
        let z : t ≡ xs = cc in
        subst (λ s. length s ≤ 16777216) z (ltb-false 16777216 (length t) q)

-- what is answered
unfoldable answered : Answer (List ℕ × List ℕ) → List ℕ × List ℕ
answered (refused n l) = ([], [])
answered (yes a) = a

same-answers : (zs ws xs ys : List ℕ) → ◌≡◌ {A = Answer (List ℕ × List ℕ)} (yes (zs, ws)) (yes (xs, ys)) → (zs ≡ xs) × (ws ≡ ys)
unfolding answered
same-answers zs ws xs ys e = (ap (λ a. (answered a).0) e, ap (λ a. (answered a).1) e)

-- and what the table takes is the table
taken : (n : ℕ) (xs ys : List ℕ) → fitting n xs ≡ yes ys → xs ≡ ys
unfolding fitting
taken n xs ys e = go (ltb n (length xs)) e
  where
    go : (b : Bool) → cond b (refused 20 0) (yes xs) ≡ yes ys → xs ≡ ys
    go true e = absurd (never cc)
    go false e = cc

pub carried-few : (t : List ℕ) (room table : ℕ) (xs ys : List ℕ) → carrying t room table ≡ yes (xs, ys) → (length xs ≤ 16777216) × (length ys / 2 ≤ 16777216)
unfolding carrying longest then
carried-few t room table xs ys is =
    go (ltb 16777216 (length t)) refl (writing room (unwritable_line 0 (carried_lines t)) (tidy (kept_of (carried_lines t)))) refl _ (fitting _ found) refl is
  where
    found : List ℕ
    found = rows (skips 0 (carried_lines t))

    go : (b : Bool) → ltb 16777216 (length t) ≡ b → (a : Answer (List ℕ)) → writing room (unwritable_line 0 (carried_lines t)) (tidy (kept_of (carried_lines t))) ≡ a
        → (k : ℕ) (f : Answer (List ℕ)) → fitting k found ≡ f
        → cond {A = Answer (List ℕ × List ℕ)} b (refused 1 0) (then a (λ out. then f (λ ss. yes (out, ss)))) ≡ yes (xs, ys)
        → (length xs ≤ 16777216) × (length ys / 2 ≤ 16777216)
    go true q a w k f h e = absurd (never cc)
    go false q (refused n l) w k f h e = absurd (never cc)
    go false q (yes zs) w k (refused n l) h e = absurd (never cc)
    go false q (yes zs) w k (yes ss) h e =
        let same = same-answers zs ss xs ys e in (
          subst (λ s. length s ≤ 16777216) same.0 (written-few room (unwritable_line 0 (carried_lines t)) (tidy (kept_of (carried_lines t))) zs w),
          subst (λ s. length s / 2 ≤ 16777216) (taken k found ss h ∙ same.1) (omega (arith, rows_few t, ltb-false 16777216 (length t) q)),
        )
