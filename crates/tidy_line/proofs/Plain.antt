-- Digits with no leading zero are how their worth is written.
use Prim.Native.Nat.{ℕ, ◌+◌, ◌-◌, ◌*◌, ◌%◌, ◌^◌, ◌≤◌, ◌<◌}
use mathlib.Core.Path.{◌≡◌, sym, ap, ◌∙◌}
use mathlib.Core.Bool.{true}
use mathlib.Core.List.{List, [], ◌∷◌, ◌++◌, append_assoc, append-nil}
use native.Mathlib.Omega.{arith}
use lib.ListN.{get_or}
use lib.Dec.{leb}
use borrow.Author.Tests.{leb-true}
use Rattle.format.specs.Bytes.{digit, all, none?, between}
use Rattle.format.specs.Decimal.{worth, worth_from, digits, written}
use Rattle.lists.proofs.Bools.{never, and_left, and_right}
use Rattle.decimal.proofs.Front.{digit-top, worth-grows}
use Rattle.decimal.proofs.Written.{written_one, written_step}

digit-bottom : (b : ℕ) → digit b ≡ true → 48 ≤ b
unfolding digit between
digit-bottom b h = leb-true 48 b (and_left (leb 48 b) (leb b 57) h)

-- digits after a number that is not 0
behind : (n : ℕ) (ds : List ℕ) → 1 ≤ n → all digit ds ≡ true → worth_from n ds < 10 ^ 20 → written (worth_from n ds) ≡ written n ++ ds
unfolding all worth_from
behind n [] h d l = sym (append-nil (written n))
behind n (b ∷ ds) h d l =
    let m : ℕ = n * 10 + (b - 48) in
    let x : digit b ≡ true = and_left (digit b) (all digit ds) d in
    let lo : 48 ≤ b = digit-bottom b x in
    let hi : b ≤ 57 = digit-top b x in
    let w : written m ≡ written n ++ (b ∷ []) =
    written_step m (omega (arith, worth-grows m ds, l)) (omega arith)
    ∙ ap (λ k. written k ++ ((48 + m % 10) ∷ [])) (omega arith)
    ∙ ap (λ k. written n ++ (k ∷ [])) (omega arith) in
    behind m ds (omega arith) (and_right (digit b) (all digit ds) d) l ∙ ap (λ s. s ++ ds) w ∙ append_assoc (written n) (b ∷ []) ds

pub written-plain : (ds : List ℕ) → digits ds ≡ true → worth ds < 10 ^ 20 → (get_or ds 0 0 ≡ 48 → ⊥) → written (worth ds) ≡ ds
unfolding digits worth worth_from none? all
written-plain [] d l z = absurd (never (cc))
written-plain (b ∷ ds) d l z =
    let x : digit b ≡ true = and_left (digit b) (all digit ds) d in
    let lo : 48 ≤ b = digit-bottom b x in
    let hi : b ≤ 57 = digit-top b x in
    let e : 0 * 10 + (b - 48) ≡ b - 48 = omega arith in
    let p : 1 ≤ b - 48 = positive b lo z in
    ap (λ n. written (worth_from n ds)) e
    ∙ behind (b - 48) ds p (and_right (digit b) (all digit ds) d) (rw (← e) l)
    ∙ ap (λ s. s ++ ds) (written_one (b - 48) (omega arith) ∙ ap (λ k. k ∷ []) (omega arith))
  where
    positive : (b : ℕ) → 48 ≤ b → (b ≡ 48 → ⊥) → 1 ≤ b - 48
    positive b lo z = omega (arith, lo, z)
