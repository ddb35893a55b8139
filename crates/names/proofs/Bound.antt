-- How much a batch looks at: for each name at most one more slot than there are SQ, and so few that the number fits in 64 bits.
use Prim.Native.Nat.{ℕ, ◌+◌, ◌*◌, ◌^◌, ◌≤◌, ◌<◌}
use mathlib.Core.Path.{◌≡◌, refl, sym, ap, subst, ◌∙◌}
use mathlib.Core.Bool.{Bool, true, false, cond}
use mathlib.Core.List.{List, [], ◌∷◌, map}
use native.Mathlib.Omega.{arith}
use native.Mathlib.Nat.{suc-mul, mul-le-mul}
use lib.ListN.{length, length-map}
use lib.Dec.{ltb}
use borrow.Author.Tests.{ltb-false}
use Rattle.format.specs.Reading.{longest}
use Rattle.format.specs.Calls.{Answer, refused, yes, then, fitting}
use Rattle.accepted.specs.Read.{records_of}
use Rattle.read.proofs.Fresh.{Current, refused-is-no-answer, passed, goes_on}
use Rattle.format.specs.NameIndex.{name_ordinal, index, looks}
use Rattle.name_index.proofs.Indexed.{indexed}
use Rattle.format.specs.Asked.{asked}
use Rattle.name_list.proofs.Asked.{asked-few}
use Rattle.format.specs.Summed.{summed}
use Rattle.format.specs.Batch.{references, batched, batching}
use Rattle.names.proofs.References.{few-names}

-- ---- over a list of names

summed-most : (f : List ℕ → ℕ) (n : ℕ) → ((x : List ℕ) → f x ≤ n) → (ys : List (List ℕ)) → summed f ys ≤ length ys * n
unfolding summed
summed-most f n h [] = omega arith
summed-most f n h (y ∷ ys) = omega (arith, h y, summed-most f n h ys, suc-mul (length ys) n)

-- what an answer says
pub record Bounded (m : ℕ) (a : List ℕ × List ℕ × ℕ) : Type 0 where
  pub few : length a.0 ≤ 16777216
  pub most : a.2 ≤ length a.0 * (m + 1)

unfoldable told_of : List ℕ × List ℕ × ℕ → Answer (List ℕ × List ℕ × ℕ) → List ℕ × List ℕ × ℕ
told_of z (refused n l) = z
told_of z (yes a) = a

answer-bound : (xs : List (List ℕ)) (list : List ℕ) (work room : ℕ) (a : List ℕ × List ℕ × ℕ) → batched xs list work room ≡ yes a → Bounded (length xs) a
unfolding batched then fitting longest told_of
answer-bound xs list work room a is = go (ltb longest (length list)) refl (ltb work (length (index xs))) (ltb room (length (map (name_ordinal xs) (asked list)))) is
  where
    found : List ℕ
    found = map (name_ordinal xs) (asked list)

    sum : ℕ
    sum = summed (looks xs) (asked list)

    own : length list ≤ longest → Bounded (length xs) (found, index xs, sum)
    own h =
        let n : length found ≡ length (asked list) = length-map (asked list) (name_ordinal xs) in
        record {
          few = omega (arith, n, asked-few list, h);
          most = subst (λ k. sum ≤ k * (length xs + 1)) (sym n) (summed-most (looks xs) (length xs + 1) (indexed xs).soon (asked list));
        }

    go : (b : Bool) → ltb longest (length list) ≡ b → (d e : Bool)
        → cond b (refused 1 0) (then (cond d (refused 20 0) (yes (index xs))) (λ slots. then (cond e (refused 20 0) (yes found)) (λ r. yes (r, slots, sum)))) ≡ yes a
        → Bounded (length xs) a
    go true q d e h = absurd (refused-is-no-answer 1 0 a h)
    go false q true e h = absurd (refused-is-no-answer 20 0 a h)
    go false q false true h = absurd (refused-is-no-answer 20 0 a h)
    go false q false false h = subst (Bounded (length xs)) (ap (told_of a) h) (own (ltb-false longest (length list) q))

-- ---- whatever the text, the catalogue and the list are

module _ (t c list : List ℕ) (work room : ℕ) (a : List ℕ × List ℕ × ℕ) (is : batching t c list work room ≡ yes a) where
  own : Current t c
  unfolding batching
  own = passed t c (λ rs. batched (references rs) list work room) a is

  bounded : Bounded (length (references (records_of t))) a
  unfolding batching
  bounded = answer-bound (references (records_of t)) list work room a (sym (goes_on t c (λ rs. batched (references rs) list work room) own) ∙ is)

  -- a list has at most as many names as bytes
  pub batch-few : length a.0 ≤ 16777216
  batch-few = bounded.few

  -- at most one more slot for each name than there are SQ
  pub batch-bound : a.2 ≤ length a.0 * (length (references (records_of t)) + 1)
  batch-bound = bounded.most

  -- the sum is far below 2 ^ 64
  pub batch-fits : a.2 < 2 ^ 64
  batch-fits =
      let m : length (references (records_of t)) + 1 ≤ 16777217 = omega (arith, few-names t (records_of t) own.reads) in
      omega (arith, batch-bound, mul-le-mul bounded.few m)
