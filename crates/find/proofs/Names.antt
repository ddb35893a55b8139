-- Where `names` answers, it answers for each name of the list what `find` answers, and 4,294,967,295 exactly if that is 25.
use Prim.Native.Nat.{ℕ, suc, ◌+◌, ◌<◌}
use mathlib.Core.Path.{◌≡◌, refl, sym, ap, ◌∙◌}
use mathlib.Core.Bool.{Bool, true, false, cond}
use mathlib.Core.List.{List, [], ◌∷◌, map}
use mathlib.Core.Option.{Option, none, some}
use native.Mathlib.Omega.{arith}
use lib.ListN.{length}
use lib.Dec.{ltb}
use Rattle.format.specs.Bytes.{same}
use Rattle.format.specs.Records.{Record, header, reference, group, program, comment, code, key}
use Rattle.format.specs.Reading.{of_kind, longest}
use Rattle.format.specs.Programs.{bytes_of}
use Rattle.format.specs.Calls.{refused, yes, then, fitting, there}
use Rattle.accepted.specs.Read.{records_of}
use Rattle.lists.proofs.Bools.{never}
use Rattle.accepted.proofs.Text.{text-count, text-fits}
use Rattle.read.proofs.Fresh.{Current, refused-is-no-answer, passed, goes_on}
use Rattle.format.specs.Asked.{asked}
use Rattle.format.specs.NameIndex.{absent, name_ordinal_from, name_ordinal, index, looks}
use Rattle.format.specs.Summed.{summed}
use Rattle.format.specs.Batch.{references, batched, batching}
use Rattle.format.specs.Finding.{equals_key, key_ordinal_from, finding}
use Rattle.find.specs.Laws.{or_absent}
use Rattle.find.proofs.OwnCatalogue.{kind-few, finds}

-- ---- over records

plain : (n : ℕ) (x : List ℕ) (rs : List Record) → name_ordinal_from n (map (λ r. bytes_of (key r)) (of_kind 2 rs)) x ≡ or_absent (there (key_ordinal_from n x (of_kind 2 rs)))
unfolding name_ordinal_from or_absent there key_ordinal_from equals_key bytes_of key of_kind code
plain n x [] = refl
plain n x (header v fs ∷ rs) = plain n x rs
plain n x (reference p m fs ∷ rs) = go (same x p.bytes) (plain (n + 1) x rs)
  where
    go : (b : Bool) → name_ordinal_from (n + 1) (map (λ r. bytes_of (key r)) (of_kind 2 rs)) x ≡ or_absent (there (key_ordinal_from (n + 1) x (of_kind 2 rs)))
        → cond b n (name_ordinal_from (n + 1) (map (λ r. bytes_of (key r)) (of_kind 2 rs)) x) ≡ or_absent (there (cond b (some n) (key_ordinal_from (n + 1) x (of_kind 2 rs))))
    go true ih = refl
    go false ih = ih
plain n x (group p fs ∷ rs) = plain n x rs
plain n x (program p fs ∷ rs) = plain n x rs
plain n x (comment p ∷ rs) = plain n x rs

-- an ordinal that is found is below how many there are
below : (n : ℕ) (x : List ℕ) (qs : List Record) (i : ℕ) → key_ordinal_from n x qs ≡ some i → i < n + length qs
unfolding key_ordinal_from
below n x [] i e = absurd (never cc)
below n x (q ∷ qs) i e = go (equals_key x (key q)) (below (n + 1) x qs i) e
  where
    go : (b : Bool) → (key_ordinal_from (n + 1) x qs ≡ some i → i < n + 1 + length qs) → cond b (some n) (key_ordinal_from (n + 1) x qs) ≡ some i → i < n + suc (length qs)
    go true ih e = let z : n ≡ i = cc in omega (arith, z)
    go false ih e = omega (arith, ih e)

-- ---- over the text's own catalogue

module _ (t c : List ℕ) (own : Current t c) (x : List ℕ) where
  abbrev sq : List Record
  sq = of_kind 2 (records_of t)

  -- the plain search finds what `find` finds
  pub plain-finds : name_ordinal (references (records_of t)) x ≡ or_absent (finding t c 2 x)
  unfolding name_ordinal references
  plain-finds = plain 0 x (records_of t) ∙ ap or_absent (sym (finds t c own 2 x))

  -- and nothing exactly if that is 25
  pub absent-is-25 : name_ordinal (references (records_of t)) x ≡ absent → finding t c 2 x ≡ refused 25 0
  unfolding or_absent absent there
  absent-is-25 e = go (key_ordinal_from 0 x sq) refl
    where
      go : (o : Option ℕ) → key_ordinal_from 0 x sq ≡ o → finding t c 2 x ≡ refused 25 0
      go none q = finds t c own 2 x ∙ ap there q
      go (some i) q =
          let f : finding t c 2 x ≡ yes i = finds t c own 2 x ∙ ap there q in
          let z : i ≡ absent = sym (ap or_absent f) ∙ sym plain-finds ∙ e in
          absurd (omega (arith, z, below 0 x sq i q, kind-few 2 (records_of t), text-count t (records_of t) own.reads, text-fits t (records_of t) own.reads))

  pub absent-by-25 : finding t c 2 x ≡ refused 25 0 → name_ordinal (references (records_of t)) x ≡ absent
  unfolding or_absent
  absent-by-25 e = plain-finds ∙ ap or_absent e

-- ---- whatever the text, the catalogue and the list are

pub names-found : (t c list : List ℕ) (work room : ℕ) (a : List ℕ × List ℕ × ℕ) → batching t c list work room ≡ yes a → a.0 ≡ map (λ x. or_absent (finding t c 2 x)) (asked list)
unfolding batching
names-found t c list work room a e =
    let own = passed t c (λ rs. batched (references rs) list work room) a e in
    told (references (records_of t)) (sym (goes_on t c (λ rs. batched (references rs) list work room) own) ∙ e) ∙ each own (asked list)
  where
    each : Current t c → (xs : List (List ℕ)) → map (name_ordinal (references (records_of t))) xs ≡ map (λ x. or_absent (finding t c 2 x)) xs
    each own [] = refl
    each own (x ∷ xs) = rw (plain-finds t c own x, each own xs) refl

    told : (xs : List (List ℕ)) → batched xs list work room ≡ yes a → a.0 ≡ map (name_ordinal xs) (asked list)
    told xs e = unfold batched then fitting longest in go (ltb longest (length list)) (ltb work (length (index xs))) (ltb room (length (map (name_ordinal xs) (asked list)))) e
      where
        found : List ℕ
        found = map (name_ordinal xs) (asked list)

        sum : ℕ
        sum = summed (looks xs) (asked list)

        go : (b d f : Bool)
            → cond b (refused 1 0) (then (cond d (refused 20 0) (yes (index xs))) (λ slots. then (cond f (refused 20 0) (yes found)) (λ r. yes (r, slots, sum)))) ≡ yes a
            → a.0 ≡ found
        go true d f h = absurd (refused-is-no-answer 1 0 a h)
        go false true f h = unfold then in absurd (refused-is-no-answer 20 0 a h)
        go false false true h = unfold then in absurd (refused-is-no-answer 20 0 a h)
        go false false false h = unfold then in (let z : ◌≡◌ {A = List ℕ × List ℕ × ℕ} (found, index xs, sum) a = cc in sym (ap (λ y. y.0) z))
