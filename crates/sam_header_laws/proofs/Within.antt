-- What a call writes fits in its output, and what a call counts is small.
use Prim.Native.Nat.{ℕ, zero, suc, ◌≤◌, ◌<◌}
use mathlib.Core.Path.{◌≡◌, refl, sym, ap, subst, ◌∙◌}
use mathlib.Core.Bool.{Bool, true, false, cond, ◌&&◌}
use mathlib.Core.List.{List, [], ◌∷◌}
use mathlib.Core.Option.{Option, none, some}
use native.Mathlib.Omega.{arith}
use lib.ListN.{length, get_elem?}
use lib.Dec.{eqb, ltb, leb}
use borrow.Author.Tests.{ltb-false}
use Rattle.format.specs.Lines.{lines}
use Rattle.format.specs.Records.{Record, code}
use Rattle.format.specs.Reading.{longest, of_kind}
use Rattle.format.specs.Calls.{Answer, refused, yes, then, fresh, fitting, writing, counting, locating}
use Rattle.accepted.specs.Read.{records_of}
use Rattle.lists.proofs.Bools.{never}
use Rattle.accepted.proofs.Text.{text-count, text-fits}
use Rattle.accepted.proofs.Onward.{lines-count}
use Rattle.tidy_laws.proofs.Answered.{Gave, then-yes, writing-yes}
use Rattle.read.proofs.Fresh.{Current, passed, goes_on}
use Rattle.calls.proofs.Located.{line_on}

-- ---- what is written

-- whatever is answered passes
unfoldable pub Within : ℕ → Answer (List ℕ) → Type 0
Within room a = (xs : List ℕ) → a ≡ yes xs → length xs ≤ room

pub fitting-within : (room : ℕ) (s : List ℕ) → Within room (fitting room s)
unfolding Within fitting
fitting-within room s xs e = go (ltb room (length s)) refl e
  where
    go : (t : Bool) → ltb room (length s) ≡ t → cond {A = Answer (List ℕ)} t (refused 20 0) (yes s) ≡ yes xs → length xs ≤ room
    go true q e = absurd (never cc)
    go false q e = let z : s ≡ xs = cc in subst (λ x. length x ≤ room) z (ltb-false room (length s) q)

pub writing-within : (room : ℕ) (o : Option ℕ) (s : List ℕ) → Within room (writing room o s)
unfolding Within writing longest
writing-within room (some l) s xs e = absurd (never cc)
writing-within room none s xs e = go (ltb 16777216 (length s)) e
  where
    go : (t : Bool) → cond t (refused 1 0) (fitting room s) ≡ yes xs → length xs ≤ room
    go true e = absurd (never cc)
    go false e = unfold Within in fitting-within room s xs e

pub then-within : {A : Type 0} (room : ℕ) (a : Answer A) (f : A → Answer (List ℕ)) → ((x : A) → Within room (f x)) → Within room (then a f)
unfolding Within
then-within room a f h xs e = let g = then-yes a f xs e in h g.value xs g.second

pub cond-within : (room n l : ℕ) (t : Bool) (a : Answer (List ℕ)) → Within room a → Within room (cond t (refused n l) a)
unfolding Within
cond-within room n l true a h xs e = absurd (never cc)
cond-within room n l false a h xs e = h xs e

-- ---- what is counted

pub kind-few : (k : ℕ) (rs : List Record) → length (of_kind k rs) ≤ length rs
unfolding of_kind
kind-few k [] = omega arith
kind-few k (r ∷ rs) = go (eqb (code r) k) (kind-few k rs)
  where
    go : (t : Bool) → length (of_kind k rs) ≤ length rs → length (cond t (r ∷ of_kind k rs) (of_kind k rs)) ≤ suc (length rs)
    go true h = omega arith
    go false h = omega arith

-- as many records as the text has bytes, at most
pub count_small : (t c : List ℕ) (k n : ℕ) → counting t c k ≡ yes n → n ≤ 16777216
unfolding counting
count_small t c k n e =
    let own = passed t c (λ rs. cond (leb 1 k && leb k 5) (yes (length (of_kind k rs))) (refused 25 0)) n e in
    let g = goes_on t c (λ rs. cond (leb 1 k && leb k 5) (yes (length (of_kind k rs))) (refused 25 0)) own in
    go (leb 1 k && leb k 5) own (sym g ∙ e)
  where
    go : (b : Bool) → Current t c → cond {A = Answer ℕ} b (yes (length (of_kind k (records_of t)))) (refused 25 0) ≡ yes n → n ≤ 16777216
    go true own e =
        let z : length (of_kind k (records_of t)) ≡ n = cc in
        omega (arith, z, kind-few k (records_of t), text-count t (records_of t) own.reads, text-fits t (records_of t) own.reads)
    go false own e = absurd (never cc)

there-is : {A : Type 0} (xs : List A) (i : ℕ) (x : A) → get_elem? xs i ≡ some x → i < length xs
there-is [] i x e = absurd (never cc)
there-is (y ∷ ys) zero x e = omega arith
there-is (y ∷ ys) (suc i) x e = omega (arith, there-is ys i x e)

-- a line of the text
pub line_small : (t c : List ℕ) (k i l : ℕ) → locating t c k i ≡ yes l → l ≤ 16777216
unfolding lines
line_small t c k i l e =
    let on = line_on t c k i l e in
    omega (arith, there-is (lines t) l on.cut on.stands, lines-count 0 t, text-fits t (records_of t) on.accepted)
