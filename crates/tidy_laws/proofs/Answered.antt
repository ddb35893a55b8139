-- What a call that is answered has passed, and what it answers.
use Prim.Native.Nat.{ℕ, zero, suc, ◌≤◌}
use mathlib.Core.Path.{◌≡◌, refl, sym, ap, ◌∙◌}
use mathlib.Core.Bool.{Bool, true, false, cond}
use mathlib.Core.List.{List}
use mathlib.Core.Option.{Option, none, some}
use lib.ListN.{length}
use lib.Dec.{ltb}
use borrow.Author.Tests.{ltb-false}
use Rattle.format.specs.Bytes.{same}
use Rattle.format.specs.Records.{Record}
use Rattle.format.specs.Reading.{Reading, refused_text, accept, read_text, longest}
use Rattle.format.specs.Catalogue.{catalogue}
use Rattle.format.specs.Calls.{Answer, refused, yes, then, read_answer, records, current, fresh, untangled, fitting, writing, reading}
use Rattle.lists.proofs.Bools.{never}

-- the answer of the first call, and of what goes on with it
pub record Gave {A B : Type 0} (a : Answer A) (f : A → Answer B) (y : B) : Type 0 where
  pub value : A
  pub first : a ≡ yes value
  pub second : f value ≡ yes y

pub then-yes : {A B : Type 0} (a : Answer A) (f : A → Answer B) (y : B) → then a f ≡ yes y → Gave a f y
unfolding then
then-yes (refused n l) f y e = absurd (never (cc))
then-yes (yes x) f y e = record { value = x; first = refl; second = e }

-- a text whose records are answered was accepted
pub read_of : (t : List ℕ) (rs : List Record) → records t ≡ yes rs → read_text t ≡ accept rs
unfolding records read_answer
read_of t rs e = go (read_text t) e
  where
    go : (g : Reading) → read_answer g ≡ yes rs → g ≡ accept rs
    go (refused_text n l) e = absurd (never (cc))
    go (accept qs) e = let q : qs ≡ rs = cc in ap accept q

-- its catalogue was current
current-yes : (c : List ℕ) (rs qs : List Record) → current c rs ≡ yes qs → rs ≡ qs
unfolding current
current-yes c rs qs e = go (same c (catalogue rs)) e
  where
    go : (t : Bool) → cond {A = Answer (List Record)} t (yes rs) (refused 21 0) ≡ yes qs → rs ≡ qs
    go true e = cc
    go false e = absurd (never (cc))

pub fresh-yes : (t c : List ℕ) (rs : List Record) → fresh t c ≡ yes rs → read_text t ≡ accept rs
unfolding fresh
fresh-yes t c rs e =
    let g : Gave (records t) (current c) rs = then-yes (records t) (current c) rs e in
    read_of t g.value g.first ∙ ap accept (current-yes c g.value rs g.second)

-- no program was tangled
pub untangled-yes : (rs qs : List Record) (n : ℕ) → untangled rs n ≡ yes qs → (n ≡ 0) × (rs ≡ qs)
unfolding untangled
untangled-yes rs qs zero e = (refl, cc)
untangled-yes rs qs (suc n) e = absurd (never (cc))

-- what was written fits
pub fitting-yes : (room : ℕ) (s out : List ℕ) → fitting room s ≡ yes out → out ≡ s
unfolding fitting
fitting-yes room s out e = go (ltb room (length s)) e
  where
    go : (t : Bool) → cond {A = Answer (List ℕ)} t (refused 20 0) (yes s) ≡ yes out → out ≡ s
    go true e = absurd (never (cc))
    go false e = cc

pub writing-yes : (room : ℕ) (o : Option ℕ) (s out : List ℕ) → writing room o s ≡ yes out → (o ≡ none) × (length s ≤ 16777216) × (out ≡ s)
unfolding writing longest
writing-yes room (some l) s out e = absurd (never (cc))
writing-yes room none s out e = go (ltb 16777216 (length s)) refl e
  where
    go : (t : Bool) → ltb 16777216 (length s) ≡ t → cond t (refused 1 0) (fitting room s) ≡ yes out → (◌≡◌ {A = Option ℕ} none none) × (length s ≤ 16777216) × (out ≡ s)
    go true q e = absurd (never (cc))
    go false q e = (refl, ltb-false 16777216 (length s) q, fitting-yes room s out e)

-- the catalogue that reading answers
pub reading-yes : (t : List ℕ) (room : ℕ) (c : List ℕ) (rs : List Record) → records t ≡ yes rs → reading t room ≡ yes c → c ≡ catalogue rs
unfolding reading then
reading-yes t room c rs r e = fitting-yes room (catalogue rs) c (sym (ap (λ a. then a (λ rs. fitting room (catalogue rs))) r) ∙ e)
